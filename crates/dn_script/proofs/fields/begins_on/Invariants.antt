use Rattle.std.proofs.Common.{◌≡◌, drop}
use Rattle.dn_script.specs.Found.{left_of}
use Rattle.dn_script.specs.Sentence.{begins}
use Rattle.dn_script.proofs.fields.begins_on.Given as goal

-- the parts and fields that are left say what all say
abbrev pub invariant-loop-part : goal.invariant-loop-part
invariant-loop-part l = begins (drop l.part-index l.parts) (left_of l.rest) ≡ begins l.parts (left_of l.fn.rest)
