use Rattle.std.proofs.Common.{◌≡◌, drop}
use Rattle.dn_script.specs.Found.{left_of, said_by}
use Rattle.dn_script.specs.Said.{reading}
use Rattle.dn_script.proofs.fields.read_on.Given as goal

-- the parts and fields that are left give what all give
abbrev pub invariant-loop-part : goal.invariant-loop-part
invariant-loop-part l =
    reading l.rules (drop l.part-index l.parts) (left_of l.rest) (said_by l.found) ≡ reading l.rules l.parts (left_of l.fn.rest) (said_by l.fn.found)
