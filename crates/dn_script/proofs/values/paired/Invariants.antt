use Rattle.std.proofs.Common.{◌≡◌, ◌++◌, length}
use Rattle.dn_script.specs.Value.{pairs_of}
use Rattle.dn_script.proofs.values.paired.Given as goal

-- the bytes so far, and those that are left, are those of all
abbrev pub invariant-loop-rest : goal.invariant-loop-rest
invariant-loop-rest l = l.bytes.items ++ pairs_of l.rest ≡ pairs_of l.digits

abbrev pub decreases-loop-rest : goal.decreases-loop-rest
decreases-loop-rest l = length l.rest
