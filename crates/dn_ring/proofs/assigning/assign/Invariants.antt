use Rattle.dn_ring.proofs.SweepLaws.{IsSwept}
use Rattle.dn_ring.proofs.assigning.assign.Given as goal

-- the slots from the last one down to this one have their owners
abbrev pub invariant-loop-slot : goal.invariant-loop-slot
invariant-loop-slot l = IsSwept l.live l.slots l.lane l.slot
