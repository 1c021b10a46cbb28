use Rattle.std.proofs.Common.{◌≡◌, ◌+◌, ◌*◌, slice_index}
use Rattle.dn_ring.proofs.PointLaws.{IsNearestOf}
use Rattle.dn_ring.proofs.owners.owner.Given as goal

-- the nearest of the points so far
abbrev pub invariant-loop-number : goal.invariant-loop-number
invariant-loop-number l = IsNearestOf l.live l.slot (16 * l.lane-index + l.number) l.first × (l.lane ≡ slice_index l.live l.lane-index)

abbrev pub invariant-loop-lane : goal.invariant-loop-lane
invariant-loop-lane l = IsNearestOf l.live l.slot (16 * l.lane-index) l.first
