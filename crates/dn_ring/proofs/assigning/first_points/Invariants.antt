use Rattle.std.proofs.Common.{◌≡◌, ◌+◌, ◌*◌, slice_index}
use Rattle.dn_ring.specs.Counted.{AreFirsts}
use Rattle.dn_ring.proofs.assigning.first_points.Given as goal

-- the first points of the arcs, among those so far
abbrev pub invariant-loop-number : goal.invariant-loop-number
invariant-loop-number l = AreFirsts l.live (16 * l.lane-index + l.number) l.firsts × (l.lane ≡ slice_index l.live l.lane-index)

abbrev pub invariant-loop-lane : goal.invariant-loop-lane
invariant-loop-lane l = AreFirsts l.live (16 * l.lane-index) l.firsts
