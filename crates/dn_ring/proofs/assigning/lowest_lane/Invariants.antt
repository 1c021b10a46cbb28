use Rattle.std.proofs.Common.{◌≡◌, ℕ, ◌<◌, None, slice_index_or}
use Rattle.dn_ring.proofs.assigning.lowest_lane.Given as goal

-- no point lies in the arcs so far
abbrev pub invariant-loop-arc : goal.invariant-loop-arc
invariant-loop-arc l = (a : ℕ) → a < l.arc → slice_index_or l.firsts a None ≡ None
