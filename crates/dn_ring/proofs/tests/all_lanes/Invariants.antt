use Rattle.std.proofs.Common.{◌≡◌, ℕ, ◌+◌, ◌<◌, length, slice_index}
use Rattle.dn_ring.proofs.tests.all_lanes.Given as goal

abbrev pub invariant-loop-place : goal.invariant-loop-place
invariant-loop-place l = (length l.lanes ≡ 63) × ((k : ℕ) → k < l.place → slice_index l.lanes k ≡ k + 1)
