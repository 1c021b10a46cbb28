use Rattle.std.proofs.Common.{◌≡◌, ◌≢◌, ℕ, ◌+◌, ◌<◌, length, slice_index, slice_set, get_or-set_same, get_or-set_other, below_more, length-set, ◌∙◌, arith}
use Rattle.dn_ring.proofs.tests.all_lanes.Goals as goal

pub loop-place-preserved : goal.loop-place-preserved
loop-place-preserved c = (
  length-set c.loop-place.lanes c.loop-place.place (c.loop-place.place + 1) ∙ c.loop-place.invariant.0,
  below_more (λ k. slice_index (slice_set c.loop-place.lanes c.loop-place.place (c.loop-place.place + 1)) k ≡ k + 1) c.loop-place.place
      (λ k h. get_or-set_other c.loop-place.lanes c.loop-place.place k (c.loop-place.place + 1) 0 (λ e. omega (arith, e, h)) ∙ c.loop-place.invariant.1 k h)
      (get_or-set_same c.loop-place.lanes c.loop-place.place (c.loop-place.place + 1) 0 (omega (arith, c.loop-place.invariant.0))),
)
