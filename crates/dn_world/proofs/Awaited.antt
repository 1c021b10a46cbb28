use Rattle.std.proofs.Common.{ℕ, ◌≡◌, ◌&&◌, ◌||◌, Bool, true, false, Option, Some, ◌∙◌, ap}
use Rattle.dn_lane.specs.State.{LaneState}
use Rattle.dn_waiting.specs.Queues.{is_queued}
use Rattle.dn_waiting.specs.State.{at_lane}
use Rattle.dn_outcomes.specs.Awaited.{is_tending, releases_at, is_releasing}
use Rattle.dn_outcomes.specs.State.{World, is_made}

-- Whether a lane has a slot's release before it.

pub releasing : (w : World) (n slot : ℕ) (l : LaneState) → is_made w n ≡ true → w.machine.lanes n ≡ Some l
    → is_releasing w n slot ≡ (is_tending (at_lane w.waiting n) l || is_queued slot (at_lane w.waiting n).tasks)
releasing w n slot l made is =
    ap (λ (b : Bool). b && releases_at (at_lane w.waiting n) slot (w.machine.lanes n)) made ∙ ap (λ (o : Option LaneState). releases_at (at_lane w.waiting n) slot o) is

pub not_releasing : (w : World) (n slot : ℕ) → is_made w n ≡ false → is_releasing w n slot ≡ false
not_releasing w n slot e = ap (λ (b : Bool). b && releases_at (at_lane w.waiting n) slot (w.machine.lanes n)) e
