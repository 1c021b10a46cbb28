use Rattle.std.proofs.Common.{◌≡◌, ◌+◌, ◌-◌, ◌*◌, ℕ, List, length, slice_set, subst, sym, arith}
use Rattle.dn_ring.specs.Counted.{AreFirsts}
use Rattle.dn_ring.proofs.SweepLaws.{IsSwept, swept_more, swept_none}
use Rattle.dn_ring.proofs.assigning.assign.Goals as goal

pub loop-slot-init : goal.loop-slot-init
loop-slot-init c = swept_none c.args.live.now c.lowest_lane-lane.result
    (λ some. c.lowest_lane-lane.ensures.owner c.args.live.now some c.first_points-firsts.ensures)
    (λ none. c.lowest_lane-lane.ensures.none (subst (λ (l : List ℕ). AreFirsts l (16 * length l) c.first_points-firsts.result) none c.first_points-firsts.ensures))

pub loop-slot-preserved : goal.loop-slot-preserved
loop-slot-preserved c =
    let slot : c.loop-slot.slot ≡ (c.loop-slot.slot - 1) + 1 = omega arith in
    subst (λ n. IsSwept c.args.live.now (slice_set c.loop-slot.slots (c.loop-slot.slot - 1) n) n (c.loop-slot.slot - 1)) (sym c.lane_of-lane.ensures)
    (swept_more c.args.live.now c.loop-slot.slots c.first_points-firsts.result c.loop-slot.lane (c.loop-slot.slot - 1) (omega arith) c.first_points-firsts.ensures
    (subst (λ n. IsSwept c.args.live.now c.loop-slot.slots c.loop-slot.lane n) slot c.loop-slot.invariant))
