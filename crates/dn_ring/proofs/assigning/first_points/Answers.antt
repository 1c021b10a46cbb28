use Rattle.std.proofs.Common.{◌+◌, ◌*◌, List, Option, subst, sym, refl, arith}
use Rattle.dn_ring.specs.declared.points.Point.{Point}
use Rattle.dn_ring.specs.Counted.{noted, AreFirsts}
use Rattle.dn_ring.proofs.ArcLaws.{none_first, noted_more}
use Rattle.dn_ring.proofs.assigning.first_points.Goals as goal

pub loop-lane-init : goal.loop-lane-init
loop-lane-init c = none_first c.args.live.now

pub loop-number-preserved : goal.loop-number-preserved
loop-number-preserved c = (
  subst (λ (f : List (Option Point)). AreFirsts c.args.live.now (16 * c.loop-lane.lane-index + (c.loop-number.number + 1)) f) (sym c.note.ensures)
      (subst (λ (p : Point). AreFirsts c.args.live.now (16 * c.loop-lane.lane-index + (c.loop-number.number + 1)) (noted c.loop-number.firsts p)) (sym c.of.ensures)
      (noted_more _ c.requires c.loop-lane.lane-index c.loop-number.number _ _ (omega arith) (omega arith) refl c.loop-number.invariant.0)),
  refl,
)
