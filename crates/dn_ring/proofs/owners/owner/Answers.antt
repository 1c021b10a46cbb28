use Rattle.std.proofs.Common.{◌≡◌, ◌+◌, ◌*◌, length, subst, sym, refl, Option, Some, arith}
use Rattle.dn_ring.specs.declared.points.Point.{Point}
use Rattle.dn_ring.specs.Counted.{nearer_of}
use Rattle.dn_ring.proofs.PointLaws.{nearest_owns, IsNearest, IsNearestOf}
use Rattle.dn_ring.proofs.NearestLaws.{nearest_more}
use Rattle.dn_ring.proofs.owners.owner.Goals as goal

pub loop-number-preserved : goal.loop-number-preserved
loop-number-preserved c = (
  subst (λ (p : Point). IsNearest c.args.live.now c.args.slot (16 * c.loop-lane.lane-index + (c.loop-number.number + 1)) p) (sym c.nearer.ensures) (subst (λ (p : Point). IsNearestOf c.args.live.now c.args.slot (16 * c.loop-lane.lane-index + (c.loop-number.number + 1)) (Some (nearer_of c.args.slot c.loop-number.first p))) (sym c.of.ensures) (nearest_more _ _ c.loop-lane.lane-index c.loop-number.number _ _ (omega arith) refl c.loop-number.invariant.0)),
  refl,
)

pub returns-in-Some-clause-owner : goal.returns-in-Some-clause-owner
returns-in-Some-clause-owner c some =
    let all : 16 * c.loop-lane.lane-index ≡ 16 * length c.args.live.now = omega arith in
    nearest_owns _ _ _ (subst (λ n. IsNearest c.args.live.now c.args.slot n c.in-Some.point) all
    (subst (λ (f : Option Point). IsNearestOf c.args.live.now c.args.slot (16 * c.loop-lane.lane-index) f) c.in-Some.is c.loop-lane.invariant))
