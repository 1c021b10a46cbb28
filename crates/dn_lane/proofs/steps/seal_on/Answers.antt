use Rattle.std.proofs.Common.{refl, ap, ◌∙◌}
use Rattle.dn_known.specs.State.{KnownState}
use Rattle.dn_lane.proofs.StepLemmas.{after_lane, after_pool, same_lane}
use Rattle.dn_lane.proofs.steps.seal_on.Goals as goal

pub returns-in-Sealed-clause-same : goal.returns-in-Sealed-clause-same
returns-in-Sealed-clause-same c =
    same_lane _ _ _ c.enter.ensures.same
    (ap (λ (k : KnownState). k.log.lane) c.take.ensures.known ∙ after_lane _ c.args.seal c.args.word _)
    (ap (λ (k : KnownState). k.log.pool) c.take.ensures.known ∙ after_pool _ c.args.seal c.args.word _)
    refl
