use Rattle.std.proofs.Common.{rules, ◌≡◌, subst}
use Rattle.dn_lane.specs.Fit.{FitsMode}
use Rattle.dn_lane.specs.State.{LaneState}
use Rattle.dn_lane.proofs.BeginLaws.{idle_waits, task_begun_run}
use Rattle.dn_lane.proofs.lanes.Lane.begin_task.Goals as goal

pub returns-clause-sequence : goal.returns-clause-sequence
returns-clause-sequence c =
    task_begun_run c.args.self.now _ c.args.task
    (idle_waits c.args.self.now (subst (λ (l : LaneState). FitsMode l.base l.asked l.mode) c.self.view_is c.self.invariant.fits) (search rules))
    (subst (λ (l : LaneState). l.base.fetch.segments ≡ l.base.known.log.pool) c.self.view_is c.self.invariant.pool)
    (search rules)
