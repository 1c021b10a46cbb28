use Rattle.std.proofs.Common.{rules, ◌≡◌, sym, ◌∙◌, subst}
use Rattle.dn_lane.specs.Fit.{FitsMode}
use Rattle.dn_lane.specs.State.{LaneState}
use Rattle.dn_lane.specs.Turns.{turn_of}
use Rattle.dn_lane.proofs.CallCauseLaws.{call_cause}
use Rattle.dn_lane.proofs.EndingLaws.{ending_is}
use Rattle.dn_lane.proofs.TaskCauseLaws.{task_cause}
use Rattle.dn_lane.proofs.lanes.Lane.take.Goals as goal

pub returns-in-End-clause-cause : goal.returns-in-End-clause-cause
returns-in-End-clause-cause c answer e =
    let given : c.finish.result ≡ turn_of c.args.self.now c.args.word = search rules in
    call_cause c.args.self.now c.args.word answer
    (subst (λ (l : LaneState). FitsMode l.base l.asked l.mode) c.self.view_is c.self.invariant.fits) (sym given ∙ e)

pub returns-in-End-clause-task_cause : goal.returns-in-End-clause-task_cause
returns-in-End-clause-task_cause c answer e =
    let given : c.finish.result ≡ turn_of c.args.self.now c.args.word = search rules in
    task_cause c.args.self.now c.args.word answer
    (subst (λ (l : LaneState). FitsMode l.base l.asked l.mode) c.self.view_is c.self.invariant.fits) (sym given ∙ e)

pub returns-in-End-clause-ending : goal.returns-in-End-clause-ending
returns-in-End-clause-ending c receipt way seals e =
    let given : c.finish.result ≡ turn_of c.args.self.now c.args.word = search rules in
    ending_is c.args.self.now c.args.word receipt way
    (subst (λ (l : LaneState). FitsMode l.base l.asked l.mode) c.self.view_is c.self.invariant.fits) seals (sym given ∙ e)
