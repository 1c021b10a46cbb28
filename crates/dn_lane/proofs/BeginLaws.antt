use Rattle.std.proofs.Common.{◌≡◌, ℕ, [], None, sym, subst}
use Rattle.dn_hist.specs.declared.calls.Call.{Call}
use Rattle.dn_hist.specs.declared.receipts.SessionView.{SessionView}
use Rattle.dn_plan.specs.Plan.{goes, acts}
use Rattle.dn_plan.specs.Sequence.{call_plan}
use Rattle.dn_plan.specs.declared.phases.ActPhase.TheVariants as phase
use Rattle.dn_plan.proofs.SequenceLaws.{call_runs}
use Rattle.dn_tend.specs.Plan.{begun_in}
use Rattle.dn_tend.specs.Sequence.{task_plan}
use Rattle.dn_tend.specs.declared.tasks.Task.{Task}
use Rattle.dn_tend.specs.declared.tasks.Task.TheVariants as task
use Rattle.dn_tend.proofs.SequenceLaws.{task_runs}
use Rattle.dn_ask.specs.Ask.{task_step}
use Rattle.dn_lane.specs.Asked.{brief_of}
use Rattle.dn_lane.specs.Fit.{FitsMode}
use Rattle.dn_lane.specs.Program.{LaneProgram, Runs, Follows}
use Rattle.dn_lane.specs.Refused.{refused_by, refusal_of}
use Rattle.dn_lane.specs.Sequence.{call_sequence, task_sequence, key_in}
use Rattle.dn_lane.specs.State.{LaneState, reserved, begun, begun_task}
use Rattle.dn_lane.specs.Taken.{entered}
use Rattle.dn_lane.specs.declared.answers.Turn.TheVariants.{More}
use Rattle.dn_lane.specs.declared.asked.Asked.{Asked}
use Rattle.dn_lane.specs.declared.asked.Asked.TheVariants as asked
use Rattle.dn_lane.specs.declared.modes.Mode.{Mode}
use Rattle.dn_lane.specs.declared.modes.Mode.TheVariants as mode
use Rattle.dn_lane.proofs.CallRuns.{calls}
use Rattle.dn_lane.proofs.ServiceRuns.{by}
use Rattle.dn_lane.proofs.TaskKeys.{begun_keys}
use Rattle.dn_lane.proofs.TaskRuns.{tasks}

-- A lane that begins follows the program of what it was asked.

-- no word waits where the lane begins
refused_waits : (l : LaneState) (m : Mode) → FitsMode l.base l.asked m → refused_by l m ≡ None → l.base.staging ≡ []
refused_waits l mode.Idle f e = f
refused_waits l (mode.Acting wait) f e = f.0
refused_waits l (mode.Finding wait find) f e = f.0
refused_waits l (mode.Claiming wait claim) f e = f.0
refused_waits l (mode.Sealing wait seal) f e = absurd cc

pub idle_waits : (l : LaneState) → FitsMode l.base l.asked l.mode → refusal_of l ≡ None → l.base.staging ≡ []
idle_waits l f e = refused_waits l l.mode f e

pub call_follows : (l : LaneState) (view : SessionView) (call : Call) (segments : ℕ) → l.base.staging ≡ [] → l.base.fetch.segments ≡ segments
    → Follows (begun l view call) (call_sequence segments (reserved l.base).known (asked.Call call view []))
call_follows l view call segments empty pool =
    let a : Asked = asked.Call call view [] in
    record {
      runs = calls (call_plan (brief_of l.base.known.log.lane a)) (reserved l.base) call view [] (goes (acts phase.Look)) segments empty pool
          (call_runs (brief_of l.base.known.log.lane a)).follows;
    }

task_begins : (l : LaneState) (t : Task) (program : LaneProgram) → Runs program (by asked.Task (entered (reserved l.base) asked.Task (task_step (record { effect = None; next = begun_in t }))))
    → Runs program (record { turn = More; lane = begun_task l t })
task_begins l (task.Release slot) program h = h
task_begins l task.Trim program h = h
task_begins l (task.Share key) program h = h
task_begins l (task.Unshare key) program h = h

pub task_follows : (l : LaneState) (t : Task) (segments : ℕ) → l.base.staging ≡ [] → l.base.fetch.segments ≡ segments
    → Follows (begun_task l t) (task_sequence segments (reserved l.base).known t)
task_follows l t segments empty pool = record {
  runs = task_begins l t (task_sequence segments (reserved l.base).known t)
      (tasks (task_plan l.base.known.log.lane t) (reserved l.base) (key_in t) None (begun_in t) segments empty pool (begun_keys t) (task_runs l.base.known.log.lane t).follows);
}

pub begun_run : (l m : LaneState) (view : SessionView) (call : Call) → l.base.staging ≡ [] → l.base.fetch.segments ≡ l.base.known.log.pool → m ≡ begun l view call
    → Follows m (call_sequence l.base.known.log.pool (reserved l.base).known (asked.Call call view []))
begun_run l m view call empty pool e =
    subst (λ n. Follows n (call_sequence l.base.known.log.pool (reserved l.base).known (asked.Call call view []))) (sym e)
    (call_follows l view call l.base.known.log.pool empty pool)

pub task_begun_run : (l m : LaneState) (t : Task) → l.base.staging ≡ [] → l.base.fetch.segments ≡ l.base.known.log.pool → m ≡ begun_task l t
    → Follows m (task_sequence l.base.known.log.pool (reserved l.base).known t)
task_begun_run l m t empty pool e =
    subst (λ n. Follows n (task_sequence l.base.known.log.pool (reserved l.base).known t)) (sym e) (task_follows l t l.base.known.log.pool empty pool)
