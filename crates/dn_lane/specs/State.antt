use Rattle.std.specs.Prelude.{ℕ, [], List}
use Rattle.dn_hist.specs.declared.calls.Call.{Call}
use Rattle.dn_hist.specs.declared.receipts.SessionView.{SessionView}
use Rattle.dn_locate.specs.Fetch.{idle, of_pool}
use Rattle.dn_log.specs.declared.staging.Staged.{Staged}
use Rattle.dn_plan.specs.declared.phases.ActPhase.TheVariants as phase
use Rattle.dn_tend.specs.declared.tasks.Task.{Task}
use Rattle.dn_tend.specs.declared.tasks.Task.TheVariants as task
use Rattle.dn_tend.specs.declared.phases.TendAct.{TendAct}
use Rattle.dn_tend.specs.declared.phases.TendAct.TheVariants as at
use Rattle.dn_ask.specs.declared.asks.Act.TheVariants as act
use Rattle.dn_known.specs.State.{fresh as fresh_known}
use Rattle.dn_lane.specs.declared.asked.Asked.{Asked}
use Rattle.dn_lane.specs.declared.asked.Asked.TheVariants as asked
use Rattle.dn_lane.specs.declared.base.Base.{Base}
use Rattle.dn_lane.specs.declared.modes.Mode.{Mode}
use Rattle.dn_lane.specs.declared.modes.Mode.TheVariants as mode

-- a lane: what it has beside its plan, what it was asked, and what it does for its plan
pub record LaneState : Type 0 where
  pub base : Base
  pub asked : Asked
  pub mode : Mode

-- with an empty log, in a pool of so many segments
abbrev pub fresh : ℕ → ℕ → LaneState
fresh lane segments = record {
  base = record { known = fresh_known lane segments; staging = []; fetch = of_pool idle segments };
  asked = asked.Nothing;
  mode = mode.Idle;
}

-- room for two pending records
abbrev pub reserved : Base → Base
reserved g = record g { known = record g.known { pending = record g.known.pending { spare = 2 } } }

abbrev pub begun : LaneState → SessionView → Call → LaneState
begun l view call = record { base = reserved l.base; asked = asked.Call call view []; mode = mode.Acting (act.Call phase.Look) }

-- the first action of a task
abbrev pub first_of : Task → TendAct
first_of (task.Release slot) = at.Deed slot
first_of task.Trim = at.Mark
first_of (task.Share key) = at.ShareLook key
first_of (task.Unshare key) = at.UnshareLook key

abbrev pub begun_task : LaneState → Task → LaneState
begun_task l t = record { base = reserved l.base; asked = asked.Task; mode = mode.Acting (act.Task (first_of t)) }

abbrev pub with_staging : LaneState → List Staged → LaneState
with_staging l staged = record l { base = record l.base { staging = staged } }

-- the plan is gone, and so are the staged words
abbrev pub halted : LaneState → LaneState
halted l = record { base = record l.base { staging = [] }; asked = asked.Nothing; mode = mode.Idle }
