use Rattle.std.specs.Prelude.{ℕ, ◌-◌, ◌&&◌, ◌||◌, not, Bool, false, Option, Some, None, nat_lt, if◌then◌else◌}
use Rattle.std.specs.Option.{is_some}
use Rattle.dn_word.specs.Regions.{mark_at}
use Rattle.dn_act.specs.declared.actions.Action.{Action}
use Rattle.dn_act.specs.declared.actions.Action.TheVariants.{Load, Store, Cas, Add, Or}
use Rattle.dn_lane.specs.Left.{is_working}
use Rattle.dn_lane.specs.State.{LaneState}
use Rattle.dn_monitor.specs.Monitor.{Monitoring, monitor_next}
use Rattle.dn_waiting.specs.Queues.{AtLane, is_queued}
use Rattle.dn_waiting.specs.State.{at_lane}
use Rattle.dn_outcomes.specs.State.{World, is_made}

-- Whom the monitor's order waits for.

-- ---- a lane that has a slot's release before it: a task is under way, or this one waits
abbrev pub is_tending : AtLane → LaneState → Bool
is_tending at l = is_working l.mode && not (is_some at.begun)

abbrev pub releases_at : AtLane → ℕ → Option LaneState → Bool
releases_at at slot None = false
releases_at at slot (Some l) = is_tending at l || is_queued slot at.tasks

abbrev pub is_releasing : World → ℕ → ℕ → Bool
is_releasing w n slot = is_made w n && releases_at (at_lane w.waiting n) slot (w.machine.lanes n)

-- ---- the lane whose merged mark the monitor loads next, or 0
abbrev pub lane_below : ℕ → ℕ
lane_below n = if nat_lt n 64 then n else 0

abbrev pub marked_by : Option Action → ℕ
marked_by None = 0
marked_by (Some (Load at)) = lane_below (at - mark_at 0)
marked_by (Some (Store at word)) = 0
marked_by (Some (Cas at old new)) = 0
marked_by (Some (Add at by)) = 0
marked_by (Some (Or at bits)) = 0

-- the monitor's next action
abbrev pub next_by : Option Monitoring → Option Action
next_by None = None
next_by (Some x) = monitor_next x

abbrev pub marked : World → ℕ
marked w = marked_by (next_by w.machine.monitor)
