use Rattle.std.specs.Prelude.{ℕ, Bool, not, Option, Some, None, nat_lt, if◌then◌else◌}
use Rattle.std.specs.Option.{is_some}
use Rattle.dn_waiting.specs.State.{call_of}
use Rattle.dn_outcomes.specs.Orders.{may_order}
use Rattle.dn_outcomes.specs.State.{World, is_made, may_name}
use Rattle.dn_outcomes.specs.declared.events.Event.{Event}
use Rattle.dn_outcomes.specs.declared.events.Event.TheVariants as event
use Rattle.dn_outcomes.specs.declared.outcomes.Outcome.{Outcome}
use Rattle.dn_outcomes.specs.declared.outcomes.Outcome.TheVariants as outcome

-- Why an event is refused.

-- ---- the outcomes that refuse
abbrev pub refused_by : Outcome → Option Outcome
refused_by outcome.Nothing = None
refused_by outcome.Acted = None
refused_by (outcome.Numbered number) = None
refused_by outcome.Busy = Some outcome.Busy
refused_by outcome.Closed = Some outcome.Closed
refused_by (outcome.Answered s number answer given) = None
refused_by (outcome.GivenUp s number) = None
refused_by (outcome.Ordered answer) = None
refused_by outcome.MonitorBusy = Some outcome.MonitorBusy
refused_by (outcome.Tended answer) = None
refused_by (outcome.Added lane) = None
refused_by outcome.LanesFull = Some outcome.LanesFull
refused_by outcome.NoLane = Some outcome.NoLane
refused_by (outcome.Merged turn) = None
refused_by (outcome.Fault actor) = None

-- ---- the first cause that an event has
abbrev pub first : Bool → Outcome → Option Outcome → Option Outcome
first cause outcome rest = if cause then Some outcome else rest

abbrev pub unmade : World → ℕ → Option Outcome
unmade w n = first (not (is_made w n)) outcome.NoLane None

abbrev pub refusal : World → Event → Option Outcome
refusal w (event.Start s lane call) =
    first (not (may_name w lane)) outcome.NoLane (first (is_some (call_of w.waiting s)) outcome.Busy (first (w.machine.callers.closed s) outcome.Closed None))
refusal w (event.Step n) = unmade w n
refusal w (event.Flow n index) = unmade w n
refusal w (event.Merge n) = unmade w n
refusal w event.Monitor = None
refusal w (event.Refresh s) = None
refusal w (event.Give o) = first (not (may_order w o)) outcome.NoLane (first (is_some w.machine.monitor) outcome.MonitorBusy None)
refusal w event.DropOrder = None
refusal w (event.Queue n t) = unmade w n
refusal w event.Add = first (not (nat_lt w.made 63)) outcome.LanesFull None
refusal w (event.Tell s t) = None
