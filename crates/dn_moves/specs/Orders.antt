use Rattle.std.specs.Prelude.{◌≡◌, Bool, true, false, Option, Some, None}
use Rattle.dn_monitor.specs.Monitor.{Monitoring, is_last}
use Rattle.dn_monitor.specs.declared.orders.MonitorTurn.TheVariants.{Answered as Tells}
use Rattle.dn_outcomes.specs.declared.events.Event.{Event}
use Rattle.dn_outcomes.specs.declared.events.Event.TheVariants as event
use Rattle.dn_outcomes.specs.declared.outcomes.Outcome.{Outcome}
use Rattle.dn_outcomes.specs.declared.outcomes.Outcome.TheVariants as outcome

-- Which events move an order, and which outcomes end it.

abbrev pub is_monitor : Event → Bool
is_monitor (event.Start s lane call) = false
is_monitor (event.Step n) = false
is_monitor (event.Flow n index) = false
is_monitor (event.Merge n) = false
is_monitor event.Monitor = true
is_monitor (event.Refresh s) = false
is_monitor (event.Give o) = false
is_monitor event.DropOrder = false
is_monitor (event.Queue n t) = false
is_monitor event.Add = false
is_monitor (event.Tell s t) = false

-- the monitor makes an action, or its order is given up
abbrev pub moves_order : Event → Bool
moves_order (event.Start s lane call) = false
moves_order (event.Step n) = false
moves_order (event.Flow n index) = false
moves_order (event.Merge n) = false
moves_order event.Monitor = true
moves_order (event.Refresh s) = false
moves_order (event.Give o) = false
moves_order event.DropOrder = true
moves_order (event.Queue n t) = false
moves_order event.Add = false
moves_order (event.Tell s t) = false

-- the last answer of an order
abbrev pub ends_order : Outcome → Bool
ends_order outcome.Nothing = false
ends_order outcome.Acted = false
ends_order (outcome.Numbered number) = false
ends_order outcome.Busy = false
ends_order outcome.Closed = false
ends_order (outcome.Answered s number answer given) = false
ends_order (outcome.GivenUp s number) = false
ends_order (outcome.Ordered answer) = is_last (Tells answer)
ends_order outcome.MonitorBusy = false
ends_order (outcome.Tended answer) = false
ends_order (outcome.Added lane) = false
ends_order outcome.LanesFull = false
ends_order outcome.NoLane = false
ends_order (outcome.Merged turn) = false
ends_order (outcome.Fault actor) = false

-- there is no order any more after that, else one is under way
abbrev pub OrderAfter : Bool → Option Monitoring → Type 0
OrderAfter true o = o ≡ None
OrderAfter false o = (y : Monitoring) × (o ≡ Some y)
