use Rattle.std.specs.Prelude.{ℕ, ◌-◌, ◌==◌, ◌&&◌, not, Bool, true, false, List, Option, Some, None, nat_lt, if◌then◌else◌}
use Rattle.std.specs.List.{filter}
use Rattle.dn_word.specs.Deed.{deed_of}
use Rattle.dn_word.specs.Regions.{gate_at, deed_at}
use Rattle.dn_word.specs.declared.packed.deed.DeedState.{DeedState}
use Rattle.dn_word.specs.declared.packed.deed.DeedState.TheVariants as state
use Rattle.dn_act.specs.declared.actions.Action.{Action}
use Rattle.dn_act.specs.declared.actions.Action.TheVariants.{Load, Store, Cas, Add, Or}
use Rattle.dn_monitor.specs.Monitor.{Monitoring, monitor_next, monitor_turn, monitor_after}
use Rattle.dn_monitor.specs.declared.orders.Order.{Order}
use Rattle.dn_monitor.specs.declared.orders.Order.TheVariants as order
use Rattle.dn_monitor.specs.declared.orders.MonitorAnswer.{MonitorAnswer}
use Rattle.dn_monitor.specs.declared.orders.MonitorAnswer.TheVariants as told
use Rattle.dn_monitor.specs.declared.orders.MonitorTurn.{MonitorTurn}
use Rattle.dn_monitor.specs.declared.orders.MonitorTurn.TheVariants as turn
use Rattle.dn_lane.specs.State.{LaneState}
use Rattle.dn_machine.specs.Events.{Monitor, Acts, Orders, Drops, found}
use Rattle.dn_waiting.specs.Turns.{released}
use Rattle.dn_outcomes.specs.declared.leaving.Leaving.{Leaving}
use Rattle.dn_outcomes.specs.declared.outcomes.Outcome.{Outcome}
use Rattle.dn_outcomes.specs.declared.outcomes.Outcome.TheVariants.{Nothing, Acted, Ordered, MonitorBusy, NoLane}
use Rattle.dn_outcomes.specs.State.{World, Done, done, with_event, with_waiting, is_made, is_live}

-- What the monitor does, the releases that it leads to, and the lanes that it fences.

-- ---- which release is to be queued
abbrev pub asks_to_leave : DeedState → Bool
asks_to_leave state.Nobody = false
asks_to_leave state.Owned = false
asks_to_leave state.Leaving = true
asks_to_leave state.Released = false

abbrev pub leaving : ℕ → ℕ → Leaving
leaving deed at = record { lane = (deed_of deed).lane; slot = at - deed_at 0 }

-- the exchange of a deed for one that asks its lane to leave
abbrev pub asked_by : Option Action → Option Leaving
asked_by None = None
asked_by (Some (Load at)) = None
asked_by (Some (Store at word)) = None
asked_by (Some (Cas at old new)) = if asks_to_leave (deed_of new).state then Some (leaving new at) else None
asked_by (Some (Add at by)) = None
asked_by (Some (Or at bits)) = None

-- after Held the deed that was told is loaded again
abbrev pub held_at : ℕ → Option Action → Option Leaving
held_at deed None = None
held_at deed (Some (Load at)) = Some (leaving deed at)
held_at deed (Some (Store at word)) = None
held_at deed (Some (Cas at old new)) = None
held_at deed (Some (Add at by)) = None
held_at deed (Some (Or at bits)) = None

abbrev pub held_by : MonitorAnswer → Option Action → Option Leaving
held_by (told.Formatted old) next = None
held_by (told.Looked deed) next = None
held_by (told.Granted deed) next = None
held_by (told.Barred old) next = None
held_by (told.Taken slots) next = None
held_by (told.Held deed) next = held_at deed next
held_by (told.Waiting mark need) next = None
held_by (told.NotFenced word) next = None
held_by (told.Worn epoch) next = None

-- by an action, what it told, and the action behind it
abbrev pub leaves_by : Option Action → MonitorTurn → Option Action → Option Leaving
leaves_by action turn.More next = asked_by action
leaves_by action (turn.Answered answer) next = held_by answer next

-- it is queued at a lane that runs
abbrev pub release_at : World → Leaving → Option LaneState → World
release_at w x None = w
release_at w x (Some l) = with_waiting w (released w.waiting x.lane x.slot)

abbrev pub release : World → Option Leaving → World
release w None = w
release w (Some x) = if is_made w x.lane && nat_lt x.slot 64 then release_at w x (w.machine.lanes x.lane) else w

-- ---- which lane is fenced: the one whose gate has got the bit
abbrev pub fenced_by : Option Action → Option ℕ
fenced_by None = None
fenced_by (Some (Load at)) = None
fenced_by (Some (Store at word)) = None
fenced_by (Some (Cas at old new)) = None
fenced_by (Some (Add at by)) = None
fenced_by (Some (Or at bits)) = Some (at - gate_at 0)

-- it is live no more
abbrev pub unlive : World → Option ℕ → World
unlive w None = w
unlive w (Some n) = record w { live = filter (λ (k : ℕ). not (k == n)) w.live }

-- ---- the monitor makes its next action
abbrev pub told_by : MonitorTurn → Outcome
told_by turn.More = Acted
told_by (turn.Answered answer) = Ordered answer

abbrev pub orders_to : World → Option Action → MonitorTurn → Monitoring → Done
orders_to w action t x = done (unlive (release (with_event w (Acts Monitor)) (leaves_by action t (monitor_next x))) (fenced_by action)) (told_by t)

abbrev pub orders_by : World → Monitoring → Option Action → Done
orders_by w x None = done w Nothing
orders_by w x (Some action) = orders_to w (Some action) (monitor_turn x (found w.machine action)) (monitor_after x (found w.machine action))

abbrev pub orders_of : World → Option Monitoring → Done
orders_of w None = done w Nothing
orders_of w (Some x) = orders_by w x (monitor_next x)

abbrev pub monitor : World → Done
monitor w = orders_of w w.machine.monitor

-- ---- the monitor is given an order, which names lanes that were made, or a live one
abbrev pub may_order : World → Order → Bool
may_order w (order.Format segments) = true
may_order w (order.Look slot) = true
may_order w (order.Move slot to) = is_live w to
may_order w (order.Fence lane) = is_made w lane
may_order w (order.Takeover lane) = is_made w lane

abbrev pub gives_beside : World → Order → List ℕ → Option Monitoring → Done
gives_beside w o heirs None = done (with_event w (Orders o heirs)) Acted
gives_beside w o heirs (Some x) = done w MonitorBusy

abbrev pub give : World → Order → List ℕ → Done
give w o heirs = if may_order w o then gives_beside w o heirs w.machine.monitor else done w NoLane

-- ---- the order under way is given up, if there is one
abbrev pub drops : World → Done
drops w = done (with_event w Drops) Acted
