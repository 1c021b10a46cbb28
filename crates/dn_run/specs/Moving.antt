use Rattle.std.specs.Prelude.{ℕ, ◌&&◌, not, Bool, List, [], Option, Some, None, if◌then◌else◌}
use Rattle.dn_monitor.specs.Monitor.{is_last}
use Rattle.dn_monitor.specs.declared.orders.MonitorAnswer.{MonitorAnswer}
use Rattle.dn_monitor.specs.declared.orders.MonitorAnswer.TheVariants as told
use Rattle.dn_monitor.specs.declared.orders.MonitorTurn.TheVariants as turn
use Rattle.dn_outcomes.specs.declared.outcomes.Outcome.{Outcome}
use Rattle.dn_outcomes.specs.declared.outcomes.Outcome.TheVariants.{Ordered}
use Rattle.dn_print.specs.OrderLine.{moved_text}
use Rattle.dn_print.specs.declared.order_lines.MoveAnswer.TheVariants as line
use Rattle.dn_run.specs.declared.orders.MoveOrder.{MoveOrder}

-- The order of a move: what is kept of it, and what is printed.

-- the last answer of an order ends it
abbrev pub ends_order : MonitorAnswer → Bool
ends_order answer = is_last (turn.Answered answer)

-- ---- what is kept once the monitor has told this
abbrev pub told_as : MoveOrder → MonitorAnswer → Option MoveOrder
told_as m answer = if ends_order answer then None else Some (record m { told = Some answer })

abbrev pub order_told : Option MoveOrder → Outcome → Option MoveOrder
order_told None o = None
order_told (Some m) (Ordered answer) = told_as m answer
order_told (Some m) other = Some m

-- ---- what is printed
-- an answer; a move has no others than these
abbrev pub answer_text : MoveOrder → MonitorAnswer → List ℕ
answer_text m (told.Formatted old) = []
answer_text m (told.Looked deed) = []
answer_text m (told.Granted deed) = moved_text m.key m.lane (line.Granted deed)
answer_text m (told.Barred old) = []
answer_text m (told.Taken slots) = []
answer_text m (told.Held deed) = moved_text m.key m.lane (line.Held deed)
answer_text m (told.Waiting mark need) = moved_text m.key m.lane (line.Waiting mark need)
answer_text m (told.NotFenced word) = []
answer_text m (told.Worn epoch) = moved_text m.key m.lane (line.Worn epoch)

-- of an order that its line runs to its end, the last answer alone
abbrev pub is_silent : MoveOrder → MonitorAnswer → Bool
is_silent m answer = m.whole && not (ends_order answer)

abbrev pub told_text : MoveOrder → MonitorAnswer → List ℕ
told_text m answer = if is_silent m answer then [] else answer_text m answer

-- by the monitor's action
abbrev pub monitor_text : Option MoveOrder → Outcome → List ℕ
monitor_text None o = []
monitor_text (Some m) (Ordered answer) = told_text m answer
monitor_text (Some m) other = []

-- where the order is given up, what was told last
abbrev pub last_text : MoveOrder → Option MonitorAnswer → List ℕ
last_text m None = []
last_text m (Some answer) = answer_text m answer

abbrev pub dropped_text : Option MoveOrder → List ℕ
dropped_text None = []
dropped_text (Some m) = last_text m m.told
