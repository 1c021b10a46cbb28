use Rattle.std.specs.Prelude.{ℕ, ◌++◌, Bool, true, false, List, [], Option, Some, None}
use Rattle.dn_hist.specs.declared.receipts.Receipt.{Receipt}
use Rattle.dn_monitor.specs.declared.orders.Order.{Order}
use Rattle.dn_monitor.specs.declared.orders.Order.TheVariants as order
use Rattle.dn_outcomes.specs.declared.events.Event.{Event}
use Rattle.dn_outcomes.specs.declared.events.Event.TheVariants as event
use Rattle.dn_outcomes.specs.declared.outcomes.CallAnswer.{CallAnswer}
use Rattle.dn_outcomes.specs.declared.outcomes.CallAnswer.TheVariants as answer
use Rattle.dn_outcomes.specs.declared.outcomes.Outcome.{Outcome}
use Rattle.dn_outcomes.specs.declared.outcomes.Outcome.TheVariants as outcome
use Rattle.dn_print.specs.CallLine.{made_text, event_text}
use Rattle.dn_print.specs.OrderLine.{busy_text}
use Rattle.dn_print.specs.declared.call_lines.EventLine.TheVariants as line
use Rattle.dn_run.specs.Happening.{Happening}
use Rattle.dn_run.specs.Moving.{monitor_text, dropped_text}
use Rattle.dn_run.specs.declared.orders.MoveOrder.{MoveOrder}

-- The event lines: what is printed of what has happened.

-- ---- an attempt of a call that ended
abbrev pub receipt_text : ℕ → ℕ → Option Receipt → List ℕ
receipt_text s number None = []
receipt_text s number (Some r) = made_text s number r.reply r.position

abbrev pub answer_text : ℕ → ℕ → Option Receipt → CallAnswer → List ℕ
answer_text s number receipt (answer.Made way) = receipt_text s number receipt
answer_text s number receipt (answer.NotOwner look cell) = event_text (line.NotOwner s number look cell)
answer_text s number receipt (answer.Fenced word) = event_text (line.Fenced s number word)
answer_text s number receipt (answer.Full counter segments) = event_text (line.Full s number counter segments)
answer_text s number receipt (answer.Worn stamp) = event_text (line.Worn s number stamp)

abbrev pub given_text : ℕ → ℕ → Bool → List ℕ
given_text s number false = []
given_text s number true = event_text (line.Given s number)

-- ---- by the event, each outcome of it
-- the lane that it names wasn't made
abbrev pub lane_text : Option ℕ → List ℕ
lane_text None = []
lane_text (Some n) = event_text (line.NoLane n)

-- a session starts a call
abbrev pub start_text : ℕ → Option ℕ → Outcome → List ℕ
start_text s named outcome.Busy = event_text (line.Busy s)
start_text s named outcome.Closed = event_text (line.Closed s)
start_text s named outcome.NoLane = lane_text named
start_text s named other = []

-- a lane makes an action
abbrev pub step_text : ℕ → Option Receipt → Outcome → List ℕ
step_text n receipt (outcome.Answered s number answer given) = answer_text s number receipt answer ++ given_text s number given
step_text n receipt outcome.NoLane = event_text (line.NoLane n)
step_text n receipt other = []

-- a staged word of a lane flows, its merger makes an action, or a task is queued there
abbrev pub no_lane_text : ℕ → Outcome → List ℕ
no_lane_text n outcome.NoLane = event_text (line.NoLane n)
no_lane_text n other = []

-- a session loads a deed
abbrev pub load_text : Outcome → List ℕ
load_text (outcome.GivenUp s number) = event_text (line.Given s number)
load_text other = []

-- a lane is added
abbrev pub add_text : Outcome → List ℕ
add_text (outcome.Added lane) = event_text (line.Lane lane)
add_text outcome.LanesFull = event_text line.LanesFull
add_text other = []

-- an order is given
abbrev pub target_text : Order → List ℕ
target_text (order.Format segments) = []
target_text (order.Look slot) = []
target_text (order.Move slot to) = event_text (line.NoLane to)
target_text (order.Fence n) = event_text (line.NoLane n)
target_text (order.Takeover n) = event_text (line.NoLane n)

abbrev pub give_text : Order → Outcome → List ℕ
give_text order outcome.MonitorBusy = busy_text
give_text order outcome.NoLane = target_text order
give_text order other = []

-- where this order of a move is under way
abbrev pub text_of : Option MoveOrder → Event → Option Receipt → Outcome → List ℕ
text_of m (event.Start s lane call) receipt o = start_text s lane o
text_of m (event.Step n) receipt o = step_text n receipt o
text_of m (event.Flow n index) receipt o = no_lane_text n o
text_of m (event.Merge n) receipt o = no_lane_text n o
text_of m event.Monitor receipt o = monitor_text m o
text_of m (event.Refresh s) receipt o = load_text o
text_of m (event.Give order) receipt o = give_text order o
text_of m event.DropOrder receipt o = dropped_text m
text_of m (event.Queue n task) receipt o = no_lane_text n o
text_of m event.Add receipt o = add_text o
text_of m (event.Tell s t) receipt o = []

abbrev pub happening_text : Option MoveOrder → Happening → List ℕ
happening_text m x = text_of m x.event x.receipt x.outcome
