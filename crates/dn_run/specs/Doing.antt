use Rattle.std.specs.Prelude.{ℕ, zero, suc, Bool, true, false, not, Option, Some, None, if◌then◌else◌}
use Rattle.dn_word.specs.Deed.{deed_of}
use Rattle.dn_hist.specs.declared.calls.Call.{Call}
use Rattle.dn_merge.specs.declared.mergers.MergeTurn.{MergeTurn}
use Rattle.dn_merge.specs.declared.mergers.MergeTurn.TheVariants as turn
use Rattle.dn_model.specs.Regions.{slot_of}
use Rattle.dn_monitor.specs.declared.orders.MonitorAnswer.{MonitorAnswer}
use Rattle.dn_monitor.specs.declared.orders.MonitorAnswer.TheVariants as told
use Rattle.dn_monitor.specs.declared.orders.Order.TheVariants.{Move}
use Rattle.dn_outcomes.specs.Awaited.{is_releasing, marked}
use Rattle.dn_outcomes.specs.State.{World}
use Rattle.dn_outcomes.specs.declared.events.Event.{Event}
use Rattle.dn_outcomes.specs.declared.events.Event.TheVariants as event
use Rattle.dn_outcomes.specs.declared.outcomes.Outcome.{Outcome}
use Rattle.dn_outcomes.specs.declared.outcomes.Outcome.TheVariants.{Nothing, Acted, Numbered, NoLane, Ordered, Merged}
use Rattle.dn_script.specs.declared.scripts.Line.{Line}
use Rattle.dn_script.specs.declared.scripts.Line.TheVariants as line
use Rattle.dn_tend.specs.declared.tasks.Task.TheVariants.{Trim}
use Rattle.dn_waiting.specs.State.{call_of}
use Rattle.dn_waiting.specs.declared.calls.OpenCall.{OpenCall}
use Rattle.dn_waiting.specs.declared.calls.Place.{Place}
use Rattle.dn_waiting.specs.declared.calls.Place.TheVariants.{Loading, Queued, Begun}
use Rattle.dn_run.specs.Moving.{order_told}
use Rattle.dn_run.specs.declared.orders.MoveOrder.{MoveOrder}

-- What is left to do of a line of a script.

pub data Doing : Type 0 where
  -- nothing
  Rest : Doing
  -- a session starts a call, whose first attempt goes to the lane that is named, if any; where it isn't only started it is
  -- then run to its end
  Start : ℕ → Option ℕ → Bool → Call → Doing
  -- the call that this session has is run to its end
  Finish : ℕ → Doing
  -- the event so many times, up to the first that finds nothing to do, or no lane
  Repeat : Event → ℕ → Doing
  -- the monitor is given the move of this key's slot to this lane; where it isn't only started it is then run to its end
  Give : ℕ → ℕ → Bool → Doing
  -- the order of this slot goes on by the monitor, but first by this lane while that has the slot's release before it
  Order : ℕ → ℕ → Doing
  -- it waits for the merged mark that the monitor loads: that lane's merger acts until all is merged
  Merge : ℕ → Doing
  -- it can't go on, and is given up
  Drop : Doing

-- all of it. The lines that aren't played yet are none of the grammar; nothing is done for them.
abbrev pub doing_of : Line → Doing
doing_of (line.Call s lane start call) = Start s lane start call
doing_of (line.Step n count) = Repeat (event.Step n) count
doing_of (line.Flow n index) = Repeat (event.Flow n index) 1
doing_of (line.Merge n count) = Repeat (event.Merge n) count
doing_of (line.Monitor count) = Repeat event.Monitor count
doing_of (line.Move start key n) = Give key n (not start)
doing_of line.Add = Repeat event.Add 1
doing_of (line.Tell s t) = Repeat (event.Tell s t) 1
doing_of (line.Trim n) = Repeat (event.Queue n Trim) 1
doing_of unplayed = Rest

-- ---- the event that comes next
-- A call goes on by an action of the lane at which an attempt of it waits or is under way, or by the load of a deed.
abbrev pub moves_at : ℕ → Place → Event
moves_at s (Loading named) = event.Refresh s
moves_at s (Queued lane) = event.Step lane
moves_at s (Begun lane) = event.Step lane

abbrev pub moves : ℕ → Option OpenCall → Option Event
moves s None = None
moves s (Some c) = Some (moves_at s c.place)

-- A lane acts for an order, or the monitor.
abbrev pub acts_for : ℕ → Bool → Event
acts_for n true = event.Step n
acts_for n false = event.Monitor

abbrev pub next_of : World → Doing → Option Event
next_of w Rest = None
next_of w (Start s lane start call) = Some (event.Start s lane call)
next_of w (Finish s) = moves s (call_of w.waiting s)
next_of w (Repeat e zero) = None
next_of w (Repeat e (suc k)) = Some e
next_of w (Give key n whole) = Some (event.Give (Move (slot_of key) n))
next_of w (Order slot n) = Some (acts_for n (is_releasing w n slot))
next_of w (Merge slot) = Some (event.Merge (marked w))
next_of w Drop = Some event.DropOrder

-- ---- what is left once it has this outcome
abbrev pub finds_nothing : Outcome → Bool
finds_nothing Nothing = true
finds_nothing NoLane = true
finds_nothing other = false

-- a call that has a number is run to its end, unless it is only started
abbrev pub numbered_left : ℕ → Bool → Outcome → Doing
numbered_left s start (Numbered number) = if start then Rest else Finish s
numbered_left s start refused = Rest

-- an order that was given is run to its end, unless it is only started
abbrev pub given_left : ℕ → Bool → Outcome → Doing
given_left key whole Acted = if whole then Order (slot_of key) 0 else Rest
given_left key whole refused = Rest

-- At Held the lane that has the slot goes on, at Waiting the merger; any other answer is the last.
abbrev pub told_left : ℕ → MonitorAnswer → Doing
told_left slot (told.Formatted old) = Rest
told_left slot (told.Looked deed) = Rest
told_left slot (told.Granted deed) = Rest
told_left slot (told.Barred old) = Rest
told_left slot (told.Taken slots) = Rest
told_left slot (told.Held deed) = Order slot (deed_of deed).lane
told_left slot (told.Waiting mark need) = Merge slot
told_left slot (told.NotFenced word) = Rest
told_left slot (told.Worn epoch) = Rest

abbrev pub monitor_left : ℕ → Outcome → Doing
monitor_left slot Acted = Order slot 0
monitor_left slot (Ordered answer) = told_left slot answer
monitor_left slot other = Rest

-- a lane that has acted may have more to do before the release is done
abbrev pub order_left : ℕ → ℕ → Bool → Outcome → Doing
order_left slot n true o = Order slot n
order_left slot n false o = monitor_left slot o

-- the order waits for all to be merged; a merger that can't go on ends it
abbrev pub turn_left : ℕ → MergeTurn → Doing
turn_left slot turn.More = Merge slot
turn_left slot (turn.Idle gate mark) = Order slot 0
turn_left slot (turn.IndexFull counter) = Drop

abbrev pub merge_left : ℕ → Outcome → Doing
merge_left slot Acted = Merge slot
merge_left slot (Merged t) = turn_left slot t
merge_left slot other = Drop

-- by the world in which the event happened
abbrev pub left_of : World → Doing → Outcome → Doing
left_of w Rest o = Rest
left_of w (Start s lane start call) o = numbered_left s start o
left_of w (Finish s) o = Finish s
left_of w (Repeat e zero) o = Rest
left_of w (Repeat e (suc k)) o = if finds_nothing o then Rest else Repeat e k
left_of w (Give key n whole) o = given_left key whole o
left_of w (Order slot n) o = order_left slot n (is_releasing w n slot) o
left_of w (Merge slot) o = merge_left slot o
left_of w Drop o = Rest

-- ---- the order of a move that is under way, if there is one, once an event has this outcome
abbrev pub order_given : Doing → Option MoveOrder → Outcome → Option MoveOrder
order_given (Give key n whole) m Acted = Some (record { key = key; lane = n; whole = whole; told = None })
order_given d m other = m

abbrev pub order_after : Doing → Option MoveOrder → Event → Outcome → Option MoveOrder
order_after d m (event.Start s lane call) o = m
order_after d m (event.Step n) o = m
order_after d m (event.Flow n index) o = m
order_after d m (event.Merge n) o = m
order_after d m event.Monitor o = order_told m o
order_after d m (event.Refresh s) o = m
order_after d m (event.Give order) o = order_given d m o
order_after d m event.DropOrder o = None
order_after d m (event.Queue n t) o = m
order_after d m event.Add o = m
order_after d m (event.Tell s t) o = m
