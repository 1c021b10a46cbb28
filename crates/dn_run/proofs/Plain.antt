use Rattle.std.proofs.Common.{ℕ, ◌≡◌, ◌+◌, Bool, true, false, Option, Some, None, nat_lt, if◌then◌else◌, refl, List}
use Rattle.std.proofs.lemmas.Bool.{false≢true}
use Rattle.dn_act.specs.declared.actions.Action.{Action}
use Rattle.dn_hist.specs.Calls.{key_of}
use Rattle.dn_hist.specs.declared.receipts.SessionView.{SessionView}
use Rattle.dn_lane.specs.Next.{next_of}
use Rattle.dn_lane.specs.State.{LaneState}
use Rattle.dn_lane.specs.Turns.{turn_of}
use Rattle.dn_lane.specs.declared.answers.Turn.{Turn}
use Rattle.dn_lane.specs.declared.answers.Turn.TheVariants.{More, Done as Ended, Tended as EndedTask}
use Rattle.dn_lane.specs.Left.{is_working}
use Rattle.dn_log.specs.Staged.{flow_of}
use Rattle.dn_machine.specs.Events.{Lane, Session, Acts, Asks, Tends, found}
use Rattle.dn_merge.specs.Merge.{Merging, merge_next, merge_turn}
use Rattle.dn_merge.specs.declared.mergers.MergeTurn.{MergeTurn}
use Rattle.dn_merge.specs.declared.mergers.MergeTurn.TheVariants as merging
use Rattle.dn_model.specs.Regions.{slot_of}
use Rattle.dn_monitor.specs.Monitor.{Monitoring, monitor_next, monitor_turn}
use Rattle.dn_monitor.specs.declared.orders.MonitorTurn.{MonitorTurn}
use Rattle.dn_monitor.specs.declared.orders.MonitorTurn.TheVariants as turn
use Rattle.dn_monitor.specs.declared.orders.Order.{Order}
use Rattle.dn_tend.specs.declared.tasks.Task.{Task}
use Rattle.dn_waiting.specs.Attempts.{after_load, named_in, course_loaded, course_settled}
use Rattle.dn_waiting.specs.State.{call_of, at_lane}
use Rattle.dn_waiting.specs.Turns.{next_at}
use Rattle.dn_waiting.specs.declared.calls.Course.{Course}
use Rattle.dn_waiting.specs.declared.calls.Course.TheVariants as course
use Rattle.dn_waiting.specs.declared.calls.Next.{Next}
use Rattle.dn_waiting.specs.declared.calls.Next.TheVariants.{Rest, Tend, Try}
use Rattle.dn_waiting.specs.declared.calls.OpenCall.{OpenCall}
use Rattle.dn_outcomes.specs.Does.{queues, adds_lane, adds, tells_unless, tells, does}
use Rattle.dn_outcomes.specs.Going.{is_given, called, told_of, end_of, ends_of, ends}
use Rattle.dn_outcomes.specs.Orders.{told_by as monitor_told, orders_by, orders_of, monitor, may_order, gives_beside, give}
use Rattle.dn_outcomes.specs.Starts.{session_at, route_in, given_by, routes, refresh_of, refresh}
use Rattle.dn_outcomes.specs.State.{World, Done, done, with_event, is_made, on_lane}
use Rattle.dn_outcomes.specs.Steps.{by_turn, acts_by, acts_of, acts, takes_up, tends, tries, begins, steps_by, steps_of, step, flow_by, flow_at, flow, told_by as merger_told, merges, merge}
use Rattle.dn_outcomes.specs.Told.{is_made_by}
use Rattle.dn_outcomes.specs.declared.events.Event.{Event}
use Rattle.dn_outcomes.specs.declared.events.Event.TheVariants as event
use Rattle.dn_outcomes.specs.declared.outcomes.CallAnswer.{CallAnswer}
use Rattle.dn_outcomes.specs.declared.outcomes.CallAnswer.TheVariants as answer
use Rattle.dn_outcomes.specs.declared.outcomes.Outcome.{Outcome}
use Rattle.dn_outcomes.specs.declared.outcomes.Outcome.TheVariants as outcome
use Rattle.dn_outcomes.specs.declared.outcomes.Outcome.TheVariants.{NoLane, LanesFull}

-- No event but a start tells a number, and a call that is made isn't given up.

abbrev pub IsPlain : Outcome → Type 0
IsPlain (outcome.Numbered number) = ⊥
IsPlain (outcome.Answered s number a given) = is_made_by a ≡ true → given ≡ false
IsPlain other = Unit {0}

-- ---- an attempt ends
settled_plain : (a : CallAnswer) (c : Option OpenCall) → is_made_by a ≡ true → is_given (course_settled (end_of a) c) ≡ false
settled_plain (answer.Made way) c e = refl
settled_plain (answer.NotOwner look cell) c e = absurd (false≢true e)
settled_plain (answer.Fenced word) c e = absurd (false≢true e)
settled_plain (answer.Full counter segments) c e = absurd (false≢true e)
settled_plain (answer.Worn stamp) c e = absurd (false≢true e)

ends_plain : (w : World) (n : ℕ) (a : CallAnswer) → IsPlain (ends w n a).outcome
ends_plain w n a = by_view (at_lane w.waiting n).begun where
  by_view : (o : Option SessionView) → IsPlain (ends_of w n a o).outcome
  by_view None = tt
  by_view (Some view) = settled_plain a (call_of w.waiting view.session)

-- ---- a lane
turn_plain : (w : World) (n : ℕ) (t : Turn) → IsPlain (by_turn w n t).outcome
turn_plain w n More = tt
turn_plain w n (Ended a) = ends_plain w n (told_of a)
turn_plain w n (EndedTask a) = tt

acts_by_plain : (w : World) (n : ℕ) (l : LaneState) (o : Option Action) → IsPlain (acts_by w n l o).outcome
acts_by_plain w n l None = tt
acts_by_plain w n l (Some action) = turn_plain (with_event w (Acts (Lane n))) n (turn_of l (found w.machine action))

acts_plain : (w : World) (n : ℕ) → IsPlain (acts w n).outcome
acts_plain w n = by_lane (w.machine.lanes n) where
  by_lane : (o : Option LaneState) → IsPlain (acts_of w n o).outcome
  by_lane None = tt
  by_lane (Some l) = acts_by_plain w n l (next_of l)

tends_plain : (w : World) (n : ℕ) (t : Task) (barred : Option ℕ) → IsPlain (tends w n t barred).outcome
tends_plain w n t None = acts_plain (with_event (takes_up w n) (Tends n t)) n
tends_plain w n t (Some word) = tt

tries_plain : (w : World) (n : ℕ) (view : SessionView) (barred : Option ℕ) → IsPlain (tries w n view barred).outcome
tries_plain w n view None = acts_plain (with_event (takes_up w n) (Asks n view (called (call_of w.waiting view.session)))) n
tries_plain w n view (Some word) = ends_plain (takes_up w n) n (answer.Fenced word)

begins_plain : (w : World) (n : ℕ) (barred : Option ℕ) (next : Next) → IsPlain (begins w n barred next).outcome
begins_plain w n barred Rest = tt
begins_plain w n barred (Tend t) = tends_plain w n t barred
begins_plain w n barred (Try view) = tries_plain w n view barred

step_plain : (w : World) (n : ℕ) → IsPlain (step w n).outcome
step_plain w n = by_lane (w.machine.lanes n) where
  by_work : (l : LaneState) (b : Bool) → IsPlain (steps_by w n l b).outcome
  by_work l true = acts_by_plain w n l (next_of l)
  by_work l false = begins_plain w n l.base.known.barred (next_at (at_lane w.waiting n))

  by_lane : (o : Option LaneState) → IsPlain (steps_of w n o).outcome
  by_lane None = tt
  by_lane (Some l) = by_work l (is_working l.mode)

flow_plain : (w : World) (n index : ℕ) → IsPlain (flow w n index).outcome
flow_plain w n index = by_lane (w.machine.lanes n) where
  by_action : (o : Option Action) → IsPlain (flow_by w n index o).outcome
  by_action None = tt
  by_action (Some action) = tt

  by_lane : (o : Option LaneState) → IsPlain (flow_at w n index o).outcome
  by_lane None = tt
  by_lane (Some l) = by_action (flow_of l.base.staging index)

merge_plain : (w : World) (n : ℕ) → IsPlain (merge w n).outcome
merge_plain w n = by_merger (w.machine.mergers n) where
  by_turn : (t : MergeTurn) → IsPlain (merger_told t)
  by_turn merging.More = tt
  by_turn (merging.Idle gate mark) = tt
  by_turn (merging.IndexFull counter) = tt

  by_merger : (o : Option Merging) → IsPlain (merges w n o).outcome
  by_merger None = tt
  by_merger (Some x) = by_turn (merge_turn x (found w.machine (merge_next x)))

-- ---- the monitor
monitor_plain : (w : World) → IsPlain (monitor w).outcome
monitor_plain w = by_order w.machine.monitor where
  by_turn : (t : MonitorTurn) → IsPlain (monitor_told t)
  by_turn turn.More = tt
  by_turn (turn.Answered a) = tt

  by_action : (x : Monitoring) (o : Option Action) → IsPlain (orders_by w x o).outcome
  by_action x None = tt
  by_action x (Some action) = by_turn (monitor_turn x (found w.machine action))

  by_order : (o : Option Monitoring) → IsPlain (orders_of w o).outcome
  by_order None = tt
  by_order (Some x) = by_action x (monitor_next x)

give_plain : (w : World) (o : Order) (heirs : List ℕ) → IsPlain (give w o heirs).outcome
give_plain w o heirs = by_may (may_order w o) where
  by_order : (x : Option Monitoring) → IsPlain (gives_beside w o heirs x).outcome
  by_order None = tt
  by_order (Some x) = tt

  by_may : (b : Bool) → IsPlain (if b then gives_beside w o heirs w.machine.monitor else done w NoLane).outcome
  by_may true = by_order w.machine.monitor
  by_may false = tt

-- ---- sessions
given_plain : (c : OpenCall) (s : ℕ) (to : Course) → IsPlain (given_by c s to)
given_plain c s course.Load = tt
given_plain c s (course.Wait lane) = tt
given_plain c s course.Answered = tt
given_plain c s course.GivenUp = tt

routes_plain : (w : World) (s : ℕ) (o : Option OpenCall) → IsPlain (routes w s o).outcome
routes_plain w s None = tt
routes_plain w s (Some c) = given_plain c s (course_loaded (Some c) (after_load (named_in (Some c)) (route_in (session_at w s) (slot_of (key_of c.call)))))

refresh_plain : (w : World) (s : ℕ) → IsPlain (refresh w s).outcome
refresh_plain w s = by_load (w.machine.loads s) where
  by_load : (o : Option ℕ) → IsPlain (refresh_of w s o).outcome
  by_load None = tt
  by_load (Some slot) = routes_plain (with_event w (Acts (Session s))) s (call_of w.waiting s)

tells_plain : (w : World) (s t : ℕ) → IsPlain (tells w s t).outcome
tells_plain w s t = by_closed (w.machine.callers.closed t) where
  by_closed : (b : Bool) → IsPlain (tells_unless w s t b).outcome
  by_closed true = tt
  by_closed false = tt

-- ---- all events
queues_plain : (w : World) (n : ℕ) (t : Task) (o : Option LaneState) → IsPlain (queues w n t o).outcome
queues_plain w n t None = tt
queues_plain w n t (Some l) = tt

adds_plain : (w : World) → IsPlain (adds w).outcome
adds_plain w = by_test (nat_lt w.made 63) where
  by_test : (b : Bool) → IsPlain (if b then adds_lane w (w.made + 1) else done w LanesFull).outcome
  by_test true = tt
  by_test false = tt

on_lane_plain : (w : World) (n : ℕ) (d : Done) → IsPlain d.outcome → IsPlain (on_lane w n d).outcome
on_lane_plain w n d h = by_made (is_made w n) where
  by_made : (b : Bool) → IsPlain (if b then d else done w NoLane).outcome
  by_made true = h
  by_made false = tt

-- all but a start
abbrev pub IsOther : Event → Type 0
IsOther (event.Start s lane call) = ⊥
IsOther other = Unit {0}

pub plain : (w : World) (e : Event) (heirs : List ℕ) → IsOther e → IsPlain (does w e heirs).outcome
plain w (event.Start s lane call) heirs o = absurd o
plain w (event.Step n) heirs o = on_lane_plain w n (step w n) (step_plain w n)
plain w (event.Flow n index) heirs o = on_lane_plain w n (flow w n index) (flow_plain w n index)
plain w (event.Merge n) heirs o = on_lane_plain w n (merge w n) (merge_plain w n)
plain w event.Monitor heirs o = monitor_plain w
plain w (event.Refresh s) heirs o = refresh_plain w s
plain w (event.Give order) heirs o = give_plain w order heirs
plain w event.DropOrder heirs o = tt
plain w (event.Queue n t) heirs o = on_lane_plain w n (queues w n t (w.machine.lanes n)) (queues_plain w n t (w.machine.lanes n))
plain w event.Add heirs o = adds_plain w
plain w (event.Tell s t) heirs o = tells_plain w s t
