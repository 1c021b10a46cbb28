use Rattle.std.proofs.Common.{ℕ, ◌+◌, ◌≡◌, Bool, true, false, not, List, Option, Some, None, nat_lt, if◌then◌else◌, refl}
use Rattle.std.specs.Option.{is_some}
use Rattle.dn_act.specs.declared.actions.Action.{Action}
use Rattle.dn_hist.specs.declared.calls.Call.{Call}
use Rattle.dn_hist.specs.declared.receipts.SessionView.{SessionView}
use Rattle.dn_log.specs.Staged.{flow_of}
use Rattle.dn_merge.specs.Merge.{Merging, merge_next, merge_turn}
use Rattle.dn_merge.specs.declared.mergers.MergeTurn.{MergeTurn}
use Rattle.dn_merge.specs.declared.mergers.MergeTurn.TheVariants as merging
use Rattle.dn_monitor.specs.Monitor.{Monitoring, monitor_next, monitor_turn}
use Rattle.dn_monitor.specs.declared.orders.MonitorTurn.{MonitorTurn}
use Rattle.dn_monitor.specs.declared.orders.MonitorTurn.TheVariants as turn
use Rattle.dn_monitor.specs.declared.orders.Order.{Order}
use Rattle.dn_tend.specs.declared.tasks.Task.{Task}
use Rattle.dn_lane.specs.Left.{is_working}
use Rattle.dn_lane.specs.Next.{next_of}
use Rattle.dn_lane.specs.State.{LaneState}
use Rattle.dn_lane.specs.Turns.{turn_of}
use Rattle.dn_lane.specs.declared.answers.Turn.{Turn}
use Rattle.dn_lane.specs.declared.answers.Turn.TheVariants.{More, Done as Ended, Tended as EndedTask}
use Rattle.dn_machine.specs.Events.{Session, Lane, Acts, Asks, Tends, found}
use Rattle.dn_waiting.specs.State.{call_of, at_lane}
use Rattle.dn_waiting.specs.Turns.{next_at}
use Rattle.dn_waiting.specs.declared.calls.Course.{Course}
use Rattle.dn_waiting.specs.declared.calls.Course.TheVariants as course
use Rattle.dn_waiting.specs.declared.calls.Next.{Next}
use Rattle.dn_waiting.specs.declared.calls.Next.TheVariants.{Rest, Tend, Try}
use Rattle.dn_waiting.specs.declared.calls.OpenCall.{OpenCall}
use Rattle.dn_outcomes.specs.Does.{queues, adds_lane, tells_unless, does}
use Rattle.dn_outcomes.specs.Going.{called, told_of, ends_of}
use Rattle.dn_outcomes.specs.Orders.{told_by as monitor_told, orders_by, orders_of, monitor, may_order, gives_beside, give, drops}
use Rattle.dn_outcomes.specs.Refusals.{refused_by, first, unmade, refusal}
use Rattle.dn_outcomes.specs.Starts.{given_by, routes, start_unless, start_beside, start, refresh_of, refresh}
use Rattle.dn_outcomes.specs.State.{World, Done, done, with_event, is_made, may_name, on_lane}
use Rattle.dn_outcomes.specs.Steps.{by_turn, acts_by, acts_of, acts, takes_up, tends, tries, begins, steps_by, steps_of, step, flow_by, flow_at, flow, told_by as merger_told, merges, merge}
use Rattle.dn_outcomes.specs.declared.events.Event.{Event}
use Rattle.dn_outcomes.specs.declared.events.Event.TheVariants as event
use Rattle.dn_outcomes.specs.declared.outcomes.CallAnswer.{CallAnswer}
use Rattle.dn_outcomes.specs.declared.outcomes.CallAnswer.TheVariants.{Fenced}
use Rattle.dn_outcomes.specs.declared.outcomes.Outcome.{Outcome}
use Rattle.dn_outcomes.specs.declared.outcomes.Outcome.TheVariants.{Busy, Closed, MonitorBusy, NoLane, LanesFull}

-- An event is refused by its first cause, and then nothing is changed.

-- what is done has this refusal, and with one it has left the world
pub record IsBy (w : World) (d : Done) (o : Option Outcome) : Type 0 where
  pub is : refused_by d.outcome ≡ o
  pub same : (r : Outcome) → o ≡ Some r → d.world ≡ w

-- it is carried out
abbrev IsFree : Done → Type 0
IsFree d = refused_by d.outcome ≡ None

free : (w : World) (d : Done) → IsFree d → IsBy w d None
free w d h = record { is = h; same = λ r e. absurd (cc e) }

stays : (w : World) (o : Outcome) → refused_by o ≡ Some o → IsBy w (done w o) (Some o)
stays w o h = record { is = h; same = λ r e. refl }

-- ---- lanes
ends_free : (w : World) (n : ℕ) (told : CallAnswer) (o : Option SessionView) → IsFree (ends_of w n told o)
ends_free w n told None = refl
ends_free w n told (Some view) = refl

turn_free : (w : World) (n : ℕ) (t : Turn) → IsFree (by_turn w n t)
turn_free w n More = refl
turn_free w n (Ended answer) = ends_free w n (told_of answer) (at_lane w.waiting n).begun
turn_free w n (EndedTask answer) = refl

acts_by_free : (w : World) (n : ℕ) (l : LaneState) (o : Option Action) → IsFree (acts_by w n l o)
acts_by_free w n l None = refl
acts_by_free w n l (Some action) = turn_free (with_event w (Acts (Lane n))) n (turn_of l (found w.machine action))

acts_of_free : (w : World) (n : ℕ) (o : Option LaneState) → IsFree (acts_of w n o)
acts_of_free w n None = refl
acts_of_free w n (Some l) = acts_by_free w n l (next_of l)

acts_free : (w : World) (n : ℕ) → IsFree (acts w n)
acts_free w n = acts_of_free w n (w.machine.lanes n)

tends_free : (w : World) (n : ℕ) (t : Task) (o : Option ℕ) → IsFree (tends w n t o)
tends_free w n t None = acts_free (with_event (takes_up w n) (Tends n t)) n
tends_free w n t (Some word) = refl

tries_free : (w : World) (n : ℕ) (view : SessionView) (o : Option ℕ) → IsFree (tries w n view o)
tries_free w n view None = acts_free (with_event (takes_up w n) (Asks n view (called (call_of w.waiting view.session)))) n
tries_free w n view (Some word) = ends_free (takes_up w n) n (Fenced word) (at_lane (takes_up w n).waiting n).begun

begins_free : (w : World) (n : ℕ) (barred : Option ℕ) (x : Next) → IsFree (begins w n barred x)
begins_free w n barred Rest = refl
begins_free w n barred (Tend t) = tends_free w n t barred
begins_free w n barred (Try view) = tries_free w n view barred

steps_by_free : (w : World) (n : ℕ) (l : LaneState) (b : Bool) → IsFree (steps_by w n l b)
steps_by_free w n l true = acts_by_free w n l (next_of l)
steps_by_free w n l false = begins_free w n l.base.known.barred (next_at (at_lane w.waiting n))

steps_free : (w : World) (n : ℕ) (o : Option LaneState) → IsFree (steps_of w n o)
steps_free w n None = refl
steps_free w n (Some l) = steps_by_free w n l (is_working l.mode)

flow_by_free : (w : World) (n index : ℕ) (o : Option Action) → IsFree (flow_by w n index o)
flow_by_free w n index None = refl
flow_by_free w n index (Some action) = refl

flow_free : (w : World) (n index : ℕ) (o : Option LaneState) → IsFree (flow_at w n index o)
flow_free w n index None = refl
flow_free w n index (Some l) = flow_by_free w n index (flow_of l.base.staging index)

merged_free : (w : World) (t : MergeTurn) → IsFree (done w (merger_told t))
merged_free w merging.More = refl
merged_free w (merging.Idle gate mark) = refl
merged_free w (merging.IndexFull counter) = refl

merges_free : (w : World) (n : ℕ) (o : Option Merging) → IsFree (merges w n o)
merges_free w n None = refl
merges_free w n (Some x) = merged_free w (merge_turn x (found w.machine (merge_next x)))

queues_free : (w : World) (n : ℕ) (t : Task) (o : Option LaneState) → IsFree (queues w n t o)
queues_free w n t None = refl
queues_free w n t (Some l) = refl

lane_by : (w : World) (n : ℕ) (d : Done) → IsFree d → IsBy w (on_lane w n d) (unmade w n)
lane_by w n d h = by_made (is_made w n) where
  by_made : (b : Bool) → IsBy w (if b then d else done w NoLane) (first (not b) NoLane None)
  by_made true = free w d h
  by_made false = stays w NoLane refl

-- ---- the monitor
ordered_free : (w : World) (t : MonitorTurn) → IsFree (done w (monitor_told t))
ordered_free w turn.More = refl
ordered_free w (turn.Answered answer) = refl

orders_free : (w : World) (x : Monitoring) (o : Option Action) → IsFree (orders_by w x o)
orders_free w x None = refl
orders_free w x (Some action) = ordered_free w (monitor_turn x (found w.machine action))

monitor_free : (w : World) (o : Option Monitoring) → IsFree (orders_of w o)
monitor_free w None = refl
monitor_free w (Some x) = orders_free w x (monitor_next x)

give_by : (w : World) (o : Order) (heirs : List ℕ) → IsBy w (give w o heirs) (refusal w (event.Give o))
give_by w o heirs = by_may (may_order w o) w.machine.monitor where
  by_may : (b : Bool) (x : Option Monitoring) → IsBy w (if b then gives_beside w o heirs x else done w NoLane) (first (not b) NoLane (first (is_some x) MonitorBusy None))
  by_may true None = free w _ refl
  by_may true (Some x) = stays w MonitorBusy refl
  by_may false x = stays w NoLane refl

-- ---- sessions
given_free : (w : World) (c : OpenCall) (s : ℕ) (x : Course) → IsFree (done w (given_by c s x))
given_free w c s course.Load = refl
given_free w c s (course.Wait lane) = refl
given_free w c s course.Answered = refl
given_free w c s course.GivenUp = refl

routes_free : (w : World) (s : ℕ) (o : Option OpenCall) → IsFree (routes w s o)
routes_free w s None = refl
routes_free w s (Some c) = given_free w c s _

refresh_free : (w : World) (s : ℕ) (o : Option ℕ) → IsFree (refresh_of w s o)
refresh_free w s None = refl
refresh_free w s (Some slot) = routes_free (with_event w (Acts (Session s))) s (call_of w.waiting s)

start_by : (w : World) (s : ℕ) (lane : Option ℕ) (call : Call) → IsBy w (start w s lane call) (refusal w (event.Start s lane call))
start_by w s lane call = by_name (may_name w lane) where
  by_closed : (k : Bool) → IsBy w (start_unless w s lane call k) (first k Closed None)
  by_closed true = stays w Closed refl
  by_closed false = free w _ refl

  by_call : (c : Option OpenCall) → IsBy w (start_beside w s lane call c) (first (is_some c) Busy (first (w.machine.callers.closed s) Closed None))
  by_call None = by_closed (w.machine.callers.closed s)
  by_call (Some c) = stays w Busy refl

  by_name : (b : Bool)
      → IsBy w (if b then start_beside w s lane call (call_of w.waiting s) else done w NoLane) (first (not b) NoLane (first (is_some (call_of w.waiting s)) Busy (first (w.machine.callers.closed s) Closed None)))
  by_name true = by_call (call_of w.waiting s)
  by_name false = stays w NoLane refl

-- ---- all events
pub refusals : (w : World) (e : Event) (heirs : List ℕ) → IsBy w (does w e heirs) (refusal w e)
refusals w (event.Start s lane call) heirs = start_by w s lane call
refusals w (event.Step n) heirs = lane_by w n (step w n) (steps_free w n (w.machine.lanes n))
refusals w (event.Flow n index) heirs = lane_by w n (flow w n index) (flow_free w n index (w.machine.lanes n))
refusals w (event.Merge n) heirs = lane_by w n (merge w n) (merges_free w n (w.machine.mergers n))
refusals w event.Monitor heirs = free w (monitor w) (monitor_free w w.machine.monitor)
refusals w (event.Refresh s) heirs = free w (refresh w s) (refresh_free w s (w.machine.loads s))
refusals w (event.Give o) heirs = give_by w o heirs
refusals w event.DropOrder heirs = free w (drops w) refl
refusals w (event.Queue n t) heirs = lane_by w n (queues w n t (w.machine.lanes n)) (queues_free w n t (w.machine.lanes n))
refusals w event.Add heirs = by_test (nat_lt w.made 63) where
  by_test : (b : Bool) → IsBy w (if b then adds_lane w (w.made + 1) else done w LanesFull) (first (not b) LanesFull None)
  by_test true = free w _ refl
  by_test false = stays w LanesFull refl
refusals w (event.Tell s t) heirs = by_closed (w.machine.callers.closed t) where
  by_closed : (b : Bool) → IsBy w (tells_unless w s t b) None
  by_closed true = free w _ refl
  by_closed false = free w _ refl
