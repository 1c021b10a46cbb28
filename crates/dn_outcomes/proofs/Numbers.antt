use Rattle.std.proofs.Common.{◌&&◌, ℕ, ◌+◌, ◌≡◌, ◌≢◌, Bool, true, false, List, Option, Some, None, nat_lt, if◌then◌else◌, refl, sym, ◌∙◌, ap}
use Rattle.dn_act.specs.declared.actions.Action.{Action}
use Rattle.dn_hist.specs.Calls.{key_of}
use Rattle.dn_hist.specs.declared.calls.Call.{Call}
use Rattle.dn_hist.specs.declared.receipts.SessionView.{SessionView}
use Rattle.dn_log.specs.Staged.{flow_of}
use Rattle.dn_merge.specs.Merge.{Merging}
use Rattle.dn_model.specs.Regions.{slot_of}
use Rattle.dn_monitor.specs.Monitor.{Monitoring, monitor_next, monitor_turn, monitor_after}
use Rattle.dn_monitor.specs.declared.orders.Order.{Order}
use Rattle.dn_route.specs.SessionState.{SessionState, view_of, numbered}
use Rattle.dn_store.proofs.At.{at_other}
use Rattle.dn_tend.specs.declared.tasks.Task.{Task}
use Rattle.dn_lane.specs.Left.{is_working}
use Rattle.dn_lane.specs.Next.{next_of}
use Rattle.dn_lane.specs.State.{LaneState}
use Rattle.dn_lane.specs.Turns.{turn_of}
use Rattle.dn_lane.specs.declared.answers.Turn.{Turn}
use Rattle.dn_lane.specs.declared.answers.Turn.TheVariants.{More, Done as Ended, Tended as EndedTask}
use Rattle.dn_machine.specs.Events.{Lane, Monitor, Session, Acts, Numbers, found, Tends, Asks}
use Rattle.dn_machine.specs.State.{Machine}
use Rattle.dn_waiting.specs.Attempts.{at_first, course_to, started, after_load, named_in, course_loaded, course_settled}
use Rattle.dn_waiting.specs.State.{call_of, at_lane}
use Rattle.dn_waiting.specs.Turns.{next_at}
use Rattle.dn_waiting.specs.declared.calls.Course.{Course}
use Rattle.dn_waiting.specs.declared.calls.Course.TheVariants as course
use Rattle.dn_waiting.specs.declared.calls.Next.{Next}
use Rattle.dn_waiting.specs.declared.calls.Next.TheVariants.{Rest, Tend, Try}
use Rattle.dn_waiting.specs.declared.calls.OpenCall.{OpenCall}
use Rattle.dn_outcomes.specs.Does.{queues, adds_lane, adds, tells_unless, tells, does}
use Rattle.dn_outcomes.specs.Going.{called, goes_on, told_of, end_of, ends_by, ends_of, ends}
use Rattle.dn_outcomes.specs.Orders.{leaves_by, release_at, release, fenced_by, unlive, orders_by, orders_of, monitor, may_order, gives_beside, give}
use Rattle.dn_outcomes.specs.Starts.{session_at, route_in, routes_by, routes, start_unless, start_beside, start, refresh_of, refresh}
use Rattle.dn_outcomes.specs.State.{World, Done, done, with_event, with_waiting, is_made, may_name, on_lane}
use Rattle.dn_outcomes.specs.Steps.{takes_up, by_turn, acts_by, acts_of, acts, tends, tries, begins, steps_by, steps_of, step, flow_by, flow_at, flow, merges, merge}
use Rattle.dn_outcomes.specs.Told.{starts}
use Rattle.dn_outcomes.specs.declared.events.Event.{Event}
use Rattle.dn_outcomes.specs.declared.events.Event.TheVariants as event
use Rattle.dn_outcomes.specs.declared.leaving.Leaving.{Leaving}
use Rattle.dn_outcomes.specs.declared.outcomes.CallAnswer.{CallAnswer}
use Rattle.dn_outcomes.specs.declared.outcomes.CallAnswer.TheVariants.{Fenced}
use Rattle.dn_outcomes.specs.declared.outcomes.Outcome.TheVariants.{NoLane, LanesFull}
use Rattle.std.proofs.lemmas.Bool.{false≢true, eq-eqb}
use Rattle.dn_outcomes.proofs.SameNumbers.{Same, session_kept, lane_acts, lane_flow, tending_same, asking_same, merger_acts, monitor_acts, session_acts}

-- No event but a start changes the number of the last call of a session.

-- ---- a call goes on or ends
goes_on_same : (w : World) (s : ℕ) (to : Course) (k : ℕ) → Same w.machine (goes_on w s to).machine k
goes_on_same w s course.Load k = refl
goes_on_same w s (course.Wait lane) k = refl
goes_on_same w s course.Answered k = refl
goes_on_same w s course.GivenUp k = refl

ends_by_same : (w : World) (n : ℕ) (told : CallAnswer) (view : SessionView) (to : Course) (k : ℕ) → Same w.machine (ends_by w n told view to).world.machine k
ends_by_same w n told view course.Load k = refl
ends_by_same w n told view (course.Wait lane) k = refl
ends_by_same w n told view course.Answered k = refl
ends_by_same w n told view course.GivenUp k = refl

ends_same : (w : World) (n : ℕ) (told : CallAnswer) (k : ℕ) → Same w.machine (ends w n told).world.machine k
ends_same w n told k = by_view (at_lane w.waiting n).begun where
  by_view : (o : Option SessionView) → Same w.machine (ends_of w n told o).world.machine k
  by_view None = refl
  by_view (Some view) = ends_by_same w n told view (course_settled (end_of told) (call_of w.waiting view.session)) k

-- ---- a lane
turn_same : (w : World) (n : ℕ) (t : Turn) (k : ℕ) → Same w.machine (by_turn w n t).world.machine k
turn_same w n More k = refl
turn_same w n (Ended answer) k = ends_same w n (told_of answer) k
turn_same w n (EndedTask answer) k = refl

acts_by_same : (w : World) (n : ℕ) (l : LaneState) (o : Option Action) (k : ℕ) → Same w.machine (acts_by w n l o).world.machine k
acts_by_same w n l None k = refl
acts_by_same w n l (Some action) k = turn_same (with_event w (Acts (Lane n))) n (turn_of l (found w.machine action)) k ∙ lane_acts w.machine n k

acts_same : (w : World) (n k : ℕ) → Same w.machine (acts w n).world.machine k
acts_same w n k = by_lane (w.machine.lanes n) where
  by_lane : (o : Option LaneState) → Same w.machine (acts_of w n o).world.machine k
  by_lane None = refl
  by_lane (Some l) = acts_by_same w n l (next_of l) k

tends_same : (w : World) (n : ℕ) (t : Task) (barred : Option ℕ) (k : ℕ) → Same w.machine (tends w n t barred).world.machine k
tends_same w n t None k = acts_same (with_event (takes_up w n) (Tends n t)) n k ∙ tending_same w.machine n t k
tends_same w n t (Some word) k = refl

tries_same : (w : World) (n : ℕ) (view : SessionView) (barred : Option ℕ) (k : ℕ) → Same w.machine (tries w n view barred).world.machine k
tries_same w n view None k =
    let call : Call = called (call_of w.waiting view.session) in
    acts_same (with_event (takes_up w n) (Asks n view call)) n k ∙ asking_same w.machine n view call k
tries_same w n view (Some word) k = ends_same (takes_up w n) n (Fenced word) k

begins_same : (w : World) (n : ℕ) (barred : Option ℕ) (next : Next) (k : ℕ) → Same w.machine (begins w n barred next).world.machine k
begins_same w n barred Rest k = refl
begins_same w n barred (Tend t) k = tends_same w n t barred k
begins_same w n barred (Try view) k = tries_same w n view barred k

step_same : (w : World) (n k : ℕ) → Same w.machine (step w n).world.machine k
step_same w n k = by_lane (w.machine.lanes n) where
  by_work : (l : LaneState) (b : Bool) → Same w.machine (steps_by w n l b).world.machine k
  by_work l true = acts_by_same w n l (next_of l) k
  by_work l false = begins_same w n l.base.known.barred (next_at (at_lane w.waiting n)) k

  by_lane : (o : Option LaneState) → Same w.machine (steps_of w n o).world.machine k
  by_lane None = refl
  by_lane (Some l) = by_work l (is_working l.mode)

flow_same : (w : World) (n index k : ℕ) → Same w.machine (flow w n index).world.machine k
flow_same w n index k = by_lane (w.machine.lanes n) where
  by_action : (o : Option Action) → Same w.machine (flow_by w n index o).world.machine k
  by_action None = refl
  by_action (Some action) = lane_flow w.machine n index k

  by_lane : (o : Option LaneState) → Same w.machine (flow_at w n index o).world.machine k
  by_lane None = refl
  by_lane (Some l) = by_action (flow_of l.base.staging index)

merge_same : (w : World) (n k : ℕ) → Same w.machine (merge w n).world.machine k
merge_same w n k = by_merger (w.machine.mergers n) where
  by_merger : (o : Option Merging) → Same w.machine (merges w n o).world.machine k
  by_merger None = refl
  by_merger (Some x) = merger_acts w.machine n k

-- ---- the monitor
release_same : (w : World) (o : Option Leaving) → (release w o).machine ≡ w.machine
release_same w None = refl
release_same w (Some x) = by_test (is_made w x.lane && nat_lt x.slot 64) where
  by_lane : (o : Option LaneState) → (release_at w x o).machine ≡ w.machine
  by_lane None = refl
  by_lane (Some l) = refl

  by_test : (b : Bool) → (if b then release_at w x (w.machine.lanes x.lane) else w).machine ≡ w.machine
  by_test true = by_lane (w.machine.lanes x.lane)
  by_test false = refl

unlive_same : (w : World) (o : Option ℕ) → (unlive w o).machine ≡ w.machine
unlive_same w None = refl
unlive_same w (Some n) = refl

monitor_same : (w : World) (k : ℕ) → Same w.machine (monitor w).world.machine k
monitor_same w k = by_order w.machine.monitor where
  by_action : (x : Monitoring) (o : Option Action) → Same w.machine (orders_by w x o).world.machine k
  by_action x None = refl
  by_action x (Some action) =
      let word : ℕ = found w.machine action in
      let left : Option Leaving = leaves_by (Some action) (monitor_turn x word) (monitor_next (monitor_after x word)) in
      let v : World = with_event w (Acts Monitor) in
      ap (λ (m : Machine). (m.callers.sessions k).number) (unlive_same (release v left) (fenced_by (Some action)) ∙ release_same v left) ∙ monitor_acts w.machine k

  by_order : (o : Option Monitoring) → Same w.machine (orders_of w o).world.machine k
  by_order None = refl
  by_order (Some x) = by_action x (monitor_next x)

give_same : (w : World) (o : Order) (heirs : List ℕ) (k : ℕ) → Same w.machine (give w o heirs).world.machine k
give_same w o heirs k = by_may (may_order w o) where
  by_order : (x : Option Monitoring) → Same w.machine (gives_beside w o heirs x).world.machine k
  by_order None = refl
  by_order (Some x) = refl

  by_may : (b : Bool) → Same w.machine (if b then gives_beside w o heirs w.machine.monitor else done w NoLane).world.machine k
  by_may true = by_order w.machine.monitor
  by_may false = refl

-- ---- sessions
routes_by_same : (w : World) (s : ℕ) (c : OpenCall) (route : ℕ) (to : Course) (k : ℕ) → Same w.machine (routes_by w s c route to).world.machine k
routes_by_same w s c route course.Load k = refl
routes_by_same w s c route (course.Wait lane) k = refl
routes_by_same w s c route course.Answered k = refl
routes_by_same w s c route course.GivenUp k = refl

routes_same : (w : World) (s : ℕ) (o : Option OpenCall) (k : ℕ) → Same w.machine (routes w s o).world.machine k
routes_same w s None k = refl
routes_same w s (Some c) k =
    let route : ℕ = route_in (session_at w s) (slot_of (key_of c.call)) in
    routes_by_same w s c route (course_loaded (Some c) (after_load (named_in (Some c)) route)) k

refresh_same : (w : World) (s k : ℕ) → Same w.machine (refresh w s).world.machine k
refresh_same w s k = by_load (w.machine.loads s) where
  by_load : (o : Option ℕ) → Same w.machine (refresh_of w s o).world.machine k
  by_load None = refl
  by_load (Some slot) = routes_same (with_event w (Acts (Session s))) s (call_of w.waiting s) k ∙ session_acts w.machine s k

tells_same : (w : World) (s t k : ℕ) → Same w.machine (tells w s t).world.machine k
tells_same w s t k = by_closed (w.machine.callers.closed t) where
  by_closed : (b : Bool) → Same w.machine (tells_unless w s t b).world.machine k
  by_closed true = refl
  by_closed false = session_kept w.machine.callers t _ k refl

-- another session starts a call
start_same : (w : World) (s : ℕ) (named : Option ℕ) (call : Call) (k : ℕ) → k ≢ s → Same w.machine (start w s named call).world.machine k
start_same w s named call k other = by_name (may_name w named) where
  by_closed : (b : Bool) → Same w.machine (start_unless w s named call b).world.machine k
  by_closed true = refl
  by_closed false =
      let v : World = with_event w (Numbers s) in
      let route : ℕ = route_in (session_at v s) (slot_of (key_of call)) in
      goes_on_same (with_waiting v (started v.waiting call (view_of (session_at v s) (key_of call)) named route)) s (course_to (at_first named route)) k
      ∙ ap (λ (x : SessionState). x.number) (at_other w.machine.callers.sessions s (numbered (w.machine.callers.sessions s)) k other)

  by_call : (o : Option OpenCall) → Same w.machine (start_beside w s named call o).world.machine k
  by_call None = by_closed (w.machine.callers.closed s)
  by_call (Some c) = refl

  by_name : (b : Bool) → Same w.machine (if b then start_beside w s named call (call_of w.waiting s) else done w NoLane).world.machine k
  by_name true = by_call (call_of w.waiting s)
  by_name false = refl

-- ---- all events
queues_same : (w : World) (n : ℕ) (t : Task) (o : Option LaneState) (k : ℕ) → Same w.machine (queues w n t o).world.machine k
queues_same w n t None k = refl
queues_same w n t (Some l) k = refl

adds_same : (w : World) (k : ℕ) → Same w.machine (adds w).world.machine k
adds_same w k = by_test (nat_lt w.made 63) where
  by_test : (b : Bool) → Same w.machine (if b then adds_lane w (w.made + 1) else done w LanesFull).world.machine k
  by_test true = refl
  by_test false = refl

on_lane_same : (w : World) (n : ℕ) (d : Done) (k : ℕ) → Same w.machine d.world.machine k → Same w.machine (on_lane w n d).world.machine k
on_lane_same w n d k h = by_made (is_made w n) where
  by_made : (b : Bool) → Same w.machine (if b then d else done w NoLane).world.machine k
  by_made true = h
  by_made false = refl

pub number_kept : (w : World) (e : Event) (heirs : List ℕ) (k : ℕ) → starts e k ≡ false → Same w.machine (does w e heirs).world.machine k
number_kept w (event.Start s lane call) heirs k e = start_same w s lane call k (λ same. false≢true (sym e ∙ eq-eqb s k (sym same)))
number_kept w (event.Step n) heirs k e = on_lane_same w n (step w n) k (step_same w n k)
number_kept w (event.Flow n index) heirs k e = on_lane_same w n (flow w n index) k (flow_same w n index k)
number_kept w (event.Merge n) heirs k e = on_lane_same w n (merge w n) k (merge_same w n k)
number_kept w event.Monitor heirs k e = monitor_same w k
number_kept w (event.Refresh s) heirs k e = refresh_same w s k
number_kept w (event.Give o) heirs k e = give_same w o heirs k
number_kept w event.DropOrder heirs k e = refl
number_kept w (event.Queue n t) heirs k e = on_lane_same w n (queues w n t (w.machine.lanes n)) k (queues_same w n t (w.machine.lanes n) k)
number_kept w event.Add heirs k e = adds_same w k
number_kept w (event.Tell s t) heirs k e = tells_same w s t k
