use Rattle.std.proofs.Common.{◌&&◌, ℕ, ◌+◌, ◌≡◌, Bool, true, false, List, [], ◌∷◌, ◌++◌, Option, Some, None, All, nat_eq, nat_lt, if◌then◌else◌, refl, sym, ◌∙◌, ap, subst, append-nil}
use Rattle.std.specs.List.{cons_option}
use Rattle.std.proofs.lemmas.List.{map-append}
use Rattle.std.proofs.lemmas.List.Elements.{All-head, All-tail}
use Rattle.dn_act.specs.declared.actions.Action.{Action}
use Rattle.dn_hist.specs.Calls.{key_of}
use Rattle.dn_hist.specs.declared.calls.Call.{Call}
use Rattle.dn_hist.specs.declared.receipts.Receipt.{Receipt}
use Rattle.dn_hist.specs.declared.receipts.SessionView.{SessionView}
use Rattle.dn_log.specs.Staged.{flow_of}
use Rattle.dn_merge.specs.Merge.{Merging, merge_next, merge_after}
use Rattle.dn_model.specs.Regions.{slot_of}
use Rattle.dn_monitor.specs.Monitor.{Monitoring, monitor_next, monitor_turn, monitor_after}
use Rattle.dn_monitor.specs.declared.orders.Order.{Order}
use Rattle.dn_route.specs.SessionState.{SessionState, view_of}
use Rattle.dn_store.specs.State.{with_at}
use Rattle.dn_store.proofs.At.{at_by}
use Rattle.dn_tend.specs.declared.tasks.Task.{Task}
use Rattle.dn_lane.specs.Left.{is_working}
use Rattle.dn_lane.specs.Next.{next_of}
use Rattle.dn_lane.specs.State.{LaneState, begun, begun_task}
use Rattle.dn_lane.specs.Turns.{turn_of}
use Rattle.dn_lane.specs.declared.answers.Turn.{Turn}
use Rattle.dn_lane.specs.declared.answers.Turn.TheVariants.{More, Done as Ended, Tended as EndedTask}
use Rattle.dn_lanes.specs.Stepped.{receipt_by}
use Rattle.dn_callers.specs.Callers.{Callers, Standing, receipts_of}
use Rattle.dn_machine.specs.Events.{Lane, Merger, Monitor, Session, Acts, Flows, Numbers, Tends, Asks, found, answered, lane_does, lane_flows, of_lane, of_merger, of_monitor, monitor_does, loaded, with_lane, with_merger, acted, happens}
use Rattle.dn_machine.specs.State.{Machine}
use Rattle.dn_waiting.specs.Attempts.{at_first, course_to, started, after_load, named_in, course_loaded, course_settled}
use Rattle.dn_waiting.specs.State.{call_of, at_lane}
use Rattle.dn_waiting.specs.Turns.{next_at}
use Rattle.dn_waiting.specs.declared.calls.Course.{Course}
use Rattle.dn_waiting.specs.declared.calls.Course.TheVariants as course
use Rattle.dn_waiting.specs.declared.calls.Next.{Next}
use Rattle.dn_waiting.specs.declared.calls.Next.TheVariants.{Rest, Tend, Try}
use Rattle.dn_waiting.specs.declared.calls.OpenCall.{OpenCall}
use Rattle.dn_outcomes.specs.Does.{queues, adds_lane, adds, does}
use Rattle.dn_outcomes.specs.Going.{called, goes_on, told_of, end_of, ends_by, ends_of, ends}
use Rattle.dn_outcomes.specs.Orders.{leaves_by, release_at, release, fenced_by, unlive, orders_by, orders_of, monitor, may_order, gives_beside, give, drops}
use Rattle.dn_outcomes.specs.Runs.{after}
use Rattle.dn_outcomes.specs.Starts.{session_at, route_in, routes_by, routes, start_unless, start_beside, start, refresh_of, refresh}
use Rattle.dn_outcomes.specs.State.{World, Done, done, with_event, with_waiting, is_made, may_name, on_lane}
use Rattle.dn_outcomes.specs.Steps.{takes_up, by_turn, acts_by, acts_of, acts, tends, tries, begins, steps_by, steps_of, step, flow_by, flow_at, flow, merges, merge}
use Rattle.dn_outcomes.specs.declared.events.Event.{Event}
use Rattle.dn_outcomes.specs.declared.events.Event.TheVariants as event
use Rattle.dn_outcomes.specs.declared.leaving.Leaving.{Leaving}
use Rattle.dn_outcomes.specs.declared.outcomes.CallAnswer.{CallAnswer}
use Rattle.dn_outcomes.specs.declared.outcomes.CallAnswer.TheVariants.{Fenced}
use Rattle.dn_outcomes.specs.declared.outcomes.Outcome.TheVariants.{NoLane, LanesFull}
use Rattle.dn_run.specs.Knowledge.{lasts_heard}

-- What an event does to callers, where it tells no session a position: at most one receipt comes to stand, whose session hears
-- of its position.

pub record Hears (c now : Callers) : Type 0 where
  pub heard : Option Receipt
  pub receipts : receipts_of now.receipts ≡ receipts_of c.receipts ++ cons_option heard []
  pub lasts : (k : ℕ) → (now.sessions k).last ≡ lasts_heard heard (λ (j : ℕ). (c.sessions j).last) k
  pub told : now.told ≡ c.told
  pub closed : (k : ℕ) → now.closed k ≡ c.closed k

same : (c : Callers) → Hears c c
same c = record { heard = None; receipts = sym (append-nil (receipts_of c.receipts)); lasts = λ k. refl; told = refl; closed = λ k. refl }

same_by : (c now : Callers) → now ≡ c → Hears c now
same_by c now e = subst (λ (d : Callers). Hears c d) (sym e) (same c)

same_first : (c d now : Callers) → d ≡ c → Hears d now → Hears c now
same_first c d now e h = subst (λ (x : Callers). Hears x now) e h

same_then : (c d now : Callers) → Hears c d → now ≡ d → Hears c now
same_then c d now h e = subst (λ (x : Callers). Hears c x) (sym e) h

-- ---- a session changes
pub last_if : (b : Bool) (x y : SessionState) → (if b then x else y).last ≡ (if b then x.last else y.last)
last_if true x y = refl
last_if false x y = refl

last_kept : (c : Callers) (s : ℕ) (x : SessionState) (k : ℕ) → x.last ≡ (c.sessions s).last → (with_at c.sessions s x k).last ≡ (c.sessions k).last
last_kept c s x k e = at_by (λ (v : SessionState). v.last ≡ (c.sessions k).last) c.sessions s x k (λ is. e ∙ ap (λ (j : ℕ). (c.sessions j).last) (sym is)) (λ d. refl)

session_hears : (c : Callers) (s : ℕ) (x : SessionState) → x.last ≡ (c.sessions s).last → Hears c (record c { sessions = with_at c.sessions s x })
session_hears c s x e = record {
  heard = None;
  receipts = sym (append-nil (receipts_of c.receipts));
  lasts = λ k. last_kept c s x k e;
  told = refl;
  closed = λ k. refl;
}

answered_hears : (c : Callers) (o : Option Receipt) → Hears c (answered c o)
answered_hears c None = same c
answered_hears c (Some r) = record {
  heard = Some r;
  receipts = map-append (λ (x : Standing). x.receipt) c.receipts ((record { receipt = r; answered = true }) ∷ []);
  lasts = λ k. last_if (nat_eq k r.position.session) _ (c.sessions k);
  told = refl;
  closed = λ k. refl;
}

-- ---- events of a machine
abbrev pub Same : Machine → Machine → Type 0
Same m now = now.callers ≡ m.callers

lane_hears : (m : Machine) (n : ℕ) → Hears m.callers (happens m (Acts (Lane n))).callers
lane_hears m n = by_lane (m.lanes n) where
  by_action : (l : LaneState) (o : Option Action) → Hears m.callers (lane_does m n l o).callers
  by_action l None = same m.callers
  by_action l (Some action) = answered_hears m.callers (receipt_by (turn_of l (found m action)))

  by_lane : (o : Option LaneState) → Hears m.callers (of_lane m o (λ l. lane_does m n l (next_of l))).callers
  by_lane None = same m.callers
  by_lane (Some l) = by_action l (next_of l)

lane_flow : (m : Machine) (n index : ℕ) → Same m (happens m (Flows n index))
lane_flow m n index = by_lane (m.lanes n) where
  by_action : (l : LaneState) (o : Option Action) → Same m (lane_flows m n l index o)
  by_action l None = refl
  by_action l (Some action) = refl

  by_lane : (o : Option LaneState) → Same m (of_lane m o (λ l. lane_flows m n l index (flow_of l.base.staging index)))
  by_lane None = refl
  by_lane (Some l) = by_action l (flow_of l.base.staging index)

tending_same : (m : Machine) (n : ℕ) (t : Task) → Same m (happens m (Tends n t))
tending_same m n t = by_lane (m.lanes n) where
  by_lane : (o : Option LaneState) → Same m (of_lane m o (λ l. with_lane m n (Some (begun_task l t))))
  by_lane None = refl
  by_lane (Some l) = refl

asking_same : (m : Machine) (n : ℕ) (view : SessionView) (call : Call) → Same m (happens m (Asks n view call))
asking_same m n view call = by_lane (m.lanes n) where
  by_lane : (o : Option LaneState) → Same m (of_lane m o (λ l. with_lane m n (Some (begun l view call))))
  by_lane None = refl
  by_lane (Some l) = refl

merger_acts : (m : Machine) (n : ℕ) → Same m (happens m (Acts (Merger n)))
merger_acts m n = by_merger (m.mergers n) where
  by_merger : (o : Option Merging) → Same m (of_merger m o (λ x. with_merger (acted m (merge_next x)) n (Some (merge_after x (found m (merge_next x))))))
  by_merger None = refl
  by_merger (Some x) = refl

monitor_acts : (m : Machine) → Same m (happens m (Acts Monitor))
monitor_acts m = by_order m.monitor where
  by_action : (x : Monitoring) (o : Option Action) → Same m (monitor_does m x o)
  by_action x None = refl
  by_action x (Some action) = refl

  by_order : (o : Option Monitoring) → Same m (of_monitor m o (λ x. monitor_does m x (monitor_next x)))
  by_order None = refl
  by_order (Some x) = by_action x (monitor_next x)

session_acts : (m : Machine) (s : ℕ) → Hears m.callers (happens m (Acts (Session s))).callers
session_acts m s = by_load (m.loads s) where
  by_load : (o : Option ℕ) → Hears m.callers (loaded m s o).callers
  by_load None = same m.callers
  by_load (Some slot) = session_hears m.callers s _ refl

-- ---- a call goes on or ends
goes_on_same : (w : World) (s : ℕ) (to : Course) → Same w.machine (goes_on w s to).machine
goes_on_same w s course.Load = refl
goes_on_same w s (course.Wait lane) = refl
goes_on_same w s course.Answered = refl
goes_on_same w s course.GivenUp = refl

ends_by_same : (w : World) (n : ℕ) (told : CallAnswer) (view : SessionView) (to : Course) → Same w.machine (ends_by w n told view to).world.machine
ends_by_same w n told view course.Load = refl
ends_by_same w n told view (course.Wait lane) = refl
ends_by_same w n told view course.Answered = refl
ends_by_same w n told view course.GivenUp = refl

ends_same : (w : World) (n : ℕ) (told : CallAnswer) → Same w.machine (ends w n told).world.machine
ends_same w n told = by_view (at_lane w.waiting n).begun where
  by_view : (o : Option SessionView) → Same w.machine (ends_of w n told o).world.machine
  by_view None = refl
  by_view (Some view) = ends_by_same w n told view (course_settled (end_of told) (call_of w.waiting view.session))

-- ---- a lane
abbrev DoneHears : World → Done → Type 0
DoneHears w d = Hears w.machine.callers d.world.machine.callers

turn_same : (w : World) (n : ℕ) (t : Turn) → Same w.machine (by_turn w n t).world.machine
turn_same w n More = refl
turn_same w n (Ended answer) = ends_same w n (told_of answer)
turn_same w n (EndedTask answer) = refl

acts_by_hears : (w : World) (n : ℕ) (l : LaneState) (o : Option Action) → DoneHears w (acts_by w n l o)
acts_by_hears w n l None = same w.machine.callers
acts_by_hears w n l (Some action) =
    let v : World = with_event w (Acts (Lane n)) in
    let t : Turn = turn_of l (found w.machine action) in
    same_then w.machine.callers v.machine.callers (by_turn v n t).world.machine.callers (lane_hears w.machine n) (turn_same v n t)

acts_hears : (w : World) (n : ℕ) → DoneHears w (acts w n)
acts_hears w n = by_lane (w.machine.lanes n) where
  by_lane : (o : Option LaneState) → DoneHears w (acts_of w n o)
  by_lane None = same w.machine.callers
  by_lane (Some l) = acts_by_hears w n l (next_of l)

tends_hears : (w : World) (n : ℕ) (t : Task) (barred : Option ℕ) → DoneHears w (tends w n t barred)
tends_hears w n t None =
    let v : World = with_event (takes_up w n) (Tends n t) in
    same_first w.machine.callers v.machine.callers (acts v n).world.machine.callers (tending_same w.machine n t) (acts_hears v n)
tends_hears w n t (Some word) = same w.machine.callers

tries_hears : (w : World) (n : ℕ) (view : SessionView) (barred : Option ℕ) → DoneHears w (tries w n view barred)
tries_hears w n view None =
    let call : Call = called (call_of w.waiting view.session) in
    let v : World = with_event (takes_up w n) (Asks n view call) in
    same_first w.machine.callers v.machine.callers (acts v n).world.machine.callers (asking_same w.machine n view call) (acts_hears v n)
tries_hears w n view (Some word) = same_by w.machine.callers (ends (takes_up w n) n (Fenced word)).world.machine.callers (ends_same (takes_up w n) n (Fenced word))

begins_hears : (w : World) (n : ℕ) (barred : Option ℕ) (next : Next) → DoneHears w (begins w n barred next)
begins_hears w n barred Rest = same w.machine.callers
begins_hears w n barred (Tend t) = tends_hears w n t barred
begins_hears w n barred (Try view) = tries_hears w n view barred

step_hears : (w : World) (n : ℕ) → DoneHears w (step w n)
step_hears w n = by_lane (w.machine.lanes n) where
  by_work : (l : LaneState) (b : Bool) → DoneHears w (steps_by w n l b)
  by_work l true = acts_by_hears w n l (next_of l)
  by_work l false = begins_hears w n l.base.known.barred (next_at (at_lane w.waiting n))

  by_lane : (o : Option LaneState) → DoneHears w (steps_of w n o)
  by_lane None = same w.machine.callers
  by_lane (Some l) = by_work l (is_working l.mode)

flow_hears : (w : World) (n index : ℕ) → DoneHears w (flow w n index)
flow_hears w n index = by_lane (w.machine.lanes n) where
  by_action : (o : Option Action) → DoneHears w (flow_by w n index o)
  by_action None = same w.machine.callers
  by_action (Some action) = same_by w.machine.callers (happens w.machine (Flows n index)).callers (lane_flow w.machine n index)

  by_lane : (o : Option LaneState) → DoneHears w (flow_at w n index o)
  by_lane None = same w.machine.callers
  by_lane (Some l) = by_action (flow_of l.base.staging index)

merge_hears : (w : World) (n : ℕ) → DoneHears w (merge w n)
merge_hears w n = by_merger (w.machine.mergers n) where
  by_merger : (o : Option Merging) → DoneHears w (merges w n o)
  by_merger None = same w.machine.callers
  by_merger (Some x) = same_by w.machine.callers (happens w.machine (Acts (Merger n))).callers (merger_acts w.machine n)

-- ---- the monitor
release_same : (w : World) (o : Option Leaving) → (release w o).machine ≡ w.machine
release_same w None = refl
release_same w (Some x) = by_test (is_made w x.lane && nat_lt x.slot 64) where
  by_lane : (o : Option LaneState) → (release_at w x o).machine ≡ w.machine
  by_lane None = refl
  by_lane (Some l) = refl

  by_test : (b : Bool) → (if b then release_at w x (w.machine.lanes x.lane) else w).machine ≡ w.machine
  by_test true = by_lane (w.machine.lanes x.lane)
  by_test false = refl

unlive_same : (w : World) (o : Option ℕ) → (unlive w o).machine ≡ w.machine
unlive_same w None = refl
unlive_same w (Some n) = refl

monitor_same : (w : World) → Same w.machine (monitor w).world.machine
monitor_same w = by_order w.machine.monitor where
  by_action : (x : Monitoring) (o : Option Action) → Same w.machine (orders_by w x o).world.machine
  by_action x None = refl
  by_action x (Some action) =
      let word : ℕ = found w.machine action in
      let left : Option Leaving = leaves_by (Some action) (monitor_turn x word) (monitor_next (monitor_after x word)) in
      let v : World = with_event w (Acts Monitor) in
      ap (λ (m : Machine). m.callers) (unlive_same (release v left) (fenced_by (Some action)) ∙ release_same v left) ∙ monitor_acts w.machine

  by_order : (o : Option Monitoring) → Same w.machine (orders_of w o).world.machine
  by_order None = refl
  by_order (Some x) = by_action x (monitor_next x)

give_same : (w : World) (o : Order) (heirs : List ℕ) → Same w.machine (give w o heirs).world.machine
give_same w o heirs = by_may (may_order w o) where
  by_order : (x : Option Monitoring) → Same w.machine (gives_beside w o heirs x).world.machine
  by_order None = refl
  by_order (Some x) = refl

  by_may : (b : Bool) → Same w.machine (if b then gives_beside w o heirs w.machine.monitor else done w NoLane).world.machine
  by_may true = by_order w.machine.monitor
  by_may false = refl

adds_same : (w : World) → Same w.machine (adds w).world.machine
adds_same w = by_test (nat_lt w.made 63) where
  by_test : (b : Bool) → Same w.machine (if b then adds_lane w (w.made + 1) else done w LanesFull).world.machine
  by_test true = refl
  by_test false = refl

-- ---- sessions
routes_by_same : (w : World) (s : ℕ) (c : OpenCall) (route : ℕ) (to : Course) → Same w.machine (routes_by w s c route to).world.machine
routes_by_same w s c route course.Load = refl
routes_by_same w s c route (course.Wait lane) = refl
routes_by_same w s c route course.Answered = refl
routes_by_same w s c route course.GivenUp = refl

routes_same : (w : World) (s : ℕ) (o : Option OpenCall) → Same w.machine (routes w s o).world.machine
routes_same w s None = refl
routes_same w s (Some c) =
    let route : ℕ = route_in (session_at w s) (slot_of (key_of c.call)) in
    routes_by_same w s c route (course_loaded (Some c) (after_load (named_in (Some c)) route))

refresh_hears : (w : World) (s : ℕ) → DoneHears w (refresh w s)
refresh_hears w s = by_load (w.machine.loads s) where
  by_load : (o : Option ℕ) → DoneHears w (refresh_of w s o)
  by_load None = same w.machine.callers
  by_load (Some slot) =
      let v : World = with_event w (Acts (Session s)) in
      same_then w.machine.callers v.machine.callers (routes v s (call_of w.waiting s)).world.machine.callers (session_acts w.machine s) (routes_same v s (call_of w.waiting s))

start_hears : (w : World) (s : ℕ) (named : Option ℕ) (call : Call) → DoneHears w (start w s named call)
start_hears w s named call = by_name (may_name w named) where
  by_closed : (b : Bool) → DoneHears w (start_unless w s named call b)
  by_closed true = same w.machine.callers
  by_closed false =
      let v : World = with_event w (Numbers s) in
      let route : ℕ = route_in (session_at v s) (slot_of (key_of call)) in
      let u : World = with_waiting v (started v.waiting call (view_of (session_at v s) (key_of call)) named route) in
      same_then w.machine.callers v.machine.callers (goes_on u s (course_to (at_first named route))).machine.callers (session_hears w.machine.callers s _ refl) (goes_on_same u s (course_to (at_first named route)))

  by_call : (o : Option OpenCall) → DoneHears w (start_beside w s named call o)
  by_call None = by_closed (w.machine.callers.closed s)
  by_call (Some c) = same w.machine.callers

  by_name : (b : Bool) → DoneHears w (if b then start_beside w s named call (call_of w.waiting s) else done w NoLane)
  by_name true = by_call (call_of w.waiting s)
  by_name false = same w.machine.callers

-- ---- all events
queues_hears : (w : World) (n : ℕ) (t : Task) (o : Option LaneState) → DoneHears w (queues w n t o)
queues_hears w n t None = same w.machine.callers
queues_hears w n t (Some l) = same w.machine.callers

on_lane_hears : (w : World) (n : ℕ) (d : Done) → DoneHears w d → DoneHears w (on_lane w n d)
on_lane_hears w n d h = by_made (is_made w n) where
  by_made : (b : Bool) → DoneHears w (if b then d else done w NoLane)
  by_made true = h
  by_made false = same w.machine.callers

-- but the one that tells a session a position
abbrev pub IsUntold : Event → Type 0
IsUntold (event.Tell s t) = ⊥
IsUntold other = Unit {0}

pub hears : (w : World) (e : Event) (heirs : List ℕ) → IsUntold e → Hears w.machine.callers (does w e heirs).world.machine.callers
hears w (event.Start s lane call) heirs o = start_hears w s lane call
hears w (event.Step n) heirs o = on_lane_hears w n (step w n) (step_hears w n)
hears w (event.Flow n index) heirs o = on_lane_hears w n (flow w n index) (flow_hears w n index)
hears w (event.Merge n) heirs o = on_lane_hears w n (merge w n) (merge_hears w n)
hears w event.Monitor heirs o = same_by w.machine.callers (monitor w).world.machine.callers (monitor_same w)
hears w (event.Refresh s) heirs o = refresh_hears w s
hears w (event.Give order) heirs o = same_by w.machine.callers (give w order heirs).world.machine.callers (give_same w order heirs)
hears w event.DropOrder heirs o = same_by w.machine.callers (drops w).world.machine.callers refl
hears w (event.Queue n t) heirs o = on_lane_hears w n (queues w n t (w.machine.lanes n)) (queues_hears w n t (w.machine.lanes n))
hears w event.Add heirs o = same_by w.machine.callers (adds w).world.machine.callers (adds_same w)
hears w (event.Tell s t) heirs o = absurd o

-- ---- events that change nothing of callers: lanes are added, and the monitor is given orders and acts
abbrev pub IsOfLanes : Event → Type 0
IsOfLanes event.Monitor = Unit {0}
IsOfLanes (event.Give order) = Unit {0}
IsOfLanes event.DropOrder = Unit {0}
IsOfLanes event.Add = Unit {0}
IsOfLanes other = ⊥

abbrev pub IsQuiet : Event × List ℕ → Type 0
IsQuiet x = IsOfLanes x.0

quiet_same : (w : World) (e : Event) (heirs : List ℕ) → IsOfLanes e → Same w.machine (does w e heirs).world.machine
quiet_same w (event.Start s lane call) heirs o = absurd o
quiet_same w (event.Step n) heirs o = absurd o
quiet_same w (event.Flow n index) heirs o = absurd o
quiet_same w (event.Merge n) heirs o = absurd o
quiet_same w event.Monitor heirs o = monitor_same w
quiet_same w (event.Refresh s) heirs o = absurd o
quiet_same w (event.Give order) heirs o = give_same w order heirs
quiet_same w event.DropOrder heirs o = refl
quiet_same w (event.Queue n t) heirs o = absurd o
quiet_same w event.Add heirs o = adds_same w
quiet_same w (event.Tell s t) heirs o = absurd o

pub quiet_after : (w : World) (es : List (Event × List ℕ)) → All IsQuiet es → (after w es).machine.callers ≡ w.machine.callers
quiet_after w [] all = refl
quiet_after w (x ∷ xs) all =
    quiet_after (does w x.0 x.1).world xs (All-tail IsQuiet x xs all) ∙ quiet_same w x.0 x.1 (All-head IsQuiet x xs all)
