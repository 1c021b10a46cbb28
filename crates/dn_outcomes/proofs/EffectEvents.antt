use Rattle.std.proofs.Common.{ℕ, ◌+◌, ◌≡◌, ◌&&◌, Bool, true, false, List, Option, Some, None, nat_lt, if◌then◌else◌, refl, sym, ap, subst}
use Rattle.dn_act.specs.Action.{words_after}
use Rattle.dn_act.specs.declared.actions.Action.{Action}
use Rattle.dn_hist.specs.Calls.{Bytes}
use Rattle.dn_hist.specs.declared.calls.Call.{Call}
use Rattle.dn_log.specs.Staged.{flow_of}
use Rattle.dn_merge.specs.Merge.{Merging, merge_next, merge_turn}
use Rattle.dn_merge.specs.declared.mergers.MergeTurn.{MergeTurn}
use Rattle.dn_merge.specs.declared.mergers.MergeTurn.TheVariants as merging
use Rattle.dn_model.specs.PoolMap.{HoldsMap}
use Rattle.dn_monitor.specs.Monitor.{Monitoring, monitor_next, monitor_turn, monitor_after}
use Rattle.dn_monitor.specs.declared.orders.MonitorTurn.{MonitorTurn}
use Rattle.dn_monitor.specs.declared.orders.MonitorTurn.TheVariants as turn
use Rattle.dn_monitor.specs.declared.orders.Order.{Order}
use Rattle.dn_receipts.proofs.Plain.{none_keeps}
use Rattle.dn_tend.specs.declared.tasks.Task.{Task}
use Rattle.dn_lane.specs.State.{LaneState}
use Rattle.dn_lanes.specs.Stepped.{FlowStepped}
use Rattle.dn_lanes.proofs.Steps.{lane_flows}
use Rattle.dn_machine.specs.Events.{Merger, Monitor, Acts, found, loaded as loaded_machine}
use Rattle.dn_machine.specs.State.{Machine}
use Rattle.dn_machine.specs.Sound.{IsSound}
use Rattle.dn_machine.proofs.LaneActs.{lane_of}
use Rattle.dn_machine.proofs.Quiet.{merger_map, monitor_map}
use Rattle.dn_machine.proofs.Rest.{performs}
use Rattle.dn_waiting.specs.State.{call_of}
use Rattle.dn_waiting.specs.declared.calls.Course.{Course}
use Rattle.dn_waiting.specs.declared.calls.Course.TheVariants as course
use Rattle.dn_waiting.specs.declared.calls.OpenCall.{OpenCall}
use Rattle.dn_outcomes.specs.Does.{queues, adds_lane, adds, tells_unless, tells, does}
use Rattle.dn_outcomes.specs.declared.leaving.Leaving.{Leaving}
use Rattle.dn_outcomes.specs.Orders.{leaves_by, release_at, release, fenced_by, unlive, told_by as monitor_told, orders_by, orders_of, monitor, may_order, gives_beside, give}
use Rattle.dn_outcomes.specs.Sound.{IsWorld}
use Rattle.dn_outcomes.specs.Starts.{given_by, routes, start_unless, start_beside, start, refresh_of, refresh}
use Rattle.dn_outcomes.specs.State.{World, Done, done, with_event, is_made, may_name, on_lane}
use Rattle.dn_outcomes.specs.Steps.{flow_by, flow_at, flow, told_by as merger_told, merges, merge, step}
use Rattle.dn_outcomes.specs.declared.events.Event.{Event}
use Rattle.dn_outcomes.specs.declared.events.Event.TheVariants as event
use Rattle.dn_outcomes.specs.declared.outcomes.Outcome.TheVariants.{NoLane, LanesFull}
use Rattle.dn_outcomes.proofs.Effects.{EffectOf, goes_on_map, step_effect}
use Rattle.dn_outcomes.proofs.Facts.{made_lane}
use Rattle.dn_outcomes.proofs.Others.{flows_is}

-- What the other events do to the map: they leave it.

-- ---- sessions
start_effect : (w : World) (s : ℕ) (named : Option ℕ) (call : Call) (held : Bytes) → HoldsMap w.machine.words held → EffectOf w (start w s named call) held
start_effect w s named call held h = by_name (may_name w named) where
  by_closed : (b : Bool) → EffectOf w (start_unless w s named call b) held
  by_closed true = h
  by_closed false = goes_on_map _ s _ held h

  by_call : (o : Option OpenCall) → EffectOf w (start_beside w s named call o) held
  by_call None = by_closed (w.machine.callers.closed s)
  by_call (Some c) = h

  by_name : (b : Bool) → EffectOf w (if b then start_beside w s named call (call_of w.waiting s) else done w NoLane) held
  by_name true = by_call (call_of w.waiting s)
  by_name false = h

given_effect : (w now : World) (c : OpenCall) (s : ℕ) (to : Course) (held : Bytes) → HoldsMap now.machine.words held → EffectOf w (record { world = now; outcome = given_by c s to }) held
given_effect w now c s course.Load held h = h
given_effect w now c s (course.Wait lane) held h = h
given_effect w now c s course.Answered held h = h
given_effect w now c s course.GivenUp held h = h

routes_effect : (w v : World) (s : ℕ) (o : Option OpenCall) (held : Bytes) → HoldsMap v.machine.words held → EffectOf w (routes v s o) held
routes_effect w v s None held h = h
routes_effect w v s (Some c) held h = given_effect w _ c s _ held (goes_on_map _ s _ held h)

refresh_effect : (w : World) (s : ℕ) (held : Bytes) → HoldsMap w.machine.words held → EffectOf w (refresh w s) held
refresh_effect w s held h = by_load (w.machine.loads s) refl where
  by_load : (o : Option ℕ) → w.machine.loads s ≡ o → EffectOf w (refresh_of w s o) held
  by_load None e = h
  by_load (Some slot) e =
      subst (λ (x : Machine). EffectOf w (routes (record w { machine = x }) s (call_of w.waiting s)) held) (sym (ap (loaded_machine w.machine s) e))
      (routes_effect w (record w { machine = loaded_machine w.machine s (Some slot) }) s (call_of w.waiting s) held h)

tells_effect : (w : World) (s t : ℕ) (held : Bytes) → HoldsMap w.machine.words held → EffectOf w (tells w s t) held
tells_effect w s t held h = by_closed (w.machine.callers.closed t) where
  by_closed : (b : Bool) → EffectOf w (tells_unless w s t b) held
  by_closed true = h
  by_closed false = h

-- ---- the monitor
release_at_map : (w : World) (x : Leaving) (o : Option LaneState) (held : Bytes) → HoldsMap w.machine.words held → HoldsMap (release_at w x o).machine.words held
release_at_map w x None held h = h
release_at_map w x (Some l) held h = h

release_map : (w : World) (o : Option Leaving) (held : Bytes) → HoldsMap w.machine.words held → HoldsMap (release w o).machine.words held
release_map w None held h = h
release_map w (Some x) held h = by_test (is_made w x.lane && nat_lt x.slot 64) where
  by_test : (b : Bool) → HoldsMap (if b then release_at w x (w.machine.lanes x.lane) else w).machine.words held
  by_test true = release_at_map w x (w.machine.lanes x.lane) held h
  by_test false = h

unlive_map : (w : World) (o : Option ℕ) (held : Bytes) → HoldsMap w.machine.words held → HoldsMap (unlive w o).machine.words held
unlive_map w None held h = h
unlive_map w (Some n) held h = h

monitor_outcome : (w now : World) (t : MonitorTurn) (held : Bytes) → HoldsMap now.machine.words held → EffectOf w (done now (monitor_told t)) held
monitor_outcome w now turn.More held h = h
monitor_outcome w now (turn.Answered answer) held h = h

monitor_effect : (w : World) (held : Bytes) → IsWorld w → HoldsMap w.machine.words held → EffectOf w (monitor w) held
monitor_effect w held h holds = by_order w.machine.monitor where
  by_action : (x : Monitoring) (o : Option Action) → EffectOf w (orders_by w x o) held
  by_action x None = holds
  by_action x (Some action) =
      let word : ℕ = found w.machine action in
      let o : Option Leaving = leaves_by (Some action) (monitor_turn x word) (monitor_next (monitor_after x word)) in
      let v : World = release (with_event w (Acts Monitor)) o in
      monitor_outcome w (unlive v (fenced_by (Some action))) (monitor_turn x word) held
      (unlive_map v (fenced_by (Some action)) held (release_map (with_event w (Acts Monitor)) o held (monitor_map w.segments w.machine held h.machine holds)))

  by_order : (o : Option Monitoring) → EffectOf w (orders_of w o) held
  by_order None = holds
  by_order (Some x) = by_action x (monitor_next x)

give_effect : (w : World) (o : Order) (heirs : List ℕ) (held : Bytes) → HoldsMap w.machine.words held → EffectOf w (give w o heirs) held
give_effect w o heirs held h = by_may (may_order w o) where
  by_order : (x : Option Monitoring) → EffectOf w (gives_beside w o heirs x) held
  by_order None = h
  by_order (Some x) = h

  by_may : (b : Bool) → EffectOf w (if b then gives_beside w o heirs w.machine.monitor else done w NoLane) held
  by_may true = by_order w.machine.monitor
  by_may false = h

-- ---- mergers, flows, tasks and lanes
merger_outcome : (w now : World) (t : MergeTurn) (held : Bytes) → HoldsMap now.machine.words held → EffectOf w (done now (merger_told t)) held
merger_outcome w now merging.More held h = h
merger_outcome w now (merging.Idle gate mark) held h = h
merger_outcome w now (merging.IndexFull counter) held h = h

merge_effect : (w : World) (n : ℕ) (held : Bytes) → IsWorld w → HoldsMap w.machine.words held → EffectOf w (merge w n) held
merge_effect w n held h holds = by_merger (w.machine.mergers n) where
  by_merger : (o : Option Merging) → EffectOf w (merges w n o) held
  by_merger None = holds
  by_merger (Some x) = merger_outcome w (with_event w (Acts (Merger n))) (merge_turn x (found w.machine (merge_next x))) held (merger_map w.segments w.machine n held h.machine holds)

flows_map : (segments : ℕ) (m : Machine) (n index : ℕ) (l : LaneState) (action : Action) (held : Bytes) → IsSound segments m → m.lanes n ≡ Some l → flow_of l.base.staging index ≡ Some action → HoldsMap m.words held
    → HoldsMap (words_after action m.words) held
flows_map segments m n index l action held h is e holds =
    let now : List ℕ = words_after action m.words in
    let s : FlowStepped h.p n l index now = lane_flows h.p n l index action (found m action) now h.at.whole (lane_of h.p m n l h.at is) (h.at.know.lanes n l is) e (performs h.p m action h.at.words) in
    subst (λ ws. HoldsMap ws held) s.words (none_keeps h.p s.q held h.at.whole s.by.whole s.quiet (subst (λ ws. HoldsMap ws held) (sym h.at.words) holds))

flow_effect : (w : World) (n index : ℕ) (held : Bytes) → IsWorld w → HoldsMap w.machine.words held → EffectOf w (flow w n index) held
flow_effect w n index held h holds = by_lane (w.machine.lanes n) refl where
  by_flow : (l : LaneState) (o : Option Action) → w.machine.lanes n ≡ Some l → flow_of l.base.staging index ≡ o → EffectOf w (flow_by w n index o) held
  by_flow l None is e = holds
  by_flow l (Some action) is e =
      subst (λ (x : Machine). HoldsMap x.words held) (sym (flows_is w.machine n index l action is e)) (flows_map w.segments w.machine n index l action held h.machine is e holds)

  by_lane : (o : Option LaneState) → w.machine.lanes n ≡ o → EffectOf w (flow_at w n index o) held
  by_lane None is = holds
  by_lane (Some l) is = by_flow l (flow_of l.base.staging index) is refl

queues_effect : (w : World) (n : ℕ) (task : Task) (o : Option LaneState) (held : Bytes) → HoldsMap w.machine.words held → EffectOf w (queues w n task o) held
queues_effect w n task None held h = h
queues_effect w n task (Some l) held h = h

adds_effect : (w : World) (held : Bytes) → HoldsMap w.machine.words held → EffectOf w (adds w) held
adds_effect w held h = by_test (nat_lt w.made 63) where
  by_test : (b : Bool) → EffectOf w (if b then adds_lane w (w.made + 1) else done w LanesFull) held
  by_test true = h
  by_test false = h

-- ---- all events
lane_effect : (w : World) (n : ℕ) (d : Done) (held : Bytes) → HoldsMap w.machine.words held → (is_made w n ≡ true → EffectOf w d held) → EffectOf w (on_lane w n d) held
lane_effect w n d held h each = by_made (is_made w n) refl where
  by_made : (b : Bool) → is_made w n ≡ b → EffectOf w (if b then d else done w NoLane) held
  by_made true e = each e
  by_made false e = h

pub effect : (w : World) (e : Event) (heirs : List ℕ) (held : Bytes) → IsWorld w → HoldsMap w.machine.words held → EffectOf w (does w e heirs) held
effect w (event.Start s lane call) heirs held h holds = start_effect w s lane call held holds
effect w (event.Step n) heirs held h holds = lane_effect w n (step w n) held holds (λ e. step_effect w n held h (made_lane w n h e) holds)
effect w (event.Flow n index) heirs held h holds = lane_effect w n (flow w n index) held holds (λ e. flow_effect w n index held h holds)
effect w (event.Merge n) heirs held h holds = lane_effect w n (merge w n) held holds (λ e. merge_effect w n held h holds)
effect w event.Monitor heirs held h holds = monitor_effect w held h holds
effect w (event.Refresh s) heirs held h holds = refresh_effect w s held holds
effect w (event.Give o) heirs held h holds = give_effect w o heirs held holds
effect w event.DropOrder heirs held h holds = holds
effect w (event.Queue n t) heirs held h holds = lane_effect w n (queues w n t (w.machine.lanes n)) held holds (λ e. queues_effect w n t (w.machine.lanes n) held holds)
effect w event.Add heirs held h holds = adds_effect w held holds
effect w (event.Tell s t) heirs held h holds = tells_effect w s t held holds
