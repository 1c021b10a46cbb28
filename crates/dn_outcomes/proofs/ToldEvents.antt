use Rattle.std.proofs.Common.{◌==◌, ℕ, ◌+◌, ◌≡◌, ◌≢◌, ◌&&◌, Bool, true, false, List, Option, Some, None, nat_lt, if◌then◌else◌, refl, sym, ◌∙◌, ap}
use Rattle.dn_act.specs.declared.actions.Action.{Action}
use Rattle.dn_hist.specs.declared.calls.Call.{Call}
use Rattle.dn_log.specs.Staged.{flow_of}
use Rattle.dn_merge.specs.Merge.{Merging, merge_next, merge_after, merge_turn}
use Rattle.dn_merge.specs.declared.mergers.MergeTurn.{MergeTurn}
use Rattle.dn_merge.specs.declared.mergers.MergeTurn.TheVariants as merging
use Rattle.dn_monitor.specs.Monitor.{Monitoring, monitor_next, monitor_turn, monitor_after}
use Rattle.dn_monitor.specs.declared.orders.MonitorTurn.{MonitorTurn}
use Rattle.dn_monitor.specs.declared.orders.MonitorTurn.TheVariants as turn
use Rattle.dn_monitor.specs.declared.orders.Order.{Order}
use Rattle.dn_tend.specs.declared.tasks.Task.{Task}
use Rattle.dn_tend.specs.declared.tasks.Task.TheVariants.{Release}
use Rattle.dn_lane.specs.State.{LaneState}
use Rattle.dn_callers.specs.Sessions.{IsSession}
use Rattle.dn_machine.specs.Events.{Merger, Monitor, Acts, Flows, Drops, Tells, found, acted, with_merger, of_merger, of_monitor, monitor_does}
use Rattle.dn_machine.specs.State.{Machine}
use Rattle.dn_waiting.specs.Queues.{is_queued}
use Rattle.dn_waiting.specs.State.{call_of, at_lane}
use Rattle.dn_waiting.specs.Turns.{tasked}
use Rattle.dn_outcomes.specs.Does.{queues, adds_lane, adds, tells_unless, tells, does}
use Rattle.dn_outcomes.specs.declared.leaving.Leaving.{Leaving}
use Rattle.dn_outcomes.specs.Orders.{leaves_by, release_at, release, fenced_by, unlive, told_by as monitor_told, orders_by, orders_of, monitor, may_order, gives_beside, give, drops}
use Rattle.dn_outcomes.specs.Sound.{MayHappen, IsWorld}
use Rattle.dn_outcomes.specs.Starts.{session_at}
use Rattle.dn_outcomes.specs.State.{World, Done, done, with_event, with_waiting, is_made, on_lane}
use Rattle.dn_outcomes.specs.Steps.{flow_by, flow_at, flow, told_by as merger_told, merges, merge, step}
use Rattle.dn_outcomes.specs.Told.{IsQuiet, Stands, is_end, GoesOn, Names}
use Rattle.dn_outcomes.specs.declared.events.Event.{Event}
use Rattle.dn_outcomes.specs.declared.events.Event.TheVariants as event
use Rattle.dn_outcomes.specs.declared.outcomes.Outcome.TheVariants.{NoLane, LanesFull}
use Rattle.dn_outcomes.proofs.Facts.{made_lane}
use Rattle.dn_outcomes.proofs.Others.{flows_is}
use Rattle.dn_outcomes.proofs.Told.{IsTold, IsCalm, alike_is, calm_same, calm_goes}
use Rattle.dn_outcomes.proofs.ToldSteps.{told_nothing, told_acted, step_told}
use Rattle.std.proofs.lemmas.Bool.{false≢true, eq-eqb}
use Rattle.dn_outcomes.specs.Told.{starts, Starts}
use Rattle.dn_outcomes.proofs.ToldCalls.{start_told, refresh_told}

-- What the other events tell.

-- ---- the monitor
same_calls : (w now : World) → IsQuiet w now → ((s : ℕ) → call_of now.waiting s ≡ call_of w.waiting s) → IsCalm w now
same_calls w now quiet same = record { quiet = quiet; calls = λ s. alike_is (call_of w.waiting s) (call_of now.waiting s) (same s) }

release_at_quiet : (w : World) (x : Leaving) (o : Option LaneState) → IsCalm w (release_at w x o)
release_at_quiet w x None = calm_same w w refl refl
release_at_quiet w x (Some l) = by_test (is_queued x.slot (at_lane w.waiting x.lane).tasks) where
  by_test : (b : Bool) → IsCalm w (with_waiting w (if b then w.waiting else tasked w.waiting x.lane (Release x.slot)))
  by_test true = calm_same w w refl refl
  by_test false = same_calls w _ refl (λ s. refl)

release_quiet : (w : World) (o : Option Leaving) → IsCalm w (release w o)
release_quiet w None = calm_same w w refl refl
release_quiet w (Some x) = by_test (is_made w x.lane && nat_lt x.slot 64) where
  by_test : (b : Bool) → IsCalm w (if b then release_at w x (w.machine.lanes x.lane) else w)
  by_test true = release_at_quiet w x (w.machine.lanes x.lane)
  by_test false = calm_same w w refl refl

unlive_calm : (w now : World) (o : Option ℕ) → IsCalm w now → IsCalm w (unlive now o)
unlive_calm w now None h = h
unlive_calm w now (Some n) h = record { quiet = h.quiet; calls = h.calls }

monitor_outcome : (w now : World) (t : MonitorTurn) → IsCalm w now → IsTold w (done now (monitor_told t))
monitor_outcome w now turn.More h = told_acted w now h
monitor_outcome w now (turn.Answered answer) h = record { receipts = h.quiet; calls = calm_goes w now h; names = tt }

ordered_quiet : (w : World) (x : Monitoring) (action : Action) → w.machine.monitor ≡ Some x → monitor_next x ≡ Some action → IsQuiet w (with_event w (Acts Monitor))
ordered_quiet w x action is e =
    ap (λ (z : Machine). z.callers.receipts) (ap (λ o. of_monitor w.machine o (λ y. monitor_does w.machine y (monitor_next y))) is ∙ ap (monitor_does w.machine x) e)

orders_told : (w : World) (x : Monitoring) (action : Action) → w.machine.monitor ≡ Some x → monitor_next x ≡ Some action → IsTold w (orders_by w x (Some action))
orders_told w x action is e =
    let word : ℕ = found w.machine action in
    let v : World = with_event w (Acts Monitor) in
    let o : Option Leaving = leaves_by (Some action) (monitor_turn x word) (monitor_next (monitor_after x word)) in
    let r : IsCalm v (release v o) = release_quiet v o in
    monitor_outcome w (unlive (release v o) (fenced_by (Some action))) (monitor_turn x word)
    (unlive_calm w (release v o) (fenced_by (Some action)) (record { quiet = r.quiet ∙ ordered_quiet w x action is e; calls = r.calls }))

monitor_tells : (w : World) → IsTold w (monitor w)
monitor_tells w = by_order w.machine.monitor refl where
  by_action : (x : Monitoring) (o : Option Action) → w.machine.monitor ≡ Some x → monitor_next x ≡ o → IsTold w (orders_by w x o)
  by_action x None is e = told_nothing w
  by_action x (Some action) is e = orders_told w x action is e

  by_order : (o : Option Monitoring) → w.machine.monitor ≡ o → IsTold w (orders_of w o)
  by_order None is = told_nothing w
  by_order (Some x) is = by_action x (monitor_next x) is refl

give_told : (w : World) (o : Order) (heirs : List ℕ) → IsTold w (give w o heirs)
give_told w o heirs = by_may (may_order w o) where
  calm : IsCalm w w
  calm = calm_same w w refl refl

  by_order : (x : Option Monitoring) → IsTold w (gives_beside w o heirs x)
  by_order None = record { receipts = refl; calls = calm_goes w w calm; names = tt }
  by_order (Some x) = record { receipts = refl; calls = calm_goes w w calm; names = tt }

  by_may : (b : Bool) → IsTold w (if b then gives_beside w o heirs w.machine.monitor else done w NoLane)
  by_may true = by_order w.machine.monitor
  by_may false = record { receipts = refl; calls = calm_goes w w calm; names = tt }

drops_told : (w : World) → IsTold w (drops w)
drops_told w = told_acted w (with_event w Drops) (calm_same w (with_event w Drops) refl refl)

-- ---- mergers, flows, tasks and lanes
merger_outcome : (w now : World) (t : MergeTurn) → IsCalm w now → IsTold w (done now (merger_told t))
merger_outcome w now merging.More h = told_acted w now h
merger_outcome w now (merging.Idle gate mark) h = record { receipts = h.quiet; calls = calm_goes w now h; names = tt }
merger_outcome w now (merging.IndexFull counter) h = record { receipts = h.quiet; calls = calm_goes w now h; names = tt }

merge_tells : (w : World) (n : ℕ) → IsTold w (merge w n)
merge_tells w n = by_merger (w.machine.mergers n) refl where
  by_merger : (o : Option Merging) → w.machine.mergers n ≡ o → IsTold w (merges w n o)
  by_merger None is = told_nothing w
  by_merger (Some x) is =
      let change : Merging → Machine = λ z. with_merger (acted w.machine (merge_next z)) n (Some (merge_after z (found w.machine (merge_next z)))) in
      merger_outcome w (with_event w (Acts (Merger n))) (merge_turn x (found w.machine (merge_next x)))
      (calm_same w (with_event w (Acts (Merger n))) (ap (λ (z : Machine). z.callers.receipts) (ap (λ o. of_merger w.machine o change) is)) refl)

flow_tells : (w : World) (n index : ℕ) → IsTold w (flow w n index)
flow_tells w n index = by_lane (w.machine.lanes n) refl where
  by_flow : (l : LaneState) (o : Option Action) → w.machine.lanes n ≡ Some l → flow_of l.base.staging index ≡ o → IsTold w (flow_by w n index o)
  by_flow l None is e = told_nothing w
  by_flow l (Some action) is e =
      told_acted w (with_event w (Flows n index)) (calm_same w (with_event w (Flows n index)) (ap (λ (z : Machine). z.callers.receipts) (flows_is w.machine n index l action is e)) refl)

  by_lane : (o : Option LaneState) → w.machine.lanes n ≡ o → IsTold w (flow_at w n index o)
  by_lane None is = told_nothing w
  by_lane (Some l) is = by_flow l (flow_of l.base.staging index) is refl

queues_told : (w : World) (n : ℕ) (task : Task) (o : Option LaneState) → IsTold w (queues w n task o)
queues_told w n task None = told_nothing w
queues_told w n task (Some l) = told_acted w (with_waiting w (tasked w.waiting n task)) (same_calls w (with_waiting w (tasked w.waiting n task)) refl (λ s. refl))

adds_told : (w : World) → IsTold w (adds w)
adds_told w = by_test (nat_lt w.made 63) where
  by_test : (b : Bool) → IsTold w (if b then adds_lane w (w.made + 1) else done w LanesFull)
  by_test true = record { receipts = refl; calls = calm_goes w w (calm_same w w refl refl); names = tt }
  by_test false = record { receipts = refl; calls = calm_goes w w (calm_same w w refl refl); names = tt }

tells_told : (w : World) (s t : ℕ) → IsTold w (tells w s t)
tells_told w s t = by_closed (w.machine.callers.closed t) where
  by_closed : (b : Bool) → IsTold w (tells_unless w s t b)
  by_closed true = told_acted w w (calm_same w w refl refl)
  by_closed false = told_acted w (with_event w (Tells t (session_at w s).last)) (calm_same w (with_event w (Tells t (session_at w s).last)) refl refl)

-- ---- all events
lane_told : (w : World) (n : ℕ) (d : Done) → (is_made w n ≡ true → IsTold w d) → IsTold w (on_lane w n d)
lane_told w n d each = by_made (is_made w n) refl where
  by_made : (b : Bool) → is_made w n ≡ b → IsTold w (if b then d else done w NoLane)
  by_made true e = each e
  by_made false e = record { receipts = refl; calls = calm_goes w w (calm_same w w refl refl); names = tt }

-- all events but the start of a call
abbrev IsOther : Event → Type 0
IsOther (event.Start s lane call) = ⊥
IsOther (event.Step n) = Unit {0}
IsOther (event.Flow n index) = Unit {0}
IsOther (event.Merge n) = Unit {0}
IsOther event.Monitor = Unit {0}
IsOther (event.Refresh s) = Unit {0}
IsOther (event.Give o) = Unit {0}
IsOther event.DropOrder = Unit {0}
IsOther (event.Queue n t) = Unit {0}
IsOther event.Add = Unit {0}
IsOther (event.Tell s t) = Unit {0}

tells_so : (w : World) (e : Event) (heirs : List ℕ) → IsWorld w → MayHappen w e heirs → IsOther e → IsTold w (does w e heirs)
tells_so w (event.Start s lane call) heirs h may o = absurd o
tells_so w (event.Step n) heirs h may o = lane_told w n (step w n) (λ e. step_told w n h (made_lane w n h e))
tells_so w (event.Flow n index) heirs h may o = lane_told w n (flow w n index) (λ e. flow_tells w n index)
tells_so w (event.Merge n) heirs h may o = lane_told w n (merge w n) (λ e. merge_tells w n)
tells_so w event.Monitor heirs h may o = monitor_tells w
tells_so w (event.Refresh s) heirs h may o = refresh_told w s h may
tells_so w (event.Give o) heirs h may other = give_told w o heirs
tells_so w event.DropOrder heirs h may o = drops_told w
tells_so w (event.Queue n t) heirs h may o = lane_told w n (queues w n t (w.machine.lanes n)) (λ e. queues_told w n t (w.machine.lanes n))
tells_so w event.Add heirs h may o = adds_told w
tells_so w (event.Tell s t) heirs h may o = tells_told w s t

pub receipts_so : (w : World) (e : Event) (heirs : List ℕ) → IsWorld w → MayHappen w e heirs → Stands w (does w e heirs).world (does w e heirs).outcome
receipts_so w (event.Start s lane call) heirs h may = (start_told w s lane call h may.0).receipts
receipts_so w (event.Step n) heirs h may = (tells_so w (event.Step n) heirs h may tt).receipts
receipts_so w (event.Flow n index) heirs h may = (tells_so w (event.Flow n index) heirs h may tt).receipts
receipts_so w (event.Merge n) heirs h may = (tells_so w (event.Merge n) heirs h may tt).receipts
receipts_so w event.Monitor heirs h may = (tells_so w event.Monitor heirs h may tt).receipts
receipts_so w (event.Refresh s) heirs h may = (tells_so w (event.Refresh s) heirs h may tt).receipts
receipts_so w (event.Give o) heirs h may = (tells_so w (event.Give o) heirs h may tt).receipts
receipts_so w event.DropOrder heirs h may = (tells_so w event.DropOrder heirs h may tt).receipts
receipts_so w (event.Queue n t) heirs h may = (tells_so w (event.Queue n t) heirs h may tt).receipts
receipts_so w event.Add heirs h may = (tells_so w event.Add heirs h may tt).receipts
receipts_so w (event.Tell s t) heirs h may = (tells_so w (event.Tell s t) heirs h may tt).receipts

pub names_so : (w : World) (e : Event) (heirs : List ℕ) → IsWorld w → MayHappen w e heirs → Names w.waiting (does w e heirs).outcome
names_so w (event.Start s lane call) heirs h may = (start_told w s lane call h may.0).names
names_so w (event.Step n) heirs h may = (tells_so w (event.Step n) heirs h may tt).names
names_so w (event.Flow n index) heirs h may = (tells_so w (event.Flow n index) heirs h may tt).names
names_so w (event.Merge n) heirs h may = (tells_so w (event.Merge n) heirs h may tt).names
names_so w event.Monitor heirs h may = (tells_so w event.Monitor heirs h may tt).names
names_so w (event.Refresh s) heirs h may = (tells_so w (event.Refresh s) heirs h may tt).names
names_so w (event.Give o) heirs h may = (tells_so w (event.Give o) heirs h may tt).names
names_so w event.DropOrder heirs h may = (tells_so w event.DropOrder heirs h may tt).names
names_so w (event.Queue n t) heirs h may = (tells_so w (event.Queue n t) heirs h may tt).names
names_so w event.Add heirs h may = (tells_so w event.Add heirs h may tt).names
names_so w (event.Tell s t) heirs h may = (tells_so w (event.Tell s t) heirs h may tt).names

-- a session that starts no call by this
another : (s k : ℕ) → (s == k) ≡ false → k ≢ s
another s k e same = false≢true (sym e ∙ eq-eqb s k (sym same))

pub calls_so : (w : World) (e : Event) (heirs : List ℕ) (k : ℕ) → IsWorld w → MayHappen w e heirs → starts e k ≡ false → GoesOn (is_end (does w e heirs).outcome k) (call_of w.waiting k) (call_of (does w e heirs).world.waiting k)
calls_so w (event.Start s lane call) heirs k h may e = (start_told w s lane call h may.0).calls k (another s k e)
calls_so w (event.Step n) heirs k h may e = (tells_so w (event.Step n) heirs h may tt).calls k
calls_so w (event.Flow n index) heirs k h may e = (tells_so w (event.Flow n index) heirs h may tt).calls k
calls_so w (event.Merge n) heirs k h may e = (tells_so w (event.Merge n) heirs h may tt).calls k
calls_so w event.Monitor heirs k h may e = (tells_so w event.Monitor heirs h may tt).calls k
calls_so w (event.Refresh s) heirs k h may e = (tells_so w (event.Refresh s) heirs h may tt).calls k
calls_so w (event.Give o) heirs k h may e = (tells_so w (event.Give o) heirs h may tt).calls k
calls_so w event.DropOrder heirs k h may e = (tells_so w event.DropOrder heirs h may tt).calls k
calls_so w (event.Queue n t) heirs k h may e = (tells_so w (event.Queue n t) heirs h may tt).calls k
calls_so w event.Add heirs k h may e = (tells_so w event.Add heirs h may tt).calls k
calls_so w (event.Tell s t) heirs k h may e = (tells_so w (event.Tell s t) heirs h may tt).calls k

pub starts_so : (w : World) (s : ℕ) (lane : Option ℕ) (call : Call) (heirs : List ℕ) → IsWorld w → IsSession s → Starts w (does w (event.Start s lane call) heirs).world s call (does w (event.Start s lane call) heirs).outcome
starts_so w s lane call heirs h i = (start_told w s lane call h i).starts
