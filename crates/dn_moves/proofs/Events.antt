use Rattle.std.proofs.Common.{ℕ, ◌+◌, ◌<◌, ◌≡◌, ◌&&◌, Bool, true, false, List, Option, Some, None, nat_lt, if◌then◌else◌, refl, sym, ◌∙◌, ap, subst}
use Rattle.dn_act.specs.declared.actions.Action.{Action}
use Rattle.dn_hist.specs.declared.calls.Call.{Call}
use Rattle.dn_log.specs.Staged.{flow_of}
use Rattle.dn_merge.specs.Merge.{Merging, merge_next, merge_after}
use Rattle.dn_model.specs.Regions.{deed}
use Rattle.dn_monitor.specs.Monitor.{Monitoring, monitor_next, monitor_turn, monitor_after}
use Rattle.dn_monitor.specs.declared.orders.Order.{Order}
use Rattle.dn_tend.specs.declared.tasks.Task.{Task}
use Rattle.dn_lane.specs.State.{LaneState}
use Rattle.dn_machine.specs.Events.{Merger, Monitor, Acts, found, acted, with_merger, of_merger, of_monitor, monitor_does, happens, loaded as loaded_machine}
use Rattle.dn_machine.specs.State.{Machine}
use Rattle.dn_waiting.specs.State.{call_of}
use Rattle.dn_waiting.specs.declared.calls.OpenCall.{OpenCall}
use Rattle.dn_outcomes.specs.Does.{queues, adds_lane, adds, tells_unless, tells, does}
use Rattle.dn_outcomes.specs.declared.leaving.Leaving.{Leaving}
use Rattle.dn_outcomes.specs.Orders.{leaves_by, release_at, release, fenced_by, unlive, orders_by, orders_of, monitor, may_order, gives_beside, give}
use Rattle.dn_outcomes.specs.Sound.{IsWorld}
use Rattle.dn_outcomes.specs.Starts.{routes, start_unless, start_beside, start, refresh_of, refresh}
use Rattle.dn_outcomes.specs.State.{World, Done, done, with_event, is_made, may_name, on_lane}
use Rattle.dn_outcomes.specs.Steps.{flow_by, flow_at, flow, merges, merge, step}
use Rattle.dn_outcomes.specs.declared.events.Event.{Event}
use Rattle.dn_outcomes.specs.declared.events.Event.TheVariants as event
use Rattle.dn_outcomes.specs.declared.outcomes.Outcome.TheVariants.{NoLane, LanesFull}
use Rattle.dn_outcomes.proofs.Facts.{made_lane}
use Rattle.dn_outcomes.proofs.Others.{flows_is}
use Rattle.dn_moves.specs.Changes.{GivesUp, Moves, Same, Changes}
use Rattle.dn_moves.proofs.Actors.{flow_gives, merger_leaves, monitor_moves}
use Rattle.dn_moves.proofs.Steps.{At, Leaves, Kept, kept_same, goes_on_at, step_kept}

-- What each event leaves of the deeds, and of the monitor's order.

-- ---- sessions: no word is stored, and no order moves
pub start_at : (P : List ℕ → Option Monitoring → Type 0) (w : World) (s : ℕ) (named : Option ℕ) (call : Call) → At P w.machine → At P (start w s named call).world.machine
start_at P w s named call h = by_name (may_name w named) where
  by_closed : (b : Bool) → At P (start_unless w s named call b).world.machine
  by_closed true = h
  by_closed false = goes_on_at P _ s _ h

  by_call : (o : Option OpenCall) → At P (start_beside w s named call o).world.machine
  by_call None = by_closed (w.machine.callers.closed s)
  by_call (Some c) = h

  by_name : (b : Bool) → At P (if b then start_beside w s named call (call_of w.waiting s) else done w NoLane).world.machine
  by_name true = by_call (call_of w.waiting s)
  by_name false = h

routes_at : (P : List ℕ → Option Monitoring → Type 0) (v : World) (s : ℕ) (o : Option OpenCall) → At P v.machine → At P (routes v s o).world.machine
routes_at P v s None h = h
routes_at P v s (Some c) h = goes_on_at P _ s _ h

pub refresh_at : (P : List ℕ → Option Monitoring → Type 0) (w : World) (s : ℕ) → At P w.machine → At P (refresh w s).world.machine
refresh_at P w s h = by_load (w.machine.loads s) refl where
  by_load : (o : Option ℕ) → w.machine.loads s ≡ o → At P (refresh_of w s o).world.machine
  by_load None e = h
  by_load (Some slot) e =
      subst (λ (x : Machine). At P (routes (record w { machine = x }) s (call_of w.waiting s)).world.machine) (sym (ap (loaded_machine w.machine s) e))
      (routes_at P (record w { machine = loaded_machine w.machine s (Some slot) }) s (call_of w.waiting s) h)

pub tells_at : (P : List ℕ → Option Monitoring → Type 0) (w : World) (s t : ℕ) → At P w.machine → At P (tells w s t).world.machine
tells_at P w s t h = by_closed (w.machine.callers.closed t) where
  by_closed : (b : Bool) → At P (tells_unless w s t b).world.machine
  by_closed true = h
  by_closed false = h

-- ---- tasks and new lanes
queues_at : (P : List ℕ → Option Monitoring → Type 0) (w : World) (n : ℕ) (task : Task) (o : Option LaneState) → At P w.machine → At P (queues w n task o).world.machine
queues_at P w n task None h = h
queues_at P w n task (Some l) h = h

pub adds_at : (P : List ℕ → Option Monitoring → Type 0) (w : World) → At P w.machine → At P (adds w).world.machine
adds_at P w h = by_test (nat_lt w.made 63) where
  by_test : (b : Bool) → At P (if b then adds_lane w (w.made + 1) else done w LanesFull).world.machine
  by_test true = h
  by_test false = h

-- an event that names a lane
on_lane_at : (P : List ℕ → Option Monitoring → Type 0) (w : World) (n : ℕ) (d : Done) → At P w.machine → (is_made w n ≡ true → At P d.world.machine) → At P (on_lane w n d).world.machine
on_lane_at P w n d h each = by_made (is_made w n) refl where
  by_made : (b : Bool) → is_made w n ≡ b → At P (if b then d else done w NoLane).world.machine
  by_made true e = each e
  by_made false e = h

-- ---- flows and mergers
flow_kept : (w : World) (n index : ℕ) → IsWorld w → Kept w.machine (flow w n index).world.machine
flow_kept w n index h = by_lane (w.machine.lanes n) refl where
  by_flow : (l : LaneState) (o : Option Action) → w.machine.lanes n ≡ Some l → flow_of l.base.staging index ≡ o → Kept w.machine (flow_by w n index o).world.machine
  by_flow l None is e = kept_same w.machine
  by_flow l (Some action) is e =
      subst (λ (x : Machine). Kept w.machine x) (sym (flows_is w.machine n index l action is e)) (record { deeds = λ t lt. flow_gives w.segments w.machine n index l action t h.machine is e lt; order = refl })

  by_lane : (o : Option LaneState) → w.machine.lanes n ≡ o → Kept w.machine (flow_at w n index o).world.machine
  by_lane None is = kept_same w.machine
  by_lane (Some l) is = by_flow l (flow_of l.base.staging index) is refl

abbrev pub AreSame : Machine → Machine → Type 0
AreSame m x = Leaves (λ old new. new ≡ old) m.words m.monitor x.words x.monitor

pub same_deeds : (m : Machine) → AreSame m m
same_deeds m = record { deeds = λ t lt. refl; order = refl }

merge_leaves : (w : World) (n : ℕ) → IsWorld w → AreSame w.machine (merge w n).world.machine
merge_leaves w n h = by_merger (w.machine.mergers n) refl where
  by_merger : (o : Option Merging) → w.machine.mergers n ≡ o → AreSame w.machine (merges w n o).world.machine
  by_merger None is = same_deeds w.machine
  by_merger (Some x) is =
      let change : Merging → Machine = λ z. with_merger (acted w.machine (merge_next z)) n (Some (merge_after z (found w.machine (merge_next z)))) in
      let now : happens w.machine (Acts (Merger n)) ≡ change x = ap (λ o. of_merger w.machine o change) is in
      subst (λ (z : Machine). AreSame w.machine z) (sym now) (record { deeds = λ t lt. merger_leaves w.segments w.machine n x t h.machine is lt; order = refl })

-- ---- the monitor
release_at_at : (P : List ℕ → Option Monitoring → Type 0) (w : World) (x : Leaving) (o : Option LaneState) → At P w.machine → At P (release_at w x o).machine
release_at_at P w x None h = h
release_at_at P w x (Some l) h = h

released_at : (P : List ℕ → Option Monitoring → Type 0) (w : World) (o : Option Leaving) → At P w.machine → At P (release w o).machine
released_at P w None h = h
released_at P w (Some x) h = by_test (is_made w x.lane && nat_lt x.slot 64) where
  by_test : (b : Bool) → At P (if b then release_at w x (w.machine.lanes x.lane) else w).machine
  by_test true = release_at_at P w x (w.machine.lanes x.lane) h
  by_test false = h

unlive_at : (P : List ℕ → Option Monitoring → Type 0) (w : World) (o : Option ℕ) → At P w.machine → At P (unlive w o).machine
unlive_at P w None h = h
unlive_at P w (Some n) h = h

-- what is so after the monitor's action is so after its event
pub acted_at : (P : List ℕ → Option Monitoring → Type 0) (w : World) (x : Monitoring) (action : Action) → w.machine.monitor ≡ Some x → monitor_next x ≡ Some action → At P (monitor_does w.machine x (Some action))
    → At P (orders_by w x (Some action)).world.machine
acted_at P w x action is e h =
    let word : ℕ = found w.machine action in
    let o : Option Leaving = leaves_by (Some action) (monitor_turn x word) (monitor_next (monitor_after x word)) in
    let now : happens w.machine (Acts Monitor) ≡ monitor_does w.machine x (Some action) =
    ap (λ o. of_monitor w.machine o (λ y. monitor_does w.machine y (monitor_next y))) is ∙ ap (monitor_does w.machine x) e in
    unlive_at P (release (with_event w (Acts Monitor)) o) (fenced_by (Some action))
    (released_at P (with_event w (Acts Monitor)) o (subst (λ (z : Machine). At P z) (sym now) h))

-- and what is so where nothing happens, too
pub monitor_at : (P : List ℕ → Option Monitoring → Type 0) (w : World) → At P w.machine
    → ((x : Monitoring) (action : Action) → w.machine.monitor ≡ Some x → monitor_next x ≡ Some action → At P (monitor_does w.machine x (Some action))) → At P (monitor w).world.machine
monitor_at P w h each = by_order w.machine.monitor refl where
  by_action : (x : Monitoring) (o : Option Action) → w.machine.monitor ≡ Some x → monitor_next x ≡ o → At P (orders_by w x o).world.machine
  by_action x None is e = h
  by_action x (Some action) is e = acted_at P w x action is e (each x action is e)

  by_order : (o : Option Monitoring) → w.machine.monitor ≡ o → At P (orders_of w o).world.machine
  by_order None is = h
  by_order (Some x) is = by_action x (monitor_next x) is refl

monitor_changes : (w : World) (t : ℕ) → IsWorld w → t < 64 → Moves (deed w.machine.words t) (deed (monitor w).world.machine.words t)
monitor_changes w t h lt =
    monitor_at (λ now is. Moves (deed w.machine.words t) (deed now t)) w (Same refl)
    (λ x action is e. monitor_moves w.segments w.machine x action t h.machine is e lt)

-- an order that is given stores no word
give_words : (w : World) (o : Order) (heirs : List ℕ) → (give w o heirs).world.machine.words ≡ w.machine.words
give_words w o heirs = by_may (may_order w o) where
  by_order : (x : Option Monitoring) → (gives_beside w o heirs x).world.machine.words ≡ w.machine.words
  by_order None = refl
  by_order (Some x) = refl

  by_may : (b : Bool) → (if b then gives_beside w o heirs w.machine.monitor else done w NoLane).world.machine.words ≡ w.machine.words
  by_may true = by_order w.machine.monitor
  by_may false = refl

-- ---- all events
-- those that store no word
abbrev pub Still : World → List ℕ → Option Monitoring → Type 0
Still w now is = Leaves (λ old new. new ≡ old) w.machine.words w.machine.monitor now is

pub step_event : (w : World) (n : ℕ) (heirs : List ℕ) → IsWorld w → Kept w.machine (does w (event.Step n) heirs).world.machine
step_event w n heirs h = on_lane_at (Leaves GivesUp w.machine.words w.machine.monitor) w n (step w n) (kept_same w.machine) (λ e. step_kept w n h (made_lane w n h e))

pub flow_event : (w : World) (n index : ℕ) (heirs : List ℕ) → IsWorld w → Kept w.machine (does w (event.Flow n index) heirs).world.machine
flow_event w n index heirs h = on_lane_at (Leaves GivesUp w.machine.words w.machine.monitor) w n (flow w n index) (kept_same w.machine) (λ e. flow_kept w n index h)

pub merge_event : (w : World) (n : ℕ) (heirs : List ℕ) → IsWorld w → AreSame w.machine (does w (event.Merge n) heirs).world.machine
merge_event w n heirs h = on_lane_at (Still w) w n (merge w n) (same_deeds w.machine) (λ e. merge_leaves w n h)

pub queue_event : (w : World) (n : ℕ) (task : Task) (heirs : List ℕ) → AreSame w.machine (does w (event.Queue n task) heirs).world.machine
queue_event w n task heirs = on_lane_at (Still w) w n (queues w n task (w.machine.lanes n)) (same_deeds w.machine) (λ e. queues_at (Still w) w n task (w.machine.lanes n) (same_deeds w.machine))

pub changes : (w : World) (e : Event) (heirs : List ℕ) (t : ℕ) → IsWorld w → t < 64 → Changes e (deed w.machine.words t) (deed (does w e heirs).world.machine.words t)
changes w (event.Start s lane call) heirs t h lt = (start_at (Still w) w s lane call (same_deeds w.machine)).deeds t lt
changes w (event.Step n) heirs t h lt = (step_event w n heirs h).deeds t lt
changes w (event.Flow n index) heirs t h lt = (flow_event w n index heirs h).deeds t lt
changes w (event.Merge n) heirs t h lt = (merge_event w n heirs h).deeds t lt
changes w event.Monitor heirs t h lt = monitor_changes w t h lt
changes w (event.Refresh s) heirs t h lt = (refresh_at (Still w) w s (same_deeds w.machine)).deeds t lt
changes w (event.Give o) heirs t h lt = ap (λ ws. deed ws t) (give_words w o heirs)
changes w event.DropOrder heirs t h lt = refl
changes w (event.Queue n task) heirs t h lt = (queue_event w n task heirs).deeds t lt
changes w event.Add heirs t h lt = (adds_at (Still w) w (same_deeds w.machine)).deeds t lt
changes w (event.Tell s k) heirs t h lt = (tells_at (Still w) w s k (same_deeds w.machine)).deeds t lt
