use Rattle.std.proofs.Common.{ℕ, ◌+◌, ◌≡◌, ◌<◌, ◌≤◌, ◌++◌, ◌∷◌, [], ◌&&◌, inl, inr, Bool, true, false, List, Option, Some, None, nat_lt, if◌then◌else◌, refl, sym, ◌∙◌, ap, subst, arith}
use Rattle.std.proofs.lemmas.Bool.{and_parts, ltb-true}
use Rattle.std.proofs.lemmas.List.Elements.{All-filter, All-push, Contains-push_cases}
use Rattle.std.proofs.lemmas.List.Kept.{AllPairs-from_increasing, IsStrictlyIncreasing-filter}
use Rattle.std.proofs.lemmas.List.Quantifiers.{all_pairs_push}
use Rattle.std.proofs.lemmas.Option.{none-some}
use Rattle.dn_act.specs.declared.actions.Action.{Action}
use Rattle.dn_log.specs.Staged.{flow_of}
use Rattle.dn_merge.specs.Merge.{Merging, started, merge_next, merge_after}
use Rattle.dn_model.specs.Regions.{IsLane}
use Rattle.dn_monitor.specs.Monitor.{Monitoring, IsOrder, monitor_next, monitor_turn, monitor_after}
use Rattle.dn_monitor.specs.declared.orders.Order.{Order}
use Rattle.dn_store.specs.State.{with_at}
use Rattle.dn_store.proofs.At.{at_other, at_by}
use Rattle.dn_tend.specs.declared.tasks.Task.{Task}
use Rattle.dn_tend.specs.declared.tasks.Task.TheVariants.{Release}
use Rattle.dn_lane.specs.State.{LaneState, fresh}
use Rattle.dn_lane.specs.Turns.{flowed_of}
use Rattle.dn_lanes.specs.Begun.{IsOwnTask}
use Rattle.dn_machine.specs.Events.{Merger, Monitor, Acts, Flows, Adds, Orders, Drops, acted, found, of_lane, with_lane, lane_flows, of_merger, with_merger, of_monitor, monitor_does, happens}
use Rattle.dn_machine.specs.Sound.{IsSound}
use Rattle.dn_machine.specs.State.{Machine}
use Rattle.dn_machine.proofs.Kept.{sound}
use Rattle.dn_waiting.specs.Queues.{AtLane, with_task, is_queued}
use Rattle.dn_waiting.specs.State.{WaitingState, call_of, at_lane}
use Rattle.dn_waiting.specs.Turns.{tasked, released}
use Rattle.dn_waiting.specs.declared.calls.OpenCall.{OpenCall}
use Rattle.dn_waiting.proofs.Changes.{tasked_sound}
use Rattle.dn_outcomes.specs.State.{World, done, with_event, with_waiting, is_made, on_lane, Done}
use Rattle.dn_outcomes.specs.Does.{queues, adds_lane, adds}
use Rattle.dn_outcomes.specs.declared.leaving.Leaving.{Leaving}
use Rattle.dn_outcomes.specs.Orders.{leaves_by, release_at, release, fenced_by, unlive, orders_by, orders_of, monitor, may_order, gives_beside, give, drops}
use Rattle.dn_outcomes.specs.Steps.{flow_by, flow_at, flow, merges, merge}
use Rattle.dn_outcomes.specs.Sound.{IsTake, TakesSo, view_at, AreMade, AreLive, IsWorld}
use Rattle.dn_outcomes.specs.declared.outcomes.Outcome.TheVariants.{NoLane, LanesFull}
use Rattle.dn_outcomes.proofs.Facts.{made_lane, may_give, may_add}
use Rattle.dn_outcomes.proofs.Goes.{others_of, calls_after, asked_after, asked_beside}
use Rattle.dn_outcomes.proofs.Waits.{Changed, lane_changed}
use Rattle.dn_outcomes.proofs.Ends.{lane_asked}

-- What mergers, the monitor and those who give things do keeps a world.

-- ---- an event that names a lane which was made
pub on_lane_kept : (w : World) (n : ℕ) (d : Done) → IsWorld w → (is_made w n ≡ true → IsWorld d.world) → IsWorld (on_lane w n d).world
on_lane_kept w n d h each = by_made (is_made w n) refl where
  by_made : (b : Bool) → is_made w n ≡ b → IsWorld (if b then d else done w NoLane).world
  by_made true e = each e
  by_made false e = h

-- ---- a task arrives
pub tasked_kept : (w : World) (n : ℕ) (task : Task) → IsWorld w → IsLane n → IsOwnTask task → IsWorld (with_waiting w (tasked w.waiting n task))
tasked_kept w n task h lane own =
    let v : WaitingState = tasked w.waiting n task in
    let o : Option OpenCall = call_of w.waiting 0 in
    let q : AtLane = with_task (at_lane w.waiting n) task in
    let ch : Changed w.waiting v 0 n o q = lane_changed w.waiting 0 n q (omega (arith, h.waiting.made, lane.below)) in record {
      machine = h.machine;
      waiting = tasked_sound w.waiting n task h.waiting (omega (arith, lane.positive), omega (arith, lane.below));
      calls = calls_after w.waiting v 0 n o q w.machine.callers w.machine.loads ch (others_of 0 w.waiting w.machine.callers w.machine.loads h.calls) (record {
        call = λ x i is. absurd (omega (arith, i.least));
        load_is = λ i. absurd (omega (arith, i.least));
        queued = λ u l has. h.calls.queued n u l has;
        tasks = λ t l has. elim (Contains-push_cases (at_lane w.waiting n).tasks task t has) [
          | inl had ↦ h.calls.tasks n t l had
          | inr is ↦ subst IsOwnTask is own
        ];
      });
      asked = asked_after w.waiting v 0 n o q w.machine.lanes ch (asked_beside n w.waiting w.machine.lanes h.asked) (λ k x l is of. refl) (λ l. h.asked.begun n l);
      made = h.made;
      live = h.live;
    }

pub queues_kept : (w : World) (n : ℕ) (task : Task) (o : Option LaneState) → IsWorld w → IsLane n → IsOwnTask task → IsWorld (queues w n task o).world
queues_kept w n task None h lane own = h
queues_kept w n task (Some l) h lane own = tasked_kept w n task h lane own

-- ---- a staged word flows
pub flows_is : (m : Machine) (n index : ℕ) (l : LaneState) (action : Action) → m.lanes n ≡ Some l → flow_of l.base.staging index ≡ Some action
    → happens m (Flows n index) ≡ with_lane (acted m action) n (Some (flowed_of l index))
flows_is m n index l action is e = ap (λ o. of_lane m o (λ y. lane_flows m n y index (flow_of y.base.staging index))) is ∙ ap (λ o. lane_flows m n l index o) e

flows_so : (w : World) (n index : ℕ) (l : LaneState) (action : Action) → IsWorld w → IsLane n → w.machine.lanes n ≡ Some l → flow_of l.base.staging index ≡ Some action → IsWorld (with_event w (Flows n index))
flows_so w n index l action h lane is e =
    let now : happens w.machine (Flows n index) ≡ with_lane (acted w.machine action) n (Some (flowed_of l index)) = flows_is w.machine n index l action is e in
    let machine : IsSound w.segments (with_lane (acted w.machine action) n (Some (flowed_of l index))) =
    subst (λ (x : Machine). IsSound w.segments x) now (sound w.segments w.machine (Flows n index) h.machine tt) in
    subst (λ (x : Machine). IsWorld (record w { machine = x })) (sym now) (record {
      machine = machine;
      waiting = h.waiting;
      calls = h.calls;
      asked = lane_asked n w.waiting w.machine.lanes (flowed_of l index) (asked_beside n w.waiting w.machine.lanes h.asked) (h.asked.calls n l lane is) (h.asked.plans n l lane is) (h.asked.begun n lane ∙ ap view_at is);
      made = h.made;
      live = h.live;
    })

pub flow_kept : (w : World) (n index : ℕ) → IsWorld w → IsLane n → IsWorld (flow w n index).world
flow_kept w n index h lane = by_lane (w.machine.lanes n) refl where
  by_flow : (l : LaneState) (o : Option Action) → w.machine.lanes n ≡ Some l → flow_of l.base.staging index ≡ o → IsWorld (flow_by w n index o).world
  by_flow l None is e = h
  by_flow l (Some action) is e = flows_so w n index l action h lane is e

  by_lane : (o : Option LaneState) → w.machine.lanes n ≡ o → IsWorld (flow_at w n index o).world
  by_lane None is = h
  by_lane (Some l) is = by_flow l (flow_of l.base.staging index) is refl

-- ---- a merger's action
merger_made : (made n : ℕ) (mergers : ℕ → Option Merging) (x : Merging) → AreMade made mergers → n ≤ made → AreMade made (with_at mergers n (Some x))
merger_made made n mergers x h le = record {
  most = h.most;
  yes_made = λ k one most. at_by (λ o. (y : Merging) × (o ≡ Some y)) mergers n (Some x) k (λ e. (x, refl)) (λ d. h.yes_made k one most);
  not_made = λ k above. at_other mergers n (Some x) k (λ e. absurd (omega (arith, e, above, le))) ∙ h.not_made k above;
}

merges_so : (w : World) (n : ℕ) (x : Merging) → IsWorld w → n ≤ w.made → w.machine.mergers n ≡ Some x → IsWorld (with_event w (Acts (Merger n)))
merges_so w n x h le is =
    let y : Merging = merge_after x (found w.machine (merge_next x)) in
    let change : Merging → Machine = λ z. with_merger (acted w.machine (merge_next z)) n (Some (merge_after z (found w.machine (merge_next z)))) in
    let now : happens w.machine (Acts (Merger n)) ≡ change x = ap (λ o. of_merger w.machine o change) is in
    let machine : IsSound w.segments (change x) = subst (λ (z : Machine). IsSound w.segments z) now (sound w.segments w.machine (Acts (Merger n)) h.machine tt) in
    subst (λ (z : Machine). IsWorld (record w { machine = z })) (sym now) (record {
      machine = machine;
      waiting = h.waiting;
      calls = h.calls;
      asked = h.asked;
      made = merger_made w.made n w.machine.mergers y h.made le;
      live = h.live;
    })

pub merge_kept : (w : World) (n : ℕ) → IsWorld w → n ≤ w.made → IsWorld (merge w n).world
merge_kept w n h le = by_merger (w.machine.mergers n) refl where
  by_merger : (o : Option Merging) → w.machine.mergers n ≡ o → IsWorld (merges w n o).world
  by_merger None is = h
  by_merger (Some x) is = merges_so w n x h le is

-- ---- the monitor's action, and the release that it leads to
released_kept : (w : World) (n slot : ℕ) → IsWorld w → IsLane n → slot < 64 → IsWorld (with_waiting w (released w.waiting n slot))
released_kept w n slot h lane lt = by_test (is_queued slot (at_lane w.waiting n).tasks) where
  by_test : (b : Bool) → IsWorld (with_waiting w (if b then w.waiting else tasked w.waiting n (Release slot)))
  by_test true = h
  by_test false = tasked_kept w n (Release slot) h lane lt

release_at_kept : (w : World) (x : Leaving) (o : Option LaneState) → IsWorld w → IsLane x.lane → x.slot < 64 → IsWorld (release_at w x o)
release_at_kept w x None h lane lt = h
release_at_kept w x (Some l) h lane lt = released_kept w x.lane x.slot h lane lt

release_kept : (w : World) (o : Option Leaving) → IsWorld w → IsWorld (release w o)
release_kept w None h = h
release_kept w (Some x) h = by_test (is_made w x.lane && nat_lt x.slot 64) refl where
  by_test : (b : Bool) → (is_made w x.lane && nat_lt x.slot 64) ≡ b → IsWorld (if b then release_at w x (w.machine.lanes x.lane) else w)
  by_test true e = (let p = and_parts (is_made w x.lane) (nat_lt x.slot 64) e in release_at_kept w x (w.machine.lanes x.lane) h (made_lane w x.lane h p.0) (ltb-true x.slot 64 p.1))
  by_test false e = h

unlive_kept : (w : World) (o : Option ℕ) → IsWorld w → IsWorld (unlive w o)
unlive_kept w None h = h
unlive_kept w (Some n) h = record {
  machine = h.machine;
  waiting = h.waiting;
  calls = h.calls;
  asked = h.asked;
  made = h.made;
  live = record { rising = IsStrictlyIncreasing-filter _ w.live h.live.rising; lanes = All-filter _ (λ (k : ℕ). (1 ≤ k) × (k ≤ w.made)) w.live h.live.lanes };
}

ordered_so : (w : World) (x : Monitoring) (action : Action) → IsWorld w → w.machine.monitor ≡ Some x → monitor_next x ≡ Some action → IsWorld (with_event w (Acts Monitor))
ordered_so w x action h is e =
    let now : happens w.machine (Acts Monitor) ≡ monitor_does w.machine x (Some action) =
    ap (λ o. of_monitor w.machine o (λ y. monitor_does w.machine y (monitor_next y))) is ∙ ap (monitor_does w.machine x) e in
    let machine : IsSound w.segments (monitor_does w.machine x (Some action)) = subst (λ (z : Machine). IsSound w.segments z) now (sound w.segments w.machine (Acts Monitor) h.machine tt) in
    subst (λ (z : Machine). IsWorld (record w { machine = z })) (sym now) (record { machine = machine; waiting = h.waiting; calls = h.calls; asked = h.asked; made = h.made; live = h.live })

pub monitor_kept : (w : World) → IsWorld w → IsWorld (monitor w).world
monitor_kept w h = by_order (w.machine.monitor) refl where
  by_action : (x : Monitoring) (o : Option Action) → w.machine.monitor ≡ Some x → monitor_next x ≡ o → IsWorld (orders_by w x o).world
  by_action x None is e = h
  by_action x (Some action) is e =
      let word : ℕ = found w.machine action in
      let o : Option Leaving = leaves_by (Some action) (monitor_turn x word) (monitor_next (monitor_after x word)) in
      unlive_kept (release (with_event w (Acts Monitor)) o) (fenced_by (Some action)) (release_kept (with_event w (Acts Monitor)) o (ordered_so w x action h is e))

  by_order : (o : Option Monitoring) → w.machine.monitor ≡ o → IsWorld (orders_of w o).world
  by_order None is = h
  by_order (Some x) is = by_action x (monitor_next x) is refl

-- ---- the monitor is given an order
gives_so : (w : World) (o : Order) (heirs : List ℕ) → IsWorld w → IsOrder o → IsTake w.live o heirs → w.machine.monitor ≡ None → IsWorld (with_event w (Orders o heirs))
gives_so w o heirs h fits take none = record {
  machine = sound w.segments w.machine (Orders o heirs) h.machine (may_give w o heirs h fits take none);
  waiting = h.waiting;
  calls = h.calls;
  asked = h.asked;
  made = h.made;
  live = h.live;
}

pub give_kept : (w : World) (o : Order) (heirs : List ℕ) → IsWorld w → IsOrder o → TakesSo w o heirs → IsWorld (give w o heirs).world
give_kept w o heirs h fits take = by_may (may_order w o) refl where
  by_order : may_order w o ≡ true → (x : Option Monitoring) → w.machine.monitor ≡ x → IsWorld (gives_beside w o heirs x).world
  by_order may None e = gives_so w o heirs h fits (take may e) e
  by_order may (Some x) e = h

  by_may : (b : Bool) → may_order w o ≡ b → IsWorld (if b then gives_beside w o heirs w.machine.monitor else done w NoLane).world
  by_may true e = by_order e w.machine.monitor refl
  by_may false e = h

-- ---- or its order is given up
pub drops_kept : (w : World) → IsWorld w → IsWorld (drops w).world
drops_kept w h = record { machine = sound w.segments w.machine Drops h.machine tt; waiting = h.waiting; calls = h.calls; asked = h.asked; made = h.made; live = h.live }

-- ---- a lane is added
added_made : (made n : ℕ) (mergers : ℕ → Option Merging) (x : Merging) → AreMade made mergers → n ≡ made + 1 → n ≤ 63 → AreMade n (with_at mergers n (Some x))
added_made made n mergers x h is few = record {
  most = few;
  yes_made = λ k one most. at_by (λ o. (y : Merging) × (o ≡ Some y)) mergers n (Some x) k (λ e. (x, refl)) (λ d. h.yes_made k one (omega (arith, most, is, d)));
  not_made = λ k above. at_other mergers n (Some x) k (λ e. absurd (omega (arith, e, above))) ∙ h.not_made k (omega (arith, above, is));
}

added_live : (made n : ℕ) (live : List ℕ) → AreLive made live → n ≡ made + 1 → AreLive n (live ++ n ∷ [])
added_live made n live h is = record {
  rising = λ k lt. all_pairs_push (λ x y. x < y) live n (AllPairs-from_increasing live h.rising) (λ i d below. omega (arith, (h.lanes i d below).1, is)) k (k + 1) 0 (omega arith) lt;
  lanes = All-push (λ (k : ℕ). (1 ≤ k) × (k ≤ n)) live n (λ i d below. (let p = h.lanes i d below in (p.0, omega (arith, p.1, is)))) (omega (arith, is), omega arith);
}

-- no lane of that number runs
none_runs : (w : World) (n : ℕ) → IsWorld w → w.machine.mergers n ≡ None → (o : Option LaneState) → w.machine.lanes n ≡ o → view_at o ≡ None
none_runs w n h none None e = refl
none_runs w n h none (Some l) e = (let made = h.machine.at.actors.made n l e in absurd (none-some made.0 (sym none ∙ made.1)))

pub adds_kept : (w : World) → IsWorld w → IsWorld (adds w).world
adds_kept w h = by_test (nat_lt w.made 63) refl where
  adds_so : (n : ℕ) → n ≡ w.made + 1 → n ≤ 63 → IsWorld (adds_lane w n).world
  adds_so n is few =
      let may : IsLane n × (w.machine.mergers n ≡ None) = may_add w n h is few in record {
        machine = sound w.segments w.machine (Adds n w.segments) h.machine (may.0, may.1, refl);
        waiting = h.waiting;
        calls = h.calls;
        asked = lane_asked n w.waiting w.machine.lanes (fresh n w.segments) (asked_beside n w.waiting w.machine.lanes h.asked) tt tt
            (h.asked.begun n may.0 ∙ none_runs w n h may.1 (w.machine.lanes n) refl);
        made = added_made w.made n w.machine.mergers (started n) h.made is few;
        live = added_live w.made n w.live h.live is;
      }

  by_test : (b : Bool) → nat_lt w.made 63 ≡ b → IsWorld (if b then adds_lane w (w.made + 1) else done w LanesFull).world
  by_test true e = adds_so (w.made + 1) refl (omega (arith, ltb-true w.made 63 e))
  by_test false e = h
