use Rattle.std.proofs.Common.{ℕ, ◌≡◌, List, Option, Some, None, refl, sym, subst, arith}
use Rattle.dn_act.specs.Action.{words_after}
use Rattle.dn_act.specs.declared.actions.Action.{Action}
use Rattle.dn_hist.specs.Calls.{Bytes}
use Rattle.dn_model.specs.PoolMap.{HoldsMap}
use Rattle.dn_merge.specs.Merge.{Merging, merge_next, merge_after}
use Rattle.dn_monitor.specs.Monitor.{Monitoring, monitor_next}
use Rattle.dn_beside.specs.Pool.{Pool, IsWhole}
use Rattle.dn_beside.specs.Step.{IsQuiet}
use Rattle.dn_turns.specs.Steps.{MergerStepped}
use Rattle.dn_turns.proofs.Steps.{merger_steps}
use Rattle.dn_orders.proofs.Steps.{step}
use Rattle.dn_receipts.proofs.Plain.{none_keeps}
use Rattle.dn_machine.specs.State.{Machine}
use Rattle.dn_machine.specs.Events.{Merger, Monitor, Acts, found, acted, with_merger, of_merger, of_monitor, monitor_does, happens}
use Rattle.dn_machine.specs.Sound.{IsMachineAt, IsSound}
use Rattle.dn_machine.proofs.Rest.{performs}

-- A merger's and the monitor's actions leave the map that the words hold.

map_stays : (p q : Pool) (words now : List ℕ) (map : Bytes) → IsWhole p → IsWhole q → p.words ≡ words → q.words ≡ now → IsQuiet p q → HoldsMap words map → HoldsMap now map
map_stays p q words now map w v e f quiet h = subst (λ ws. HoldsMap ws map) f (none_keeps p q map w v quiet (subst (λ ws. HoldsMap ws map) (sym e) h))

-- ---- a merger
by_merger_map : (p : Pool) (m : Machine) (n : ℕ) (map : Bytes) → IsMachineAt p m → HoldsMap m.words map → (o : Option Merging) → m.mergers n ≡ o
    → HoldsMap (of_merger m o (λ x. with_merger (acted m (merge_next x)) n (Some (merge_after x (found m (merge_next x)))))).words map
by_merger_map p m n map h x None is = x
by_merger_map p m n map h x (Some y) is =
    let now : List ℕ = words_after (merge_next y) m.words in
    let s : MergerStepped n y p (found m (merge_next y)) now = merger_steps n y p (found m (merge_next y)) now
    (record { whole = h.whole; lane = h.actors.numbers n y is; few = omega (arith, h.room.buckets) }) (h.know.mergers n y is) (performs p m (merge_next y) h.words) in
    map_stays p s.left.q m.words now map h.whole s.left.step.whole h.words s.left.words s.left.quiet x

pub merger_map : (segments : ℕ) (m : Machine) (n : ℕ) (map : Bytes) → IsSound segments m → HoldsMap m.words map → HoldsMap (happens m (Acts (Merger n))).words map
merger_map segments m n map h x = by_merger_map h.p m n map h.at x (m.mergers n) refl

-- ---- the monitor
by_next_map : (p : Pool) (m : Machine) (y : Monitoring) (map : Bytes) → IsMachineAt p m → m.monitor ≡ Some y → HoldsMap m.words map → (o : Option Action) → monitor_next y ≡ o → HoldsMap (monitor_does m y o).words map
by_next_map p m y map h is x None e = x
by_next_map p m y map h is x (Some action) e =
    let s = step p y action (found m action) (words_after action m.words) h.whole (h.know.monitor y is) e (performs p m action h.words) in
    map_stays p s.0 m.words (words_after action m.words) map h.whole s.1.step.whole h.words s.1.words s.1.quiet x

by_order_map : (p : Pool) (m : Machine) (map : Bytes) → IsMachineAt p m → HoldsMap m.words map → (o : Option Monitoring) → m.monitor ≡ o → HoldsMap (of_monitor m o (λ y. monitor_does m y (monitor_next y))).words map
by_order_map p m map h x None is = x
by_order_map p m map h x (Some y) is = by_next_map p m y map h is x (monitor_next y) refl

pub monitor_map : (segments : ℕ) (m : Machine) (map : Bytes) → IsSound segments m → HoldsMap m.words map → HoldsMap (happens m (Acts Monitor)).words map
monitor_map segments m map h x = by_order_map h.p m map h.at x m.monitor refl
