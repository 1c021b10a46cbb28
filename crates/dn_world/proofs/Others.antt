use Rattle.std.proofs.Common.{ℕ, ◌≡◌, ◌++◌, ◌&&◌, Bool, true, false, nat_lt, if◌then◌else◌, List, [], Option, Some, None, refl, sym, ◌∙◌, ap}
use Rattle.dn_act.specs.declared.actions.Action.{Action}
use Rattle.dn_log.specs.Staged.{flow_of}
use Rattle.dn_merge.specs.Merge.{Merging, merge_next, merge_turn}
use Rattle.dn_merge.specs.declared.mergers.MergeTurn.{MergeTurn}
use Rattle.dn_merge.specs.declared.mergers.MergeTurn.TheVariants as merging
use Rattle.dn_world.specs.Comes.{Turns, Carries, bare, has_failed}
use Rattle.dn_world.specs.State.{CrewState, world_of}
use Rattle.dn_world.proofs.Refreshing.{IsActed, acted_world}
use Rattle.dn_world.proofs.Changes.{is_done}
use Rattle.dn_cluster.specs.State.{ClusterState}
use Rattle.dn_lane.specs.State.{LaneState}
use Rattle.dn_lane.specs.declared.answers.Turn.{Turn}
use Rattle.dn_lane.specs.declared.answers.Turn.TheVariants.{More}
use Rattle.dn_machine.specs.State.{Machine}
use Rattle.dn_monitor.specs.Monitor.{Monitoring, monitor_next, monitor_turn, monitor_after, is_last}
use Rattle.dn_monitor.specs.declared.orders.MonitorAnswer.TheVariants as told
use Rattle.dn_monitor.specs.declared.orders.MonitorTurn.{MonitorTurn}
use Rattle.dn_monitor.specs.declared.orders.MonitorTurn.TheVariants as monitoring
use Rattle.dn_waiting.specs.Turns.{released}
use Rattle.dn_outcomes.specs.Orders.{leaves_by, release_at, release, fenced_by, unlive, told_by as ordered_by, orders_by, orders_of, monitor}
use Rattle.dn_outcomes.specs.declared.leaving.Leaving.{Leaving}
use Rattle.dn_outcomes.specs.Awaited.{next_by}
use Rattle.dn_machine.specs.Events.{Monitor, ordered, of_monitor, monitor_does, happens, Merger, Acts, Flows, found, of_lane, of_merger, lane_flows, with_merger, acted as acted_by}
use Rattle.dn_merge.specs.Merge.{merge_after}
use Rattle.dn_cluster.specs.Acting.{flow_answer, flow_found, merger_answer, monitor_answer, monitor_found}
use Rattle.dn_cluster.specs.declared.actors.Acted.{Acted}
use Rattle.dn_cluster.specs.declared.actors.Acted.TheVariants as acted
use Rattle.dn_outcomes.specs.State.{World, Done, done, with_event, with_waiting, is_made}
use Rattle.dn_outcomes.specs.Steps.{flow_by, flow_at, merges, told_by}
use Rattle.dn_outcomes.specs.declared.outcomes.Outcome.TheVariants as outcome

-- A staged word flows, or a merger makes its next action.

-- ---- a staged word flows
pub record Flowed (w : World) (n index : ℕ) (o : Option LaneState) (turn : Turn) : Type 0 where
  pub is : turn ≡ More
  pub does : flow_at w n index o ≡ done (with_event w (Flows n index)) outcome.Acted

flow_found_as : (w : World) (n index : ℕ) (a : Option Action) (turn : Turn) → acted.Lane turn ≡ flow_found a → (turn ≡ More) × (flow_by w n index a ≡ done (with_event w (Flows n index)) outcome.Acted)
flow_found_as w n index None turn e = absurd (cc e)
flow_found_as w n index (Some action) turn e = (cc, refl)

pub flowed_as : (w : World) (n index : ℕ) (o : Option LaneState) (turn : Turn) → acted.Lane turn ≡ flow_answer o index → Flowed w n index o turn
flowed_as w n index None turn e = absurd (cc e)
flowed_as w n index (Some l) turn e = (let f = flow_found_as w n index (flow_of l.base.staging index) turn e in record { is = f.0; does = f.1 })

pub record FlowRests (w : World) (n index : ℕ) (o : Option LaneState) (a : Acted) : Type 0 where
  pub is : a ≡ acted.Nothing
  pub nothing : flow_at w n index o ≡ done w outcome.Nothing
  pub same : of_lane w.machine o (λ l. lane_flows w.machine n l index (flow_of l.base.staging index)) ≡ w.machine

flow_found_rests : (w : World) (n index : ℕ) (l : LaneState) (p : Option Action) (a : Acted) → ((turn : Turn) → a ≡ acted.Lane turn → ⊥) → a ≡ flow_found p
    → (a ≡ acted.Nothing) × (flow_by w n index p ≡ done w outcome.Nothing) × (lane_flows w.machine n l index p ≡ w.machine)
flow_found_rests w n index l None a h e = (e, refl, refl)
flow_found_rests w n index l (Some action) a h e = absurd (h _ e)

pub flow_rests : (w : World) (n index : ℕ) (o : Option LaneState) (a : Acted) → ((turn : Turn) → a ≡ acted.Lane turn → ⊥) → a ≡ flow_answer o index → FlowRests w n index o a
flow_rests w n index None a h e = record { is = e; nothing = refl; same = refl }
flow_rests w n index (Some l) a h e = (let f = flow_found_rests w n index l (flow_of l.base.staging index) a h e in record { is = f.0; nothing = f.1; same = f.2 })

-- ---- a merger acts
pub merged_as : (w : World) (n : ℕ) (o : Option Merging) (turn : MergeTurn) → acted.Merger turn ≡ merger_answer w.machine.words o → merges w n o ≡ done (with_event w (Acts (Merger n))) (told_by turn)
merged_as w n None turn e = absurd (cc e)
merged_as w n (Some x) turn e = (let same : merge_turn x (found w.machine (merge_next x)) ≡ turn = cc in ap (λ (t : MergeTurn). done (with_event w (Acts (Merger n))) (told_by t)) same)

pub record MergeRests (w : World) (n : ℕ) (o : Option Merging) (a : Acted) : Type 0 where
  pub is : a ≡ acted.Nothing
  pub nothing : merges w n o ≡ done w outcome.Nothing
  pub same : of_merger w.machine o (λ x. with_merger (acted_by w.machine (merge_next x)) n (Some (merge_after x (found w.machine (merge_next x))))) ≡ w.machine

pub merge_rests : (w : World) (n : ℕ) (o : Option Merging) (a : Acted) → ((turn : MergeTurn) → a ≡ acted.Merger turn → ⊥) → a ≡ merger_answer w.machine.words o → MergeRests w n o a
merge_rests w n None a h e = record { is = e; nothing = refl; same = refl }
merge_rests w n (Some x) a h e = absurd (h _ e)

pub merged_fine : (t : MergeTurn) → has_failed (told_by t) ≡ false
merged_fine merging.More = refl
merged_fine (merging.Idle gate mark) = refl
merged_fine (merging.IndexFull counter) = refl

-- ---- a release is queued, or nothing is changed
released_if : (w : World) (x : Leaving) (b : Bool) → (is_made w x.lane && nat_lt x.slot 64) ≡ b → release w (Some x) ≡ (if b then release_at w x (w.machine.lanes x.lane) else w)
released_if w x b e = ap (λ (k : Bool). if k then release_at w x (w.machine.lanes x.lane) else w) e

and_false : (a b : Bool) → a ≡ false → (a && b) ≡ false
and_false true b e = absurd (cc e)
and_false false b e = refl

and_second : (a b : Bool) → b ≡ false → (a && b) ≡ false
and_second true b e = e
and_second false b e = refl

and_both : (a b : Bool) → a ≡ true → b ≡ true → (a && b) ≡ true
and_both true b e f = f
and_both false b e f = absurd (cc e)

pub release_unmade : (w : World) (x : Leaving) → is_made w x.lane ≡ false → release w (Some x) ≡ w
release_unmade w x e = released_if w x false (and_false (is_made w x.lane) (nat_lt x.slot 64) e)

pub release_high : (w : World) (x : Leaving) → nat_lt x.slot 64 ≡ false → release w (Some x) ≡ w
release_high w x e = released_if w x false (and_second (is_made w x.lane) (nat_lt x.slot 64) e)

release_at_stopped : (w : World) (x : Leaving) (b : Bool) → (if b then w else w) ≡ w
release_at_stopped w x true = refl
release_at_stopped w x false = refl

pub release_stopped : (w : World) (x : Leaving) → w.machine.lanes x.lane ≡ None → release w (Some x) ≡ w
release_stopped w x e = ap (λ (o : Option LaneState). if (is_made w x.lane && nat_lt x.slot 64) then release_at w x o else w) e ∙ release_at_stopped w x (is_made w x.lane && nat_lt x.slot 64)

pub release_runs : (w : World) (x : Leaving) (l : LaneState) → is_made w x.lane ≡ true → nat_lt x.slot 64 ≡ true → w.machine.lanes x.lane ≡ Some l → release w (Some x) ≡ with_waiting w (released w.waiting x.lane x.slot)
release_runs w x l made low e = released_if w x true (and_both (is_made w x.lane) (nat_lt x.slot 64) made low) ∙ ap (λ (o : Option LaneState). release_at w x o) e

-- ---- the monitor acts
pub next_after : (w : World) (x : Monitoring) (action : Option Action) (word : ℕ) → leaves_by action (monitor_turn x word) (monitor_next (monitor_after x word)) ≡ leaves_by action (monitor_turn x word) (next_by (ordered x word))
next_after w x action word = by (monitor_turn x word) (is_last (monitor_turn x word)) refl where
  by : (t : MonitorTurn) (b : Bool) → is_last t ≡ b → leaves_by action t (monitor_next (monitor_after x word)) ≡ leaves_by action t (next_by (if b then None else Some (monitor_after x word)))
  by monitoring.More b e = refl
  by (monitoring.Answered (told.Formatted old)) b e = refl
  by (monitoring.Answered (told.Looked deed)) b e = refl
  by (monitoring.Answered (told.Granted deed)) b e = refl
  by (monitoring.Answered (told.Barred old)) b e = refl
  by (monitoring.Answered (told.Taken slots)) b e = refl
  by (monitoring.Answered (told.Held deed)) true e = absurd (cc e)
  by (monitoring.Answered (told.Held deed)) false e = refl
  by (monitoring.Answered (told.Waiting mark need)) b e = refl
  by (monitoring.Answered (told.NotFenced word)) b e = refl
  by (monitoring.Answered (told.Worn epoch)) b e = refl

found_told : (w : World) (x : Monitoring) (p : Option Action) (t : MonitorTurn) (after : Option Monitoring) → acted.Monitor t ≡ monitor_found w.machine.words x p
    → (monitor_does w.machine x p).monitor ≡ after
    → orders_by w x p ≡ done (unlive (release (with_event w (Acts Monitor)) (leaves_by p t (next_by after))) (fenced_by p)) (ordered_by t)
found_told w x None t after e m = absurd (cc e)
found_told w x (Some action) t after e m =
    let word : ℕ = found w.machine action in
    let same : monitor_turn x word ≡ t = cc in
    let k : World = with_event w (Acts Monitor) in
    let f : Option ℕ = fenced_by (Some action) in
    ap (λ (l : Option Leaving). done (unlive (release k l) f) (ordered_by (monitor_turn x word))) (next_after w x (Some action) word ∙ ap (λ (o : Option Monitoring). leaves_by (Some action) (monitor_turn x word) (next_by o)) m)
    ∙ ap (λ (u : MonitorTurn). done (unlive (release k (leaves_by (Some action) u (next_by after))) f) (ordered_by u)) same

pub monitored_as : (w : World) (o : Option Monitoring) (t : MonitorTurn) (after : Option Monitoring) → w.machine.monitor ≡ o → acted.Monitor t ≡ monitor_answer w.machine.words o → (happens w.machine (Acts Monitor)).monitor ≡ after
    → monitor w ≡ done (unlive (release (with_event w (Acts Monitor)) (leaves_by (next_by o) t (next_by after))) (fenced_by (next_by o))) (ordered_by t)
monitored_as w None t after is e m = absurd (cc e)
monitored_as w (Some x) t after is e m =
    let so : happens w.machine (Acts Monitor) ≡ monitor_does w.machine x (monitor_next x) = ap (λ (o : Option Monitoring). of_monitor w.machine o (λ y. monitor_does w.machine y (monitor_next y))) is in
    ap (λ (o : Option Monitoring). orders_of w o) is
    ∙ found_told w x (monitor_next x) t after e (ap (λ (k : Machine). k.monitor) (sym so) ∙ m)

pub ordered_fine : (t : MonitorTurn) → has_failed (ordered_by t) ≡ false
ordered_fine monitoring.More = refl
ordered_fine (monitoring.Answered answer) = refl

pub record MonitorRests (w : World) (o : Option Monitoring) (a : Acted) : Type 0 where
  pub is : a ≡ acted.Nothing
  pub nothing : orders_of w o ≡ done w outcome.Nothing
  pub same : of_monitor w.machine o (λ x. monitor_does w.machine x (monitor_next x)) ≡ w.machine

monitor_found_rests : (w : World) (x : Monitoring) (p : Option Action) (a : Acted) → ((turn : MonitorTurn) → a ≡ acted.Monitor turn → ⊥) → a ≡ monitor_found w.machine.words x p
    → (a ≡ acted.Nothing) × (orders_by w x p ≡ done w outcome.Nothing) × (monitor_does w.machine x p ≡ w.machine)
monitor_found_rests w x None a h e = (e, refl, refl)
monitor_found_rests w x (Some action) a h e = absurd (h _ e)

pub monitor_rests : (w : World) (o : Option Monitoring) (a : Acted) → ((turn : MonitorTurn) → a ≡ acted.Monitor turn → ⊥) → a ≡ monitor_answer w.machine.words o → MonitorRests w o a
monitor_rests w None a h e = record { is = e; nothing = refl; same = refl }
monitor_rests w (Some x) a h e = (let f = monitor_found_rests w x (monitor_next x) a h e in record { is = f.0; nothing = f.1; same = f.2 })

pub record IsMonitored (words : List ℕ) (x : CrewState) (now : List ℕ) (k : ClusterState) (u y : CrewState) (t : MonitorTurn) (l : Option Leaving) (n : Option ℕ) : Type 0 where
  pub acts : IsActed words x now (record x { cluster = k }) [] (Acts Monitor)
  pub answer : acted.Monitor t ≡ monitor_answer words x.cluster.monitor
  pub leaves : l ≡ leaves_by (next_by x.cluster.monitor) t (next_by k.monitor)
  pub fences : n ≡ fenced_by (next_by x.cluster.monitor)
  pub releases : Turns (record x { cluster = k }) u (λ w. release w l)
  pub unlives : Turns u y (λ w. unlive w n)

pub monitor_done : (words : List ℕ) (x : CrewState) (now : List ℕ) (k : ClusterState) (u y : CrewState) (t : MonitorTurn) (l : Option Leaving) (n : Option ℕ) → IsMonitored words x now k u y t l n → Carries words x now y (bare (ordered_by t)) monitor
monitor_done words x now k u y t l n h = record {
  is = λ told receipts sound.
      let w : World = world_of words x told receipts in
      let b : World = world_of now (record x { cluster = k }) told (receipts ++ []) in
      let e : b ≡ with_event w (Acts Monitor) = acted_world words x now (record x { cluster = k }) [] (Acts Monitor) h.acts told receipts sound in
      let m : (happens w.machine (Acts Monitor)).monitor ≡ k.monitor = sym (ap (λ (z : World). z.machine.monitor) e) in
      let f : Option ℕ = fenced_by (next_by x.cluster.monitor) in
      let r : monitor w ≡ done (unlive (release b l) n) (ordered_by t) = monitored_as w x.cluster.monitor t k.monitor refl h.answer m
      ∙ ap (λ (z : World). done (unlive (release z (leaves_by (next_by x.cluster.monitor) t (next_by k.monitor))) f) (ordered_by t)) (sym e) ∙ ap (λ (o : Option Leaving). done (unlive (release b o) f) (ordered_by t)) (sym h.leaves)
      ∙ ap (λ (o : Option ℕ). done (unlive (release b l) o) (ordered_by t)) (sym h.fences) in
      let s : world_of now y told (receipts ++ []) ≡ unlive (release b l) n = h.unlives.is now told (receipts ++ []) ∙ ap (λ (z : World). unlive z n) (h.releases.is now told (receipts ++ [])) in
      is_done words x now y (bare (ordered_by t)) monitor told receipts told
      (ap (λ (z : Done). z.world) r ∙ sym s) (sym (ap (λ (z : Done). z.outcome) r));
}
