use Rattle.std.proofs.Common.{ℕ, ◌≡◌, ◌⊎◌, inl, inr, Bool, true, false, if◌then◌else◌, List, [], ◌∷◌, ◌++◌, Contains, Option, Some, None, refl, sym, ◌∙◌, ap, subst}
use Rattle.std.proofs.lemmas.Bool.{false≢true}
use Rattle.std.proofs.lemmas.List.Elements.{Contains-push_cases}
use Rattle.dn_act.specs.declared.actions.Action.{Action}
use Rattle.dn_hist.specs.Calls.{IsWrite}
use Rattle.dn_hist.specs.declared.calls.Call.{Call}
use Rattle.dn_hist.specs.declared.calls.Call.TheVariants.{Get, Put, Delete}
use Rattle.dn_hist.specs.declared.receipts.Receipt.{Receipt}
use Rattle.dn_log.specs.Staged.{flow_of}
use Rattle.dn_model.specs.Register.{may_write}
use Rattle.dn_owners.proofs.Ats.{none_some, same_some}
use Rattle.dn_merge.specs.Merge.{Merging, started, merge_next, merge_after}
use Rattle.dn_monitor.specs.Monitor.{Monitoring, monitor_next}
use Rattle.dn_lane.specs.Next.{next_of}
use Rattle.dn_lane.specs.State.{LaneState, begun, begun_task}
use Rattle.dn_lane.specs.Turns.{turn_of}
use Rattle.dn_lane.specs.declared.asked.Asked.{Asked}
use Rattle.dn_lane.specs.declared.asked.Asked.TheVariants as asked
use Rattle.dn_lanes.specs.Stepped.{receipt_by}
use Rattle.dn_callers.specs.Callers.{Callers, Standing}
use Rattle.dn_machine.specs.State.{Machine}
use Rattle.dn_machine.specs.Events.{Lane, Merger, Monitor, Session, Event, Acts, Flows, Fails, FlowFails, Asks, Tends, Orders, Loads, Adds, Numbers, Tells, Hints, Stops, Closes, Renews, Drops, found, acted, acted_if, answered, unanswered, closed_for, written, receipt_if, with_lane, lane_does, lane_flows, lane_stops, lane_fails, flow_fails, of_lane, with_merger, of_merger, monitor_does, monitor_fails, of_monitor, loaded, happens}

-- Only a put or delete comes to stand without an answer.

-- the receipts that stand now, by those that stood before
abbrev pub JoinSo : List Standing → List Standing → Type 0
JoinSo was now = (x : Standing) → Contains now x → x.answered ≡ false → Contains was x ⊎ IsWrite x.receipt.call

same_so : (was : List Standing) → JoinSo was was
same_so was x c e = inl c

one_so : (was : List Standing) (y : Standing) → (y.answered ≡ false → IsWrite y.receipt.call) → JoinSo was (was ++ y ∷ [])
one_so was y own x c e = elim (Contains-push_cases was y x c) [
  | inl had ↦ inl had
  | inr is ↦ inr (subst (λ (z : Standing). IsWrite z.receipt.call) is (own (ap (λ (z : Standing). z.answered) is ∙ e)))
]

-- ---- a receipt that is answered, and one that isn't
answered_so : (c : Callers) (o : Option Receipt) → JoinSo c.receipts (answered c o).receipts
answered_so c None = same_so c.receipts
answered_so c (Some r) = one_so c.receipts (record { receipt = r; answered = true }) (λ e. absurd (false≢true (sym e)))

closed_so : (c : Callers) (a : Asked) → JoinSo c.receipts (closed_for c a).receipts
closed_so c asked.Nothing = same_so c.receipts
closed_so c (asked.Call call view room) = same_so c.receipts
closed_so c asked.Task = same_so c.receipts

unanswered_so : (c : Callers) (a : Asked) (o : Option Receipt) → ((r : Receipt) → o ≡ Some r → IsWrite r.call) → JoinSo c.receipts (unanswered c a o).receipts
unanswered_so c a None own = closed_so c a
unanswered_so c a (Some r) own = one_so c.receipts (record { receipt = r; answered = false }) (λ e. own r refl)

writes : (call : Call) → may_write call ≡ true → IsWrite call
writes (Get key) e = absurd (false≢true e)
writes (Put key value) e = tt
writes (Delete key) e = tt

kept_if : (b : Bool) (r q : Receipt) → may_write r.call ≡ b → (if b then Some r else None) ≡ Some q → IsWrite q.call
kept_if true r q e f = subst (λ (x : Receipt). IsWrite x.call) (same_some r q f) (writes r.call e)
kept_if false r q e f = absurd (none_some q f)

written_so : (o : Option Receipt) (q : Receipt) → written o ≡ Some q → IsWrite q.call
written_so None q e = absurd (none_some q e)
written_so (Some r) q e = kept_if (may_write r.call) r q refl e

if_done : (done : Bool) (l : LaneState) (word : ℕ) (q : Receipt) → receipt_if done l word ≡ Some q → IsWrite q.call
if_done true l word q e = written_so (receipt_by (turn_of l word)) q e
if_done false l word q e = absurd (none_some q e)

-- ---- lanes
does_so : (m : Machine) (n : ℕ) (l : LaneState) (o : Option Action) → JoinSo m.callers.receipts (lane_does m n l o).callers.receipts
does_so m n l None = same_so m.callers.receipts
does_so m n l (Some action) = answered_so m.callers (receipt_by (turn_of l (found m action)))

flows_so : (m : Machine) (n : ℕ) (l : LaneState) (index : ℕ) (o : Option Action) → JoinSo m.callers.receipts (lane_flows m n l index o).callers.receipts
flows_so m n l index None = same_so m.callers.receipts
flows_so m n l index (Some action) = same_so m.callers.receipts

fails_so : (m : Machine) (n : ℕ) (l : LaneState) (done : Bool) (o : Option Action) → JoinSo m.callers.receipts (lane_fails m n l done o).callers.receipts
fails_so m n l done None = same_so m.callers.receipts
fails_so m n l true (Some action) = unanswered_so m.callers l.asked (receipt_if true l (found m action)) (λ q e. if_done true l (found m action) q e)
fails_so m n l false (Some action) = unanswered_so m.callers l.asked (receipt_if false l (found m action)) (λ q e. if_done false l (found m action) q e)

flow_fails_so : (m : Machine) (n : ℕ) (l : LaneState) (done : Bool) (o : Option Action) → JoinSo m.callers.receipts (flow_fails m n l done o).callers.receipts
flow_fails_so m n l done None = same_so m.callers.receipts
flow_fails_so m n l true (Some action) = closed_so m.callers l.asked
flow_fails_so m n l false (Some action) = closed_so m.callers l.asked

of_lane_so : (m : Machine) (o : Option LaneState) (change : LaneState → Machine) → ((l : LaneState) → JoinSo m.callers.receipts (change l).callers.receipts) → JoinSo m.callers.receipts (of_lane m o change).callers.receipts
of_lane_so m None change each = same_so m.callers.receipts
of_lane_so m (Some l) change each = each l

-- ---- the others
of_merger_so : (m : Machine) (o : Option Merging) (change : Merging → Machine) → ((x : Merging) → JoinSo m.callers.receipts (change x).callers.receipts) → JoinSo m.callers.receipts (of_merger m o change).callers.receipts
of_merger_so m None change each = same_so m.callers.receipts
of_merger_so m (Some x) change each = each x

of_monitor_so : (m : Machine) (o : Option Monitoring) (change : Monitoring → Machine) → ((x : Monitoring) → JoinSo m.callers.receipts (change x).callers.receipts) → JoinSo m.callers.receipts (of_monitor m o change).callers.receipts
of_monitor_so m None change each = same_so m.callers.receipts
of_monitor_so m (Some x) change each = each x

monitor_so : (m : Machine) (x : Monitoring) (o : Option Action) → JoinSo m.callers.receipts (monitor_does m x o).callers.receipts
monitor_so m x None = same_so m.callers.receipts
monitor_so m x (Some action) = same_so m.callers.receipts

monitor_fails_so : (m : Machine) (done : Bool) (o : Option Action) → JoinSo m.callers.receipts (monitor_fails m done o).callers.receipts
monitor_fails_so m done None = same_so m.callers.receipts
monitor_fails_so m true (Some action) = same_so m.callers.receipts
monitor_fails_so m false (Some action) = same_so m.callers.receipts

loaded_so : (m : Machine) (s : ℕ) (o : Option ℕ) → JoinSo m.callers.receipts (loaded m s o).callers.receipts
loaded_so m s None = same_so m.callers.receipts
loaded_so m s (Some slot) = same_so m.callers.receipts

renewed_so : (m : Machine) (n : ℕ) (x : Merging) (done : Bool) → JoinSo m.callers.receipts (with_merger (acted_if m (merge_next x) done) n (Some (started n))).callers.receipts
renewed_so m n x true = same_so m.callers.receipts
renewed_so m n x false = same_so m.callers.receipts

-- ---- all events
pub joins_so : (m : Machine) (e : Event) → JoinSo m.callers.receipts (happens m e).callers.receipts
joins_so m (Acts (Lane n)) = of_lane_so m (m.lanes n) (λ l. lane_does m n l (next_of l)) (λ l. does_so m n l (next_of l))
joins_so m (Acts (Merger n)) = of_merger_so m (m.mergers n) (λ x. with_merger (acted m (merge_next x)) n (Some (merge_after x (found m (merge_next x))))) (λ x. same_so m.callers.receipts)
joins_so m (Acts Monitor) = of_monitor_so m m.monitor (λ x. monitor_does m x (monitor_next x)) (λ x. monitor_so m x (monitor_next x))
joins_so m (Acts (Session s)) = loaded_so m s (m.loads s)
joins_so m (Flows n index) = of_lane_so m (m.lanes n) (λ l. lane_flows m n l index (flow_of l.base.staging index)) (λ l. flows_so m n l index (flow_of l.base.staging index))
joins_so m (Fails (Lane n) done) = of_lane_so m (m.lanes n) (λ l. lane_fails m n l done (next_of l)) (λ l. fails_so m n l done (next_of l))
joins_so m (Fails (Merger n) done) = of_merger_so m (m.mergers n) (λ x. with_merger (acted_if m (merge_next x) done) n (Some (started n))) (λ x. renewed_so m n x done)
joins_so m (Fails Monitor done) = of_monitor_so m m.monitor (λ x. monitor_fails m done (monitor_next x)) (λ x. monitor_fails_so m done (monitor_next x))
joins_so m (Fails (Session s) done) = same_so m.callers.receipts
joins_so m (FlowFails n index done) = of_lane_so m (m.lanes n) (λ l. flow_fails m n l done (flow_of l.base.staging index)) (λ l. flow_fails_so m n l done (flow_of l.base.staging index))
joins_so m (Asks n view call) = of_lane_so m (m.lanes n) (λ l. with_lane m n (Some (begun l view call))) (λ l. same_so m.callers.receipts)
joins_so m (Tends n task) = of_lane_so m (m.lanes n) (λ l. with_lane m n (Some (begun_task l task))) (λ l. same_so m.callers.receipts)
joins_so m (Orders order heirs) = same_so m.callers.receipts
joins_so m (Loads s slot) = same_so m.callers.receipts
joins_so m (Adds n segments) = same_so m.callers.receipts
joins_so m (Numbers s) = same_so m.callers.receipts
joins_so m (Tells s position) = same_so m.callers.receipts
joins_so m (Hints s pairs) = same_so m.callers.receipts
joins_so m (Stops n) = of_lane_so m (m.lanes n) (λ l. lane_stops m n l None) (λ l. closed_so m.callers l.asked)
joins_so m (Closes s) = same_so m.callers.receipts
joins_so m (Renews n) = of_merger_so m (m.mergers n) (λ x. with_merger m n (Some (started n))) (λ x. same_so m.callers.receipts)
joins_so m Drops = same_so m.callers.receipts
