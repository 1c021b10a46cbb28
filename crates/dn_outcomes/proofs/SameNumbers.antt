use Rattle.std.proofs.Common.{ℕ, ◌≡◌, Option, Some, None, refl, sym, ◌∙◌, ap}
use Rattle.dn_act.specs.declared.actions.Action.{Action}
use Rattle.dn_hist.specs.declared.calls.Call.{Call}
use Rattle.dn_hist.specs.declared.receipts.Receipt.{Receipt}
use Rattle.dn_hist.specs.declared.receipts.SessionView.{SessionView}
use Rattle.dn_log.specs.Staged.{flow_of}
use Rattle.dn_merge.specs.Merge.{Merging, merge_next, merge_after}
use Rattle.dn_monitor.specs.Monitor.{Monitoring, monitor_next}
use Rattle.dn_route.specs.SessionState.{SessionState}
use Rattle.dn_store.specs.State.{with_at}
use Rattle.dn_store.proofs.At.{at_by}
use Rattle.dn_tend.specs.declared.tasks.Task.{Task}
use Rattle.dn_lane.specs.Next.{next_of}
use Rattle.dn_lane.specs.State.{LaneState, begun, begun_task}
use Rattle.dn_lane.specs.Turns.{turn_of}
use Rattle.dn_lanes.specs.Stepped.{receipt_by}
use Rattle.dn_callers.specs.Callers.{Callers}
use Rattle.dn_machine.specs.Events.{Lane, Merger, Monitor, Session, Acts, Flows, found, answered, lane_does, lane_flows, of_lane, of_merger, of_monitor, monitor_does, loaded, with_lane, with_merger, acted, happens, Tends, Asks}
use Rattle.dn_machine.specs.State.{Machine}

-- What happens to a machine changes the number of no session, but where one gives a call its number.

abbrev pub Same : Machine → Machine → ℕ → Type 0
Same m now k = (now.callers.sessions k).number ≡ (m.callers.sessions k).number

pub session_kept : (c : Callers) (s : ℕ) (x : SessionState) (k : ℕ) → x.number ≡ (c.sessions s).number → (with_at c.sessions s x k).number ≡ (c.sessions k).number
session_kept c s x k e = at_by (λ (v : SessionState). v.number ≡ (c.sessions k).number) c.sessions s x k (λ is. e ∙ ap (λ (j : ℕ). (c.sessions j).number) (sym is)) (λ d. refl)

-- ---- events of a machine
answered_kept : (c : Callers) (o : Option Receipt) (k : ℕ) → ((answered c o).sessions k).number ≡ (c.sessions k).number
answered_kept c None k = refl
answered_kept c (Some r) k = session_kept c r.position.session _ k refl

pub lane_acts : (m : Machine) (n k : ℕ) → Same m (happens m (Acts (Lane n))) k
lane_acts m n k = by_lane (m.lanes n) where
  by_action : (l : LaneState) (o : Option Action) → Same m (lane_does m n l o) k
  by_action l None = refl
  by_action l (Some action) = answered_kept m.callers (receipt_by (turn_of l (found m action))) k

  by_lane : (o : Option LaneState) → Same m (of_lane m o (λ l. lane_does m n l (next_of l))) k
  by_lane None = refl
  by_lane (Some l) = by_action l (next_of l)

pub lane_flow : (m : Machine) (n index k : ℕ) → Same m (happens m (Flows n index)) k
lane_flow m n index k = by_lane (m.lanes n) where
  by_action : (l : LaneState) (o : Option Action) → Same m (lane_flows m n l index o) k
  by_action l None = refl
  by_action l (Some action) = refl

  by_lane : (o : Option LaneState) → Same m (of_lane m o (λ l. lane_flows m n l index (flow_of l.base.staging index))) k
  by_lane None = refl
  by_lane (Some l) = by_action l (flow_of l.base.staging index)

pub tending_same : (m : Machine) (n : ℕ) (t : Task) (k : ℕ) → Same m (happens m (Tends n t)) k
tending_same m n t k = by_lane (m.lanes n) where
  by_lane : (o : Option LaneState) → Same m (of_lane m o (λ l. with_lane m n (Some (begun_task l t)))) k
  by_lane None = refl
  by_lane (Some l) = refl

pub asking_same : (m : Machine) (n : ℕ) (view : SessionView) (call : Call) (k : ℕ) → Same m (happens m (Asks n view call)) k
asking_same m n view call k = by_lane (m.lanes n) where
  by_lane : (o : Option LaneState) → Same m (of_lane m o (λ l. with_lane m n (Some (begun l view call)))) k
  by_lane None = refl
  by_lane (Some l) = refl

pub merger_acts : (m : Machine) (n k : ℕ) → Same m (happens m (Acts (Merger n))) k
merger_acts m n k = by_merger (m.mergers n) where
  by_merger : (o : Option Merging) → Same m (of_merger m o (λ x. with_merger (acted m (merge_next x)) n (Some (merge_after x (found m (merge_next x)))))) k
  by_merger None = refl
  by_merger (Some x) = refl

pub monitor_acts : (m : Machine) (k : ℕ) → Same m (happens m (Acts Monitor)) k
monitor_acts m k = by_order m.monitor where
  by_action : (x : Monitoring) (o : Option Action) → Same m (monitor_does m x o) k
  by_action x None = refl
  by_action x (Some action) = refl

  by_order : (o : Option Monitoring) → Same m (of_monitor m o (λ x. monitor_does m x (monitor_next x))) k
  by_order None = refl
  by_order (Some x) = by_action x (monitor_next x)

pub session_acts : (m : Machine) (s k : ℕ) → Same m (happens m (Acts (Session s))) k
session_acts m s k = by_load (m.loads s) where
  by_load : (o : Option ℕ) → Same m (loaded m s o) k
  by_load None = refl
  by_load (Some slot) = session_kept m.callers s _ k refl
