use Rattle.std.proofs.Common.{ℕ, ◌≡◌, Bool, true, false, if◌then◌else◌, List, [], ◌∷◌, ◌++◌, Option, Some, None, refl, sym, ◌∙◌, ap, subst}
use Rattle.std.proofs.lemmas.Option.{none-some}
use Rattle.dn_act.specs.Action.{words_after}
use Rattle.dn_act.specs.declared.actions.Action.{Action}
use Rattle.dn_hist.specs.declared.receipts.Receipt.{Receipt}
use Rattle.dn_model.specs.Register.{may_write}
use Rattle.dn_route.specs.CallersOrder.{Told}
use Rattle.dn_merge.specs.Merge.{Merging, started, merge_next}
use Rattle.dn_monitor.specs.Monitor.{Monitoring, monitor_next}
use Rattle.dn_lane.specs.Asked.{view_in}
use Rattle.dn_lane.specs.Next.{next_of}
use Rattle.dn_lane.specs.State.{LaneState}
use Rattle.dn_lane.specs.Taken.{taken_by}
use Rattle.dn_lane.specs.Turns.{turn_of}
use Rattle.dn_lane.specs.declared.asked.Asked.{Asked}
use Rattle.dn_lanes.specs.Stepped.{receipt_by, IsOfCall}
use Rattle.dn_beside.specs.Pool.{Pool}
use Rattle.dn_callers.specs.Callers.{Callers, Standing}
use Rattle.dn_callers.specs.Changes.{closed_at}
use Rattle.dn_machine.specs.State.{Machine}
use Rattle.dn_machine.specs.Events.{Lane, Merger, Monitor, Fails, Stops, Renews, Drops, with_merger, of_merger, of_monitor, monitor_fails, found, acted, acted_if, closed_for, written, of_lane, lane_stops, lane_fails, happens}
use Rattle.dn_machine.specs.Sound.{IsMachineAt, IsSound}
use Rattle.dn_machine.proofs.Calls.{taken_same, IsAnswer, answer_of}
use Rattle.dn_machine.proofs.Kept.{sound}
use Rattle.dn_machine.proofs.LaneActs.{lane_comes}
use Rattle.dn_cluster.specs.State.{ClusterState, numbered}
use Rattle.dn_cluster.specs.Machine.{machine_of, lane_in, merger_in}
use Rattle.dn_cluster.specs.Does.{CanBeSound, Does, FailsAs}
use Rattle.dn_cluster.proofs.Playing.{given_can}

-- An actor whose action failed goes on no further: its cluster can be sound over the words that the action left, done or
-- not done.

-- ---- a lane is stopped

-- ---- where no word is another
stopped_can : (words now : List ℕ) (c d : ClusterState) (n : ℕ) → now ≡ words → Does c d (Stops n) → d.segments ≡ c.segments → CanBeSound words c → CanBeSound now d
stopped_can words now c d n is does same h = subst (λ (w : List ℕ). CanBeSound w d) (sym is) (given_can words c d (Stops n) does same (λ told receipts. tt) h)

-- ---- where the action was done
stop_is : (now : List ℕ) (c d : ClusterState) (n : ℕ) (l : LaneState) (told : List Told) (receipts : List Standing) → Does c d (Stops n) → lane_in (numbered c.nodes n) ≡ Some l
    → machine_of now d told receipts ≡ lane_stops (machine_of now c told receipts) n l None
stop_is now c d n l told receipts does is =
    does.is now told receipts ∙ ap (λ (o : Option LaneState). of_lane (machine_of now c told receipts) o (λ x. lane_stops (machine_of now c told receipts) n x None)) is

-- its receipt is of the session that is closed
closes_its : (p : Pool) (m : Machine) (n : ℕ) (l : LaneState) (action : Action) (r : Receipt) (k : Callers) → IsMachineAt p m → m.lanes n ≡ Some l → next_of l ≡ Some action
    → receipt_by (turn_of l (found m action)) ≡ Some r → closed_for k l.asked ≡ closed_at k r.position.session
closes_its p m n l action r k h is next made =
    let a : IsAnswer m.callers l.asked = answer_of m.callers l.asked (taken_by l.base l.asked l.mode (found m action)) r (taken_same l.base l.asked l.mode (found m action)) (h.actors.calls n l is) made in
    let its : IsOfCall l r = (lane_comes p m n l action h is next).its r made in
    let session : a.view.session ≡ r.position.session = sym (its.session ∙ ap (λ (x : Asked). (view_in x).session) a.is) in
    ap (closed_for k) a.is ∙ ap (closed_at k) session

written_some : (o : Option Receipt) (r : Receipt) → written o ≡ Some r → o ≡ Some r
written_some None r e = absurd (none-some r e)
written_some (Some x) r e = by_test (may_write x.call) e where
  by_test : (b : Bool) → (if b then Some x else None) ≡ Some r → Some x ≡ Some r
  by_test true f = f
  by_test false f = absurd (none-some r f)

-- the machine once the action was done and the lane has failed
abbrev failed_at : Machine → ℕ → LaneState → Action → Option Receipt → Machine
failed_at m n l action o = lane_stops (acted m action) n l o

failed_sound : (segments : ℕ) (m : Machine) (n : ℕ) (l : LaneState) (action : Action) (o : Option Receipt) → IsSound segments m → m.lanes n ≡ Some l → next_of l ≡ Some action
    → written (receipt_by (turn_of l (found m action))) ≡ o → IsSound segments (failed_at m n l action o)
failed_sound segments m n l action o h is next ends =
    let steps : happens m (Fails (Lane n) true) ≡ failed_at m n l action o =
    ap (λ (x : Option LaneState). of_lane m x (λ y. lane_fails m n y true (next_of y))) is
    ∙ ap (λ (x : Option Action). lane_fails m n l true x) next
    ∙ ap (λ (x : Option Receipt). failed_at m n l action x) ends in
    subst (λ (k : Machine). IsSound segments k) steps (sound segments m (Fails (Lane n) true) h tt)

done_can : (words now : List ℕ) (c d : ClusterState) (n : ℕ) (l : LaneState) (action : Action) (o : Option Receipt) (h : CanBeSound words c) → Does c d (Stops n) → d.segments ≡ c.segments
    → lane_in (numbered c.nodes n) ≡ Some l → next_of l ≡ Some action → now ≡ words_after action words
    → written (receipt_by (turn_of l (found (machine_of words c h.told h.receipts) action))) ≡ o → CanBeSound now d
done_can words now c d n l action None h does same is next after ends = record {
  told = h.told;
  receipts = h.receipts;
  sound = subst (λ (k : ℕ). IsSound k (machine_of now d h.told h.receipts)) (sym same)
      (subst (λ (k : Machine). IsSound c.segments k)
      (ap (λ (w : List ℕ). lane_stops (machine_of w c h.told h.receipts) n l None) (sym after) ∙ sym (stop_is now c d n l h.told h.receipts does is))
      (failed_sound c.segments (machine_of words c h.told h.receipts) n l action None h.sound is next ends));
}
done_can words now c d n l action (Some r) h does same is next after ends = record {
  told = h.told;
  receipts = h.receipts ++ (record { receipt = r; answered = false }) ∷ [];
  sound = subst (λ (k : ℕ). IsSound k (machine_of now d h.told more)) (sym same)
      (subst (λ (k : Machine). IsSound c.segments k)
      (ap (λ (w : List ℕ). with_callers (machine_of w c h.told more) (closed_at (machine_of w c h.told more).callers r.position.session)) (sym after)
      ∙ ap (λ (x : Callers). with_callers (machine_of now c h.told more) x) (sym closes)
      ∙ sym (stop_is now c d n l h.told more does is))
      (failed_sound c.segments m n l action (Some r) h.sound is next ends));
} where
  m : Machine
  m = machine_of words c h.told h.receipts

  more : List Standing
  more = h.receipts ++ (record { receipt = r; answered = false }) ∷ []

  with_callers : Machine → Callers → Machine
  with_callers k x = record (lane_stops k n l None) { callers = x }

  closes : closed_for (machine_of now c h.told more).callers l.asked ≡ closed_at (machine_of now c h.told more).callers r.position.session
  closes = closes_its h.sound.p m n l action r (machine_of now c h.told more).callers h.sound.at is next (written_some (receipt_by (turn_of l (found m action))) r ends)

-- ---- both
pub failed_can : (words now : List ℕ) (c d : ClusterState) (n : ℕ) → FailsAs words c now (λ done. Fails (Lane n) done) → Does c d (Stops n) → d.segments ≡ c.segments → CanBeSound words c → CanBeSound now d
failed_can words now c d n fails does same h = by_lane (lane_in (numbered c.nodes n)) refl where
  m : Machine
  m = machine_of words c h.told h.receipts

  now_is : (o : Option LaneState) → lane_in (numbered c.nodes n) ≡ o → now ≡ (of_lane m o (λ x. lane_fails m n x fails.done (next_of x))).words
  now_is o e = fails.so h.told h.receipts ∙ ap (λ (x : Option LaneState). (of_lane m x (λ y. lane_fails m n y fails.done (next_of y))).words) e

  by_next : (l : LaneState) (o : Option Action) (b : Bool) → lane_in (numbered c.nodes n) ≡ Some l → next_of l ≡ o → now ≡ (lane_fails m n l b o).words → CanBeSound now d
  by_next l None b is next after = stopped_can words now c d n after does same h
  by_next l (Some action) true is next after = done_can words now c d n l action (written (receipt_by (turn_of l (found m action)))) h does same is next after refl
  by_next l (Some action) false is next after = stopped_can words now c d n after does same h

  by_lane : (o : Option LaneState) → lane_in (numbered c.nodes n) ≡ o → CanBeSound now d
  by_lane None e = stopped_can words now c d n (now_is None e) does same h
  by_lane (Some l) e = by_next l (next_of l) fails.done e refl (now_is (Some l) e)

-- ---- a merger whose action failed begins anew
pub merger_failed_can : (words now : List ℕ) (c d : ClusterState) (n : ℕ) → FailsAs words c now (λ done. Fails (Merger n) done) → Does c d (Renews n) → d.segments ≡ c.segments → CanBeSound words c → CanBeSound now d
merger_failed_can words now c d n fails does same h = record {
  told = h.told;
  receipts = h.receipts;
  sound = subst (λ (k : ℕ). IsSound k (machine_of now d h.told h.receipts)) (sym same)
      (subst (λ (k : Machine). IsSound c.segments k) (sym (by_merger (merger_in (numbered c.nodes n)) fails.done refl (fails.so h.told h.receipts)))
      (sound c.segments m (Fails (Merger n) fails.done) h.sound tt));
} where
  m : Machine
  m = machine_of words c h.told h.receipts

  anew : Machine → Machine
  anew k = with_merger k n (Some (started n))

  failed_by : Option Merging → Bool → Machine
  failed_by o b = of_merger m o (λ x. anew (acted_if m (merge_next x) b))

  renewed : (o : Option Merging) → merger_in (numbered c.nodes n) ≡ o
      → machine_of now d h.told h.receipts ≡ of_merger (machine_of now c h.told h.receipts) o (λ x. anew (machine_of now c h.told h.receipts))
  renewed o e =
      does.is now h.told h.receipts ∙ ap (λ (x : Option Merging). of_merger (machine_of now c h.told h.receipts) x (λ y. anew (machine_of now c h.told h.receipts))) e

  by_merger : (o : Option Merging) (b : Bool) → merger_in (numbered c.nodes n) ≡ o → now ≡ (failed_by (merger_in (numbered c.nodes n)) b).words
      → machine_of now d h.told h.receipts ≡ failed_by (merger_in (numbered c.nodes n)) b
  by_merger None b e after =
      renewed None e ∙ ap (λ (w : List ℕ). machine_of w c h.told h.receipts) (after ∙ ap (λ (x : Option Merging). (failed_by x b).words) e) ∙ sym (ap (λ (x : Option Merging). failed_by x b) e)
  by_merger (Some x) true e after =
      renewed (Some x) e ∙ ap (λ (w : List ℕ). anew (machine_of w c h.told h.receipts)) (after ∙ ap (λ (y : Option Merging). (failed_by y true).words) e)
      ∙ sym (ap (λ (y : Option Merging). failed_by y true) e)
  by_merger (Some x) false e after =
      renewed (Some x) e ∙ ap (λ (w : List ℕ). anew (machine_of w c h.told h.receipts)) (after ∙ ap (λ (y : Option Merging). (failed_by y false).words) e)
      ∙ sym (ap (λ (y : Option Merging). failed_by y false) e)

-- ---- an order whose action failed is dropped
dropped_can : (words now : List ℕ) (c d : ClusterState) → now ≡ words → Does c d Drops → d.segments ≡ c.segments → CanBeSound words c → CanBeSound now d
dropped_can words now c d is does same h = subst (λ (w : List ℕ). CanBeSound w d) (sym is) (given_can words c d Drops does same (λ told receipts. tt) h)

pub monitor_failed_can : (words now : List ℕ) (c d : ClusterState) → FailsAs words c now (λ done. Fails Monitor done) → Does c d Drops → d.segments ≡ c.segments → CanBeSound words c → CanBeSound now d
monitor_failed_can words now c d fails does same h = by_monitor c.monitor refl where
  m : Machine
  m = machine_of words c h.told h.receipts

  now_is : (o : Option Monitoring) → c.monitor ≡ o → now ≡ (of_monitor m o (λ x. monitor_fails m fails.done (monitor_next x))).words
  now_is o e = fails.so h.told h.receipts ∙ ap (λ (x : Option Monitoring). (of_monitor m x (λ y. monitor_fails m fails.done (monitor_next y))).words) e

  done_so : (x : Monitoring) (action : Action) → c.monitor ≡ Some x → monitor_next x ≡ Some action → now ≡ words_after action words → CanBeSound now d
  done_so x action e next after = record {
    told = h.told;
    receipts = h.receipts;
    sound = subst (λ (k : ℕ). IsSound k (machine_of now d h.told h.receipts)) (sym same)
        (subst (λ (k : Machine). IsSound c.segments k)
        (ap (λ (o : Option Monitoring). of_monitor m o (λ y. monitor_fails m true (monitor_next y))) e
        ∙ ap (λ (o : Option Action). monitor_fails m true o) next
        ∙ ap (λ (w : List ℕ). let k : Machine = machine_of w c h.told h.receipts in record k { monitor = None }) (sym after)
        ∙ sym (does.is now h.told h.receipts))
        (sound c.segments m (Fails Monitor true) h.sound tt));
  }

  by_next : (x : Monitoring) (o : Option Action) (b : Bool) → c.monitor ≡ Some x → monitor_next x ≡ o → now ≡ (monitor_fails m b o).words → CanBeSound now d
  by_next x None b e next after = dropped_can words now c d after does same h
  by_next x (Some action) true e next after = done_so x action e next after
  by_next x (Some action) false e next after = dropped_can words now c d after does same h

  by_monitor : (o : Option Monitoring) → c.monitor ≡ o → CanBeSound now d
  by_monitor None e = dropped_can words now c d (now_is None e) does same h
  by_monitor (Some x) e = by_next x (monitor_next x) fails.done e refl (now_is (Some x) e)
