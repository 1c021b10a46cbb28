use Rattle.std.proofs.Common.{ℕ, ◌+◌, ◌≡◌, ◌≢◌, Option, Some, None, refl, sym, ◌∙◌, ap, subst, arith}
use Rattle.dn_model.specs.Regions.{IsLane}
use Rattle.dn_owners.proofs.Ats.{none_some, same_some}
use Rattle.dn_store.specs.State.{StoreState, with_at}
use Rattle.dn_store.proofs.At.{at_same, at_other, at_by}
use Rattle.dn_merge.specs.Merge.{Merging, started}
use Rattle.dn_lane.specs.State.{LaneState, fresh}
use Rattle.dn_beside.specs.Pool.{Pool, store_in}
use Rattle.dn_beside.specs.Step.{IsStepBy, by_lane}
use Rattle.dn_turns.specs.Claims.{asks, asking}
use Rattle.dn_turns.specs.Knows.{IsMergerAt}
use Rattle.dn_turns.specs.Sums.{sum_to}
use Rattle.dn_turns.proofs.Claims.{asking_at}
use Rattle.dn_turns.proofs.Sums.{sum_changes}
use Rattle.dn_lanes.specs.Begun.{IsMade}
use Rattle.dn_lanes.specs.Lane.{IsLaneAt}
use Rattle.dn_lanes.specs.Unmade.{IsUnmade}
use Rattle.dn_lanes.proofs.Begins.{lane_begins}
use Rattle.dn_receipts.proofs.Joining.{none_joins}
use Rattle.dn_callers.specs.Callers.{receipts_of}
use Rattle.dn_machine.specs.State.{Machine}
use Rattle.dn_machine.specs.Events.{Adds, happens}
use Rattle.dn_machine.specs.Given.{IsOfSession}
use Rattle.dn_machine.specs.Sound.{claims, claiming, IsCallOf, AreActors, KnowPool, IsMachineAt}
use Rattle.dn_machine.specs.Kept.{IsKept}
use Rattle.dn_machine.proofs.Others.{lanes_last, mergers_last, monitor_lasts, unmade_lasts}

-- A lane is made, and its merger with it.

abbrev lanes_with : Machine → ℕ → ℕ → ℕ → Option LaneState
lanes_with m n segments = with_at m.lanes n (Some (fresh n segments))

abbrev mergers_with : Machine → ℕ → ℕ → Option Merging
mergers_with m n = with_at m.mergers n (Some (started n))

record IsMaking (p : Pool) (m : Machine) (n segments : ℕ) : Type 0 where
  pub at_p : IsMachineAt p m
  pub number : IsLane n
  pub none : m.mergers n ≡ None
  pub made : IsMade p n (fresh n segments)

-- ---- no lane of that number runs
not_there : (p : Pool) (m : Machine) (n k segments : ℕ) (l : LaneState) → IsMaking p m n segments → m.lanes k ≡ Some l → k ≢ n
not_there p m n k segments l h is e = (let made = h.at_p.actors.made k l is in none_some made.0 (sym h.none ∙ sym (ap m.mergers e) ∙ made.1))

not_merged : (p : Pool) (m : Machine) (n k segments : ℕ) (x : Merging) → IsMaking p m n segments → m.mergers k ≡ Some x → k ≢ n
not_merged p m n k segments x h is e = none_some x (sym h.none ∙ sym (ap m.mergers e) ∙ is)

-- ---- who acts then
actors_then : (p : Pool) (m : Machine) (n segments : ℕ) → IsMaking p m n segments → AreActors (happens m (Adds n segments))
actors_then p m n segments h = record {
  made = λ k. at_by (λ o. (x : LaneState) → o ≡ Some x → (y : Merging) × (mergers_with m n k ≡ Some y)) m.lanes n (Some (fresh n segments)) k
      (λ e x f. (started n, at_same m.mergers n (Some (started n)) k e))
      (λ d x f. let was = h.at_p.actors.made k x f in (was.0, at_other m.mergers n (Some (started n)) k d ∙ was.1));
  numbers = λ k. at_by (λ o. (x : Merging) → o ≡ Some x → IsLane k) m.mergers n (Some (started n)) k
      (λ e x f. let P : ℕ → Type 0 = λ i. IsLane i in subst P (sym e) h.number) (λ d x f. h.at_p.actors.numbers k x f);
  loads = h.at_p.actors.loads;
  calls = λ k. at_by (λ o. (x : LaneState) → o ≡ Some x → IsCallOf m.callers x.asked) m.lanes n (Some (fresh n segments)) k
      (λ e x f. subst (λ (y : LaneState). IsCallOf m.callers y.asked) (same_some (fresh n segments) x f) tt) (λ d x f. h.at_p.actors.calls k x f);
  alone = λ j k s x y f g i o. h.at_p.actors.alone j k s x y (of_old j s x f i) (of_old k s y g o) i o;
}
  where
    -- one that has a call was there
    of_old : (k s : ℕ) (x : LaneState) → lanes_with m n segments k ≡ Some x → IsOfSession s x.asked → m.lanes k ≡ Some x
    of_old k s x = at_by (λ o. o ≡ Some x → IsOfSession s x.asked → m.lanes k ≡ Some x) m.lanes n (Some (fresh n segments)) k
        (λ e f i. absurd (subst (λ (y : LaneState). IsOfSession s y.asked) (sym (same_some (fresh n segments) x f)) i)) (λ d f i. f)

-- ---- what they know
know_then : (p : Pool) (m : Machine) (n segments : ℕ) (h : IsMaking p m n segments) → KnowPool h.made.q (happens m (Adds n segments))
know_then p m n segments h = record {
  lanes = λ k. at_by (λ o. (x : LaneState) → o ≡ Some x → IsLaneAt k x q) m.lanes n (Some (fresh n segments)) k
      (λ e x f. subst (λ (i : ℕ). IsLaneAt i x q) (sym e) (subst (λ (y : LaneState). IsLaneAt n y q) (same_some (fresh n segments) x f) h.made.lane))
      (λ d x f. lanes_last (by_lane n) p q m k x h.at_p by f d);
  mergers = λ k. at_by (λ o. (x : Merging) → o ≡ Some x → IsMergerAt k x q) m.mergers n (Some (started n)) k
      (λ e x f. subst (λ (i : ℕ). IsMergerAt i x q) (sym e) (subst (λ (y : Merging). IsMergerAt n y q) (same_some (started n) x f) new))
      (λ d x f. mergers_last (by_lane n) p q m k x h.at_p by f (positive k (h.at_p.actors.numbers k x f)));
  monitor = λ x f. monitor_lasts (by_lane n) p q m x h.at_p by f refl;
  unmade = λ k i. at_by (λ o. o ≡ None → IsUnmade q k) m.mergers n (Some (started n)) k
      (λ e f. absurd (none_some (started n) (sym f)))
      (λ d f. unmade_lasts (by_lane n) p q m k h.at_p by i f d);
}
  where
    q : Pool
    q = h.made.q

    by : IsStepBy (by_lane n) p q
    by = h.made.lesson.by

    new : IsMergerAt n (started n) q
    new = record { number = refl; knows = record {} }

    positive : (k : ℕ) → IsLane k → k ≢ 0
    positive k l e = absurd (omega (arith, e, l.positive))

-- ---- neither asks for anything yet
same_claims : (p : Pool) (m : Machine) (n segments : ℕ) → IsMaking p m n segments → claiming (lanes_with m n segments) ≡ claiming m.lanes
same_claims p m n segments h =
    let f : ℕ → ℕ = λ k. claims (m.lanes k) in
    let g : ℕ → ℕ = λ k. claims (lanes_with m n segments k) in
    let sum : sum_to 63 g + f n ≡ sum_to 63 f + g n = sum_changes 63 f g n h.number.positive (omega (arith, h.number.below)) (λ k d. ap claims (at_other m.lanes n (Some (fresh n segments)) k d)) in
    omega (arith, sum, none (m.lanes n) refl, ap claims (at_same m.lanes n (Some (fresh n segments)) n refl))
  where
    none : (o : Option LaneState) → m.lanes n ≡ o → claims (m.lanes n) ≡ 0
    none None e = ap claims e
    none (Some l) e = absurd (not_there p m n n segments l h e refl)

same_asks : (p : Pool) (m : Machine) (n segments : ℕ) → IsMaking p m n segments → asking (mergers_with m n) ≡ asking m.mergers
same_asks p m n segments h = omega (arith, asking_at m.mergers n (Some (started n)) h.number.positive h.number.below, ap asks h.none)

made_so : (p : Pool) (m : Machine) (n segments : ℕ) → IsMaking p m n segments → IsKept p (happens m (Adds n segments))
made_so p m n segments h =
    let store = h.made.lesson.store in
    record {
      q = h.made.q;
      at = record {
        words = h.made.lesson.words ∙ h.at_p.words;
        whole = h.made.lesson.by.whole;
        actors = actors_then p m n segments h;
        know = know_then p m n segments h;
        room = record {
          pool = omega (arith, h.at_p.room.pool, ap (λ (x : StoreState). x.pool) store);
          buckets = omega (arith, h.at_p.room.buckets, ap (λ (x : StoreState). x.bucket_count) store, same_asks p m n segments h);
          segments = omega (arith, h.at_p.room.segments, ap (λ (x : StoreState). x.segment_count) store, ap (λ (x : StoreState). x.pool) store, same_claims p m n segments h);
        };
        receipts = none_joins p h.made.q (receipts_of m.callers.receipts) h.at_p.receipts h.made.lesson.by.grows h.made.lesson.quiet;
        callers = h.at_p.callers;
      };
      grows = h.made.lesson.by.grows;
    }

pub adds : (p : Pool) (m : Machine) (n segments : ℕ) → IsMachineAt p m → IsLane n × (m.mergers n ≡ None) × (segments ≡ (store_in p).pool) → IsKept p (happens m (Adds n segments))
adds p m n segments h given = made_so p m n segments (record {
  at_p = h;
  number = given.0;
  none = given.1;
  made = lane_begins p n segments h.whole given.0 (h.know.unmade n given.0 given.1) given.2 (omega (arith, given.2, h.room.pool));
})
