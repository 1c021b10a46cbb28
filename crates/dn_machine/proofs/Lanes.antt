use Rattle.std.proofs.Common.{ℕ, ◌+◌, ◌≤◌, ◌≡◌, ◌≢◌, inl, inr, true, List, Option, Some, None, refl, sym, ◌∙◌, ap, subst, arith}
use Rattle.std.proofs.lemmas.Bool.{cases_eq}
use Rattle.dn_hist.specs.Calls.{key_of}
use Rattle.dn_hist.specs.declared.receipts.Receipt.{Receipt}
use Rattle.dn_hist.specs.declared.receipts.SessionView.{SessionView}
use Rattle.dn_hist.specs.CallersOrder.{IsBefore}
use Rattle.dn_model.specs.Regions.{IsLane}
use Rattle.dn_store.specs.State.{with_at}
use Rattle.dn_store.proofs.At.{at_same, at_other, at_by}
use Rattle.dn_owners.proofs.Ats.{same_some, none_some}
use Rattle.dn_merge.specs.Merge.{Merging}
use Rattle.dn_log.specs.declared.claims.Claim.{Claim}
use Rattle.dn_log.specs.declared.claims.Claim.TheVariants.{Reading, Taking}
use Rattle.dn_lane.specs.Asked.{call_in, view_in}
use Rattle.dn_lane.specs.declared.modes.Mode.{Mode}
use Rattle.dn_lane.specs.declared.modes.Mode.TheVariants as mode
use Rattle.dn_lane.specs.State.{LaneState}
use Rattle.dn_lane.specs.Taken.{Taken}
use Rattle.dn_lane.specs.Turns.{turned, left}
use Rattle.dn_lane.specs.declared.asked.Asked.{Asked}
use Rattle.dn_lane.specs.declared.asked.Asked.TheVariants as asked
use Rattle.dn_beside.specs.Pool.{Pool, store_in}
use Rattle.dn_beside.specs.Step.{IsStepBy, by_lane}
use Rattle.dn_turns.specs.Sums.{sum_to}
use Rattle.dn_turns.proofs.Sums.{sum_changes, sum_most}
use Rattle.dn_lanes.specs.Lane.{IsLaneAt}
use Rattle.dn_lanes.specs.Stepped.{receipt_by, claims_at, claims_in, IsOfCall, ComesTo}
use Rattle.dn_receipts.specs.Joined.{Joins}
use Rattle.dn_receipts.specs.Receipts.{AreReceipts}
use Rattle.dn_receipts.proofs.Joining.{none_joins, one_joins}
use Rattle.dn_callers.specs.Callers.{Callers, receipts_of}
use Rattle.dn_callers.specs.Changes.{answered_by}
use Rattle.dn_callers.specs.Sessions.{AreSessions, IsUnderWay, IsReceiptOf}
use Rattle.dn_callers.proofs.Lists.{one_more}
use Rattle.dn_callers.proofs.Answering.{answered_sessions, answered_calls}
use Rattle.dn_machine.specs.State.{Machine}
use Rattle.dn_machine.specs.Events.{answered}
use Rattle.dn_machine.specs.Given.{IsOfSession}
use Rattle.dn_machine.specs.Sound.{claims, claiming, IsCallOf, AreActors, IsMachineAt}
use Rattle.dn_machine.proofs.Others.{lanes_last, mergers_last, monitor_lasts, unmade_lasts}
use Rattle.dn_machine.proofs.Calls.{SameCall, session_left, call_left, IsAnswer, answer_of, gone}

-- A lane changes, or is stopped.

-- ---- what there is then at its number, and of callers
pub record IsLaneChange (p q : Pool) (m : Machine) (n : ℕ) (was : LaneState) (l : Option LaneState) (c : Callers) : Type 0 where
  pub at_p : IsMachineAt p m
  pub was_there : m.lanes n ≡ Some was
  pub by : IsStepBy (by_lane n) p q
  pub lane : (x : LaneState) → l ≡ Some x → IsLaneAt n x q
  pub call : (x : LaneState) → l ≡ Some x → IsCallOf c x.asked
  pub alone : (s : ℕ) (x : LaneState) → l ≡ Some x → IsOfSession s x.asked → (k : ℕ) (y : LaneState) → k ≢ n → m.lanes k ≡ Some y → IsOfSession s y.asked → ⊥
  pub others : (k : ℕ) (x : LaneState) → m.lanes k ≡ Some x → k ≢ n → IsCallOf c x.asked
  pub receipts : AreReceipts q (receipts_of c.receipts)
  pub callers : AreSessions c
  pub counts : (store_in q).segment_count + claiming (with_at m.lanes n l) ≤ (store_in p).pool + 63

positive : (n : ℕ) → IsLane n → n ≢ 0
positive n l e = absurd (omega (arith, e, l.positive))

abbrev pub changed : Machine → List ℕ → ℕ → Option LaneState → Callers → Machine
changed m words n l c = record m { words = words; lanes = with_at m.lanes n l; callers = c }

pub lane_changes : (p q : Pool) (m : Machine) (words : List ℕ) (n : ℕ) (was : LaneState) (l : Option LaneState) (c : Callers) → q.words ≡ words → IsLaneChange p q m n was l c → IsMachineAt q (changed m words n l c)
lane_changes p q m words n was l c ws h =
    let a : AreActors m = h.at_p.actors in
    let made = a.made n was h.was_there in
    let lane : IsLane n = a.numbers n made.0 made.1 in
    record {
      words = ws;
      whole = h.by.whole;
      actors = record {
        made = λ k. at_by (λ o. (x : LaneState) → o ≡ Some x → (y : Merging) × (m.mergers k ≡ Some y)) m.lanes n l k
            (λ e x f. (made.0, ap m.mergers e ∙ made.1)) (λ d x f. a.made k x f);
        numbers = a.numbers;
        loads = a.loads;
        calls = λ k. at_by (λ o. (x : LaneState) → o ≡ Some x → IsCallOf c x.asked) m.lanes n l k (λ e x f. h.call x f) (λ d x f. h.others k x f d);
        alone = λ j k s x y f g i o. alone j k s x y f g i o;
      };
      know = record {
        lanes = λ k. at_by (λ o. (x : LaneState) → o ≡ Some x → IsLaneAt k x q) m.lanes n l k
            (λ e x f. subst (λ (i : ℕ). IsLaneAt i x q) (sym e) (h.lane x f)) (λ d x f. lanes_last (by_lane n) p q m k x h.at_p h.by f d);
        mergers = λ k x f. mergers_last (by_lane n) p q m k x h.at_p h.by f (positive k (a.numbers k x f));
        monitor = λ x f. monitor_lasts (by_lane n) p q m x h.at_p h.by f refl;
        unmade = λ k i f. unmade_lasts (by_lane n) p q m k h.at_p h.by i f (λ e. none_some made.0 (sym f ∙ ap m.mergers e ∙ made.1));
      };
      room = record {
        pool = omega (arith, h.by.grows.pool, h.at_p.room.pool);
        buckets = omega (arith, h.by.bucket_count refl, h.at_p.room.buckets);
        segments = omega (arith, h.by.grows.pool, h.counts);
      };
      receipts = h.receipts;
      callers = h.callers;
    }
  where
    alone : (j k s : ℕ) (x y : LaneState) → with_at m.lanes n l j ≡ Some x → with_at m.lanes n l k ≡ Some y → IsOfSession s x.asked → IsOfSession s y.asked → j ≡ k
    alone j k s x y f g i o = elim (cases_eq j n) [
      | inl e ↦ elim (cases_eq k n) [
        | inl u ↦ e ∙ sym u
        | inr d ↦ absurd (h.alone s x (sym (at_same m.lanes n l j e) ∙ f) i k y d (sym (at_other m.lanes n l k d) ∙ g) o)
      ]
      | inr d ↦ elim (cases_eq k n) [
        | inl u ↦ absurd (h.alone s y (sym (at_same m.lanes n l k u) ∙ g) o j x d (sym (at_other m.lanes n l j d) ∙ f) i)
        | inr c ↦ h.at_p.actors.alone j k s x y (sym (at_other m.lanes n l j d) ∙ f) (sym (at_other m.lanes n l k c) ∙ g) i o
      ]
    ]

-- a lane that keeps the call that it had
pub keeps_alone : (p : Pool) (m : Machine) (n : ℕ) (was : LaneState) (l : Option LaneState) → IsMachineAt p m → m.lanes n ≡ Some was
    → ((s : ℕ) (x : LaneState) → l ≡ Some x → IsOfSession s x.asked → IsOfSession s was.asked)
    → (s : ℕ) (x : LaneState) → l ≡ Some x → IsOfSession s x.asked → (k : ℕ) (y : LaneState) → k ≢ n → m.lanes k ≡ Some y → IsOfSession s y.asked → ⊥
keeps_alone p m n was l h is same s x f i k y d g o = d (sym (h.actors.alone n k s was y is g (same s x f i) o))

-- ---- the sum of those that ask for a segment
pub claims_change : (lanes : ℕ → Option LaneState) (n : ℕ) (was : LaneState) (l : Option LaneState) → IsLane n → lanes n ≡ Some was → claiming (with_at lanes n l) + claims (Some was) ≡ claiming lanes + claims l
claims_change lanes n was l i is =
    let f : ℕ → ℕ = λ k. claims (lanes k) in
    let g : ℕ → ℕ = λ k. claims (with_at lanes n l k) in
    let sum : sum_to 63 g + f n ≡ sum_to 63 f + g n = sum_changes 63 f g n i.positive (omega (arith, i.below)) (λ k d. ap claims (at_other lanes n l k d)) in
    omega (arith, sum, ap claims is, ap claims (at_same lanes n l n refl))

at_most : (o : Option LaneState) → claims o ≤ 1
at_most None = omega arith
at_most (Some l) = in_mode l.mode where
  at_claim : (c : Claim) → claims_at c ≤ 1
  at_claim (Reading pool segments) = omega arith
  at_claim (Taking pool segments) = omega arith

  in_mode : (x : Mode) → claims_in x ≤ 1
  in_mode mode.Idle = omega arith
  in_mode (mode.Acting wait) = omega arith
  in_mode (mode.Finding wait find) = omega arith
  in_mode (mode.Claiming wait claim) = at_claim claim
  in_mode (mode.Sealing wait seal) = omega arith

-- ---- the calls of other sessions
pub others_so : (d c : Callers) (r : Receipt) (a : Asked) → ((view : SessionView) → IsUnderWay d view → r.position.session ≢ view.session → IsUnderWay c view) → IsCallOf d a → (IsOfSession r.position.session a → ⊥) → IsCallOf c a
others_so d c r asked.Nothing stays h alone = tt
others_so d c r (asked.Call call view room) stays h alone = (stays view h.0 (λ e. alone (sym e)), h.1)
others_so d c r asked.Task stays h alone = tt

-- ---- an action of a lane, which comes to this
pub record IsAction (p : Pool) (m : Machine) (n : ℕ) (l : LaneState) (now : List ℕ) (t : Taken) : Type 0 where
  pub at_p : IsMachineAt p m
  pub there : m.lanes n ≡ Some l
  pub comes : ComesTo p n l now t
  pub same : SameCall l.asked t.asked

counts_then : (p : Pool) (m : Machine) (n : ℕ) (l : LaneState) (now : List ℕ) (t : Taken) (h : IsAction p m n l now t) → (store_in h.comes.q).segment_count + claiming (with_at m.lanes n (Some (left t))) ≤ (store_in p).pool + 63
counts_then p m n l now t h =
    let made = h.at_p.actors.made n l h.there in
    let lane : IsLane n = h.at_p.actors.numbers n made.0 made.1 in
    let sum : claiming (with_at m.lanes n (Some (left t))) + claims (Some l) ≡ claiming m.lanes + claims (Some (left t)) = claims_change m.lanes n l (Some (left t)) lane h.there in
    elim h.comes.counts [
      | inl le ↦ omega (arith, le, sum, h.at_p.room.segments)
      | inr c ↦ omega (arith, c.0, c.1, c.2, c.3, sum, few (with_at m.lanes n (Some (left t))))
    ]
  where
    few : (lanes : ℕ → Option LaneState) → claiming lanes ≤ 63
    few lanes = sum_most 63 (λ k. claims (lanes k)) (λ k. at_most (lanes k))

pub acted_so : (p : Pool) (m : Machine) (n : ℕ) (l : LaneState) (now : List ℕ) (t : Taken) (h : IsAction p m n l now t)
    → IsMachineAt h.comes.q (changed m now n (Some (left t)) (answered m.callers (receipt_by (turned t))))
acted_so p m n l now t h = by_receipt (receipt_by (turned t)) refl where
  q : Pool
  q = h.comes.q

  lane_is : (x : LaneState) → Some (left t) ≡ Some x → IsLaneAt n x q
  lane_is x e = subst (λ (y : LaneState). IsLaneAt n y q) (same_some (left t) x e) h.comes.lane

  session_is : (s : ℕ) (x : LaneState) → Some (left t) ≡ Some x → IsOfSession s x.asked → IsOfSession s l.asked
  session_is s x e i = session_left s l.asked t h.same (subst (λ (y : LaneState). IsOfSession s y.asked) (sym (same_some (left t) x e)) i)

  by_receipt : (o : Option Receipt) → receipt_by (turned t) ≡ o → IsMachineAt q (changed m now n (Some (left t)) (answered m.callers o))
  by_receipt None e = lane_changes p q m now n l (Some (left t)) m.callers h.comes.words (record {
    at_p = h.at_p;
    was_there = h.there;
    by = h.comes.by;
    lane = lane_is;
    call = λ x f. subst (λ (y : LaneState). IsCallOf m.callers y.asked) (same_some (left t) x f) (call_left m.callers l.asked t h.same (h.at_p.actors.calls n l h.there));
    alone = keeps_alone p m n l (Some (left t)) h.at_p h.there session_is;
    others = λ k x f d. h.at_p.actors.calls k x f;
    receipts = none_joins p q (receipts_of m.callers.receipts) h.at_p.receipts h.comes.by.grows (subst (λ o. Joins p q o) e h.comes.joins);
    callers = h.at_p.callers;
    counts = counts_then p m n l now t h;
  })
  by_receipt (Some r) e =
      let a : IsAnswer m.callers l.asked = answer_of m.callers l.asked t r h.same (h.at_p.actors.calls n l h.there) e in
      let its : IsOfCall l r = h.comes.its r e in
      let of : IsReceiptOf a.view r = record {
        session = its.session ∙ ap (λ (x : Asked). (view_in x).session) a.is;
        number = its.number ∙ ap (λ (x : Asked). (view_in x).number) a.is;
        behind = subst (λ (x : Asked). IsBefore (view_in x).last r.position) a.is its.later;
      } in
      let key : key_of r.call ≢ 0 = λ z. a.key (sym (ap key_of (its.call ∙ ap call_in a.is)) ∙ z) in
      let mine : IsOfSession r.position.session l.asked = subst (IsOfSession r.position.session) (sym a.is) (sym of.session) in
      lane_changes p q m now n l (Some (left t)) (answered_by m.callers r) h.comes.words (record {
        at_p = h.at_p;
        was_there = h.there;
        by = h.comes.by;
        lane = lane_is;
        call = λ x f. subst (λ (y : LaneState). IsCallOf (answered_by m.callers r) y.asked) (same_some (left t) x f) (subst (IsCallOf (answered_by m.callers r)) (sym (gone t r e)) tt);
        alone = keeps_alone p m n l (Some (left t)) h.at_p h.there session_is;
        others = λ k x f d. others_so m.callers (answered_by m.callers r) r x.asked (λ view. answered_calls m.callers r view) (h.at_p.actors.calls k x f)
            (λ i. d (sym (h.at_p.actors.alone n k r.position.session l x h.there f mine i)));
        receipts = subst (AreReceipts q) (sym (one_more m.callers.receipts (record { receipt = r; answered = true })))
            (one_joins p q (receipts_of m.callers.receipts) r h.at_p.receipts h.comes.by.grows (subst (λ o. Joins p q o) e h.comes.joins) key);
        callers = answered_sessions m.callers a.view r h.at_p.callers a.under_way of;
        counts = counts_then p m n l now t h;
      })
