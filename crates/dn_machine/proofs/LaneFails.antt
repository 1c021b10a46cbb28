use Rattle.std.proofs.Common.{ℕ, ◌+◌, ◌≤◌, ◌≡◌, ◌≢◌, Bool, true, false, if◌then◌else◌, List, Option, Some, None, refl, sym, ◌∙◌, ap, subst, arith}
use Rattle.std.proofs.lemmas.Bool.{false≢true}
use Rattle.dn_act.specs.Action.{words_after}
use Rattle.dn_act.specs.declared.actions.Action.{Action}
use Rattle.dn_hist.specs.Calls.{key_of}
use Rattle.dn_hist.specs.CallersOrder.{IsBefore}
use Rattle.dn_hist.specs.declared.calls.Call.{Call}
use Rattle.dn_hist.specs.declared.calls.Call.TheVariants.{Get, Put, Delete}
use Rattle.dn_hist.specs.declared.receipts.Receipt.{Receipt}
use Rattle.dn_log.specs.Staged.{flow_of}
use Rattle.dn_model.specs.Register.{may_write}
use Rattle.dn_store.specs.State.{StoreState, with_at}
use Rattle.dn_owners.proofs.Ats.{none_some}
use Rattle.dn_lane.specs.Asked.{call_in, view_in}
use Rattle.dn_lane.specs.Next.{next_of}
use Rattle.dn_lane.specs.State.{LaneState}
use Rattle.dn_lane.specs.Taken.{Taken, taken_by}
use Rattle.dn_lane.specs.Turns.{turned}
use Rattle.dn_lane.specs.declared.asked.Asked.{Asked}
use Rattle.dn_lane.specs.declared.asked.Asked.TheVariants as asked
use Rattle.dn_beside.specs.Pool.{Pool, store_in}
use Rattle.dn_beside.specs.Step.{IsStepBy, by_lane}
use Rattle.dn_beside.proofs.Chained.{step_then, quiet_then}
use Rattle.dn_learnt.specs.Heeding.{IsStopped}
use Rattle.dn_learnt.proofs.Lessons.{stops}
use Rattle.dn_lanes.specs.Begun.{IsStoppedAt}
use Rattle.dn_lanes.specs.Stepped.{receipt_by, claims_in, IsOfCall, FlowStepped}
use Rattle.dn_lanes.proofs.Begins.{stopped_after}
use Rattle.dn_lanes.proofs.Steps.{lane_flows}
use Rattle.dn_receipts.specs.Joined.{Joins}
use Rattle.dn_receipts.specs.Receipts.{AreReceipts}
use Rattle.dn_receipts.proofs.Joining.{none_joins, one_joins, read_passes}
use Rattle.dn_callers.specs.Callers.{Callers, receipts_of}
use Rattle.dn_callers.specs.Changes.{unanswered_by}
use Rattle.dn_callers.specs.Sessions.{AreSessions, IsReceiptOf}
use Rattle.dn_callers.proofs.Lists.{one_more}
use Rattle.dn_callers.proofs.Answering.{closed_sessions, unanswered_sessions, unanswered_calls}
use Rattle.dn_machine.specs.State.{Machine}
use Rattle.dn_machine.specs.Events.{Lane, Fails, FlowFails, Stops, found, closed_for, unanswered, written, of_lane, lane_stops, lane_fails, flow_fails, happens}
use Rattle.dn_machine.specs.Given.{IsOfSession}
use Rattle.dn_machine.specs.Kept.{IsKept}
use Rattle.dn_machine.specs.Sound.{claims, claiming, IsCallOf, IsMachineAt}
use Rattle.dn_machine.proofs.Calls.{taken_same, IsAnswer, answer_of}
use Rattle.dn_machine.proofs.Lanes.{lane_changes, claims_change, others_so}
use Rattle.dn_machine.proofs.LaneActs.{lane_of, lane_comes}
use Rattle.dn_machine.proofs.Rest.{performs, stays}
use Rattle.dn_machine.proofs.Sessions.{call_unclosed}

-- A lane is stopped, at no action or at one that failed.

-- ---- the pool once it runs no more
pub record HasStopped (p s : Pool) (m : Machine) (n : ℕ) (l : LaneState) (words : List ℕ) : Type 0 where
  pub at_p : IsMachineAt p m
  pub there : m.lanes n ≡ Some l
  pub by : IsStepBy (by_lane n) p s
  pub words_are : s.words ≡ words
  pub count : (store_in s).segment_count ≤ (store_in p).segment_count + claims_in l.mode

-- and what becomes of receipts and sessions
record AreLeft (p s : Pool) (m : Machine) (n : ℕ) (l : LaneState) (c : Callers) : Type 0 where
  receipts : AreReceipts s (receipts_of c.receipts)
  callers : AreSessions c
  others : (k : ℕ) (x : LaneState) → m.lanes k ≡ Some x → k ≢ n → IsCallOf c x.asked

stopped_so : (p s : Pool) (m : Machine) (n : ℕ) (l : LaneState) (words : List ℕ) (c : Callers) → HasStopped p s m n l words → AreLeft p s m n l c
    → IsKept p (record m { words = words; lanes = with_at m.lanes n None; callers = c })
stopped_so p s m n l words c h a =
    let sum : claiming (with_at m.lanes n None) + claims (Some l) ≡ claiming m.lanes + claims None = claims_change m.lanes n l None (lane_of p m n l h.at_p h.there) h.there in
    record {
      q = s;
      at = lane_changes p s m words n l None c h.words_are (record {
        at_p = h.at_p;
        was_there = h.there;
        by = h.by;
        lane = λ x e. absurd (none_some x e);
        call = λ x e. absurd (none_some x e);
        alone = λ i x e. absurd (none_some x e);
        others = a.others;
        receipts = a.receipts;
        callers = a.callers;
        counts = omega (arith, sum, h.count, h.at_p.room.segments);
      });
      grows = h.by.grows;
    }

-- ---- no receipt stands by it
closed_receipts : (c : Callers) (a : Asked) → receipts_of (closed_for c a).receipts ≡ receipts_of c.receipts
closed_receipts c asked.Nothing = refl
closed_receipts c (asked.Call call view room) = refl
closed_receipts c asked.Task = refl

closed_callers : (c : Callers) (a : Asked) → AreSessions c → AreSessions (closed_for c a)
closed_callers c asked.Nothing h = h
closed_callers c (asked.Call call view room) h = closed_sessions c view.session h
closed_callers c asked.Task h = h

-- the calls of other lanes are those of other sessions
closed_others : (c : Callers) (a b : Asked) → ((s : ℕ) → IsOfSession s a → IsOfSession s b → ⊥) → IsCallOf c b → IsCallOf (closed_for c a) b
closed_others c asked.Nothing b apart h = h
closed_others c (asked.Call call view room) b apart h = call_unclosed c view.session b (apart view.session refl) h
closed_others c asked.Task b apart h = h

apart : (p : Pool) (m : Machine) (n : ℕ) (l : LaneState) → IsMachineAt p m → m.lanes n ≡ Some l → (k : ℕ) (x : LaneState) → m.lanes k ≡ Some x → k ≢ n → (s : ℕ) → IsOfSession s l.asked → IsOfSession s x.asked → ⊥
apart p m n l h is k x f d s i o = d (sym (h.actors.alone n k s l x is f i o))

pub unreceipted : (p s : Pool) (m : Machine) (n : ℕ) (l : LaneState) (words : List ℕ) → HasStopped p s m n l words → AreReceipts s (receipts_of m.callers.receipts)
    → IsKept p (record m { words = words; lanes = with_at m.lanes n None; callers = closed_for m.callers l.asked })
unreceipted p s m n l words h r = stopped_so p s m n l words (closed_for m.callers l.asked) h (record {
  receipts = subst (AreReceipts s) (sym (closed_receipts m.callers l.asked)) r;
  callers = closed_callers m.callers l.asked h.at_p.callers;
  others = λ k x f d. closed_others m.callers l.asked x.asked (apart p m n l h.at_p h.there k x f d) (h.at_p.actors.calls k x f);
})

-- ---- a put or delete stands without an answer
receipted : (p s : Pool) (m : Machine) (n : ℕ) (l : LaneState) (words : List ℕ) (r : Receipt) → HasStopped p s m n l words → (a : IsAnswer m.callers l.asked) → IsOfCall l r → Joins p s (Some r)
    → IsKept p (record m { words = words; lanes = with_at m.lanes n None; callers = unanswered_by m.callers r })
receipted p s m n l words r h a its joins =
    let of : IsReceiptOf a.view r = record {
      session = its.session ∙ ap (λ (x : Asked). (view_in x).session) a.is;
      number = its.number ∙ ap (λ (x : Asked). (view_in x).number) a.is;
      behind = subst (λ (x : Asked). IsBefore (view_in x).last r.position) a.is its.later;
    } in
    let key : key_of r.call ≢ 0 = λ z. a.key (sym (ap key_of (its.call ∙ ap call_in a.is)) ∙ z) in
    let mine : IsOfSession r.position.session l.asked = subst (IsOfSession r.position.session) (sym a.is) (sym of.session) in
    stopped_so p s m n l words (unanswered_by m.callers r) h (record {
      receipts = subst (AreReceipts s) (sym (one_more m.callers.receipts (record { receipt = r; answered = false })))
          (one_joins p s (receipts_of m.callers.receipts) r h.at_p.receipts h.by.grows joins key);
      callers = unanswered_sessions m.callers a.view r h.at_p.callers a.under_way of;
      others = λ k x f d. others_so m.callers (unanswered_by m.callers r) r x.asked (λ view. unanswered_calls m.callers r view) (h.at_p.actors.calls k x f)
          (apart p m n l h.at_p h.there k x f d r.position.session mine);
    })

-- ---- a stop
pub stop_so : (p : Pool) (m : Machine) (n : ℕ) (l : LaneState) → IsMachineAt p m → m.lanes n ≡ Some l → IsKept p (lane_stops m n l None)
stop_so p m n l h is =
    let s : IsStopped p n = stops p n h.whole in
    unreceipted p s.q m n l m.words (record {
      at_p = h;
      there = is;
      by = s.lesson.by;
      words_are = s.lesson.words ∙ h.words;
      count = omega (arith, ap (λ (t : StoreState). t.segment_count) s.lesson.store);
    }) (none_joins p s.q (receipts_of m.callers.receipts) h.receipts s.lesson.by.grows s.lesson.quiet)

-- ---- an action that was done
read_call : (c : Call) → may_write c ≡ false → (key : ℕ) × (c ≡ Get key)
read_call (Get key) e = (key, refl)
read_call (Put key value) e = absurd (false≢true (sym e))
read_call (Delete key) e = absurd (false≢true (sym e))

done_so : (p : Pool) (m : Machine) (n : ℕ) (l : LaneState) (action : Action) → IsMachineAt p m → m.lanes n ≡ Some l → next_of l ≡ Some action → IsKept p (lane_fails m n l true (Some action))
done_so p m n l action h is e = by_receipt (receipt_by (turned t)) refl where
  now : List ℕ
  now = words_after action m.words

  t : Taken
  t = taken_by l.base l.asked l.mode (found m action)

  s : IsStoppedAt p n l now t
  s = stopped_after p n l now t (lane_comes p m n l action h is e)

  stopped : HasStopped p s.q m n l now
  stopped = record { at_p = h; there = is; by = s.by; words_are = s.words; count = s.count }

  left_by : (r : Receipt) → receipt_by (turned t) ≡ Some r → (b : Bool) → may_write r.call ≡ b
      → IsKept p (record m { words = now; lanes = with_at m.lanes n None; callers = unanswered m.callers l.asked (if b then Some r else None) })
  left_by r f true w = receipted p s.q m n l now r stopped (answer_of m.callers l.asked t r (taken_same l.base l.asked l.mode (found m action)) (h.actors.calls n l is) f) (s.its r f)
      (subst (λ o. Joins p s.q o) f s.joins)
  left_by r f false w =
      let a : IsAnswer m.callers l.asked = answer_of m.callers l.asked t r (taken_same l.base l.asked l.mode (found m action)) (h.actors.calls n l is) f in
      let key : key_of r.call ≢ 0 = λ z. a.key (sym (ap key_of ((s.its r f).call ∙ ap call_in a.is)) ∙ z) in
      let get = read_call r.call w in
      unreceipted p s.q m n l now stopped (read_passes p s.q (receipts_of m.callers.receipts) r get.0 get.1 h.receipts s.by.grows (subst (λ o. Joins p s.q o) f s.joins) key)

  by_receipt : (o : Option Receipt) → receipt_by (turned t) ≡ o → IsKept p (record m { words = now; lanes = with_at m.lanes n None; callers = unanswered m.callers l.asked (written o) })
  by_receipt None f = unreceipted p s.q m n l now stopped (none_joins p s.q (receipts_of m.callers.receipts) h.receipts s.by.grows (subst (λ o. Joins p s.q o) f s.joins))
  by_receipt (Some r) f = left_by r f (may_write r.call) refl

-- ---- an action that failed
by_done : (p : Pool) (m : Machine) (n : ℕ) (l : LaneState) (done : Bool) (o : Option Action) → IsMachineAt p m → m.lanes n ≡ Some l → next_of l ≡ o → IsKept p (lane_fails m n l done o)
by_done p m n l done None h is e = stays p m h
by_done p m n l true (Some action) h is e = done_so p m n l action h is e
by_done p m n l false (Some action) h is e = stop_so p m n l h is

by_fail : (p : Pool) (m : Machine) (n : ℕ) (done : Bool) (o : Option LaneState) → IsMachineAt p m → m.lanes n ≡ o → IsKept p (of_lane m o (λ l. lane_fails m n l done (next_of l)))
by_fail p m n done None h is = stays p m h
by_fail p m n done (Some l) h is = by_done p m n l done (next_of l) h is refl

pub lane_fails_kept : (p : Pool) (m : Machine) (n : ℕ) (done : Bool) → IsMachineAt p m → IsKept p (happens m (Fails (Lane n) done))
lane_fails_kept p m n done h = by_fail p m n done (m.lanes n) h refl

-- ---- a flow that failed
flow_done : (p : Pool) (m : Machine) (n : ℕ) (l : LaneState) (index : ℕ) (action : Action) → IsMachineAt p m → m.lanes n ≡ Some l → flow_of l.base.staging index ≡ Some action → IsKept p (flow_fails m n l true (Some action))
flow_done p m n l index action h is e =
    let now : List ℕ = words_after action m.words in
    let f : FlowStepped p n l index now = lane_flows p n l index action (found m action) now h.whole (lane_of p m n l h is) (h.know.lanes n l is) e (performs p m action h.words) in
    let s : IsStopped f.q n = stops f.q n f.by.whole in
    unreceipted p s.q m n l now (record {
      at_p = h;
      there = is;
      by = step_then (by_lane n) p f.q s.q f.by s.lesson.by;
      words_are = s.lesson.words ∙ f.words;
      count = omega (arith, f.count, ap (λ (t : StoreState). t.segment_count) s.lesson.store);
    }) (none_joins p s.q (receipts_of m.callers.receipts) h.receipts (step_then (by_lane n) p f.q s.q f.by s.lesson.by).grows (quiet_then p f.q s.q f.quiet s.lesson.quiet))

by_flow_done : (p : Pool) (m : Machine) (n : ℕ) (l : LaneState) (index : ℕ) (done : Bool) (o : Option Action) → IsMachineAt p m → m.lanes n ≡ Some l → flow_of l.base.staging index ≡ o → IsKept p (flow_fails m n l done o)
by_flow_done p m n l index done None h is e = stays p m h
by_flow_done p m n l index true (Some action) h is e = flow_done p m n l index action h is e
by_flow_done p m n l index false (Some action) h is e = stop_so p m n l h is

by_flow_fail : (p : Pool) (m : Machine) (n index : ℕ) (done : Bool) (o : Option LaneState) → IsMachineAt p m → m.lanes n ≡ o → IsKept p (of_lane m o (λ l. flow_fails m n l done (flow_of l.base.staging index)))
by_flow_fail p m n index done None h is = stays p m h
by_flow_fail p m n index done (Some l) h is = by_flow_done p m n l index done (flow_of l.base.staging index) h is refl

pub flow_fails_kept : (p : Pool) (m : Machine) (n index : ℕ) (done : Bool) → IsMachineAt p m → IsKept p (happens m (FlowFails n index done))
flow_fails_kept p m n index done h = by_flow_fail p m n index done (m.lanes n) h refl

-- ---- a stop, whoever is stopped
by_stop : (p : Pool) (m : Machine) (n : ℕ) (o : Option LaneState) → IsMachineAt p m → m.lanes n ≡ o → IsKept p (of_lane m o (λ l. lane_stops m n l None))
by_stop p m n None h is = stays p m h
by_stop p m n (Some l) h is = stop_so p m n l h is

pub stops_kept : (p : Pool) (m : Machine) (n : ℕ) → IsMachineAt p m → IsKept p (happens m (Stops n))
stops_kept p m n h = by_stop p m n (m.lanes n) h refl
