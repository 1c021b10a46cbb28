use Rattle.std.proofs.Common.{ℕ, ◌≡◌, inl, inr, true, Option, Some, None, refl, sym, ◌∙◌, ap, subst, arith}
use Rattle.std.proofs.lemmas.Bool.{cases_eq}
use Rattle.std.proofs.lemmas.Option.{same_Some, none-some}
use Rattle.dn_hist.specs.declared.receipts.SessionView.{SessionView}
use Rattle.dn_model.specs.Regions.{IsLane}
use Rattle.dn_store.specs.State.{with_at}
use Rattle.dn_store.proofs.At.{at_same, at_other, at_by}
use Rattle.dn_lane.specs.State.{LaneState}
use Rattle.dn_callers.specs.Callers.{Callers}
use Rattle.dn_callers.specs.Sessions.{IsSession}
use Rattle.dn_machine.specs.Given.{IsOfSession}
use Rattle.dn_waiting.specs.Attempts.{settled, answered, course_settled}
use Rattle.dn_waiting.specs.Queues.{AtLane}
use Rattle.dn_waiting.specs.Sound.{IsSound as AreSound, Shows, runs_at, runs_by}
use Rattle.dn_waiting.specs.State.{WaitingState, call_of, at_lane}
use Rattle.dn_waiting.specs.declared.calls.AttemptEnd.{AttemptEnd}
use Rattle.dn_waiting.specs.declared.calls.AttemptEnd.TheVariants as end
use Rattle.dn_waiting.specs.declared.calls.OpenCall.{OpenCall}
use Rattle.dn_waiting.specs.declared.calls.Place.{Place}
use Rattle.dn_waiting.specs.declared.calls.Place.TheVariants.{Loading, Queued, Begun}
use Rattle.dn_waiting.proofs.Changes.{answered_sound}
use Rattle.dn_waiting.proofs.PlaceLaws.{one_begun}
use Rattle.dn_waiting.proofs.Steps.{is_own}
use Rattle.dn_outcomes.specs.State.{World}
use Rattle.dn_outcomes.specs.Going.{called, slot_at, end_of, ends_of, ends}
use Rattle.dn_outcomes.specs.Sound.{IsCallOf, load_at, load_of, IsAskedBy, IsPlanOf, view_by, view_at, AreAsked, IsWorld}
use Rattle.dn_outcomes.specs.declared.outcomes.CallAnswer.{CallAnswer}
use Rattle.dn_outcomes.proofs.Facts.{HasView, has_view}
use Rattle.dn_outcomes.proofs.Goes.{AskedBeside, IsBeside, goes, load_next, asked_kept}
use Rattle.dn_outcomes.proofs.Starts.{refused_call, refused_load}
use Rattle.dn_outcomes.proofs.Waits.{Changed, answered_changed}

-- An attempt ends.

-- ---- what lanes were asked, but for lane l
pub beside_after : (w v : WaitingState) (s l : ℕ) (o : Option OpenCall) (q : AtLane) (lanes : ℕ → Option LaneState) → Changed w v s l o q → AskedBeside l w lanes
    → ((n : ℕ) (x : LaneState) → IsLane n → lanes n ≡ Some x → IsOfSession s x.asked → called o ≡ called (call_of w s)) → AskedBeside l v lanes
beside_after w v s l o q lanes ch h same = record {
  begun = λ n lane d. ap (λ (y : AtLane). y.begun) (ch.lanes n d) ∙ h.begun n lane d;
  calls = λ n x lane is. asked_kept w v s l o q x.asked ch (same n x lane is) (h.calls n x lane is);
  plans = h.plans;
}

pub asked_of : (l : ℕ) (w : WaitingState) (lanes : ℕ → Option LaneState) → AskedBeside l w lanes → (at_lane w l).begun ≡ view_at (lanes l) → AreAsked w lanes
asked_of l w lanes h own = record {
  begun = λ n lane. elim (cases_eq n l) [
    | inl e ↦ ap (λ k. (at_lane w k).begun) e ∙ own ∙ ap (λ k. view_at (lanes k)) (sym e)
    | inr d ↦ h.begun n lane d
  ];
  calls = h.calls;
  plans = h.plans;
}

-- where lane l is this one
pub lane_beside : (l : ℕ) (w : WaitingState) (lanes : ℕ → Option LaneState) (x : LaneState) → AskedBeside l w lanes → IsAskedBy w x.asked → IsPlanOf x.asked x.mode → AskedBeside l w (with_at lanes l (Some x))
lane_beside l w lanes x h call plan = record {
  begun = λ n lane d. h.begun n lane d ∙ ap view_at (sym (at_other lanes l (Some x) n d));
  calls = λ n y lane. at_by (λ o. o ≡ Some y → IsAskedBy w y.asked) lanes l (Some x) n
      (λ e f. subst (λ (z : LaneState). IsAskedBy w z.asked) (same_Some x y f) call) (λ d f. h.calls n y lane f);
  plans = λ n y lane. at_by (λ o. o ≡ Some y → IsPlanOf y.asked y.mode) lanes l (Some x) n
      (λ e f. subst (λ (z : LaneState). IsPlanOf z.asked z.mode) (same_Some x y f) plan) (λ d f. h.plans n y lane f);
}

pub lane_asked : (l : ℕ) (w : WaitingState) (lanes : ℕ → Option LaneState) (x : LaneState) → AskedBeside l w lanes → IsAskedBy w x.asked → IsPlanOf x.asked x.mode → (at_lane w l).begun ≡ view_by x.asked → AreAsked w (with_at lanes l (Some x))
lane_asked l w lanes x h call plan own = asked_of l w (with_at lanes l (Some x)) (lane_beside l w lanes x h call plan) (own ∙ ap view_at (sym (at_same lanes l (Some x) l refl)))

-- ---- a call that is under way has no deed to be loaded
running_load_at : (n : ℕ) (p : Place) (slot : ℕ) → runs_by n p ≡ true → load_at p slot ≡ None
running_load_at n (Loading named) slot e = absurd (cc e)
running_load_at n (Queued lane) slot e = refl
running_load_at n (Begun lane) slot e = refl

running_load : (n : ℕ) (o : Option OpenCall) → runs_at n o ≡ true → load_of o ≡ None
running_load n None e = refl
running_load n (Some c) e = running_load_at n c.place (slot_at (Some c)) e

pub begun_load : (w : WaitingState) (n : ℕ) (view : SessionView) → AreSound w → (at_lane w n).begun ≡ Some view → load_of (call_of w view.session) ≡ None
begun_load w n view sound is =
    running_load n (call_of w view.session) (sym (sound.begun n view.session) ∙ is_own view.session (at_lane w n).begun view is refl)

-- ---- what is left of a call
pub settled_call : (to : AttemptEnd) (cs : Callers) (s : ℕ) (c x : OpenCall) → IsCallOf cs s c → settled to (Some c) ≡ Some x → IsCallOf cs s x
settled_call end.Made cs s c x h e = absurd (none-some x e)
settled_call end.Spent cs s c x h e = absurd (none-some x e)
settled_call end.Refused cs s c x h e = refused_call cs s c x None h e

settled_load : (to : AttemptEnd) (view : SessionView) (o : Option OpenCall) → Shows view o → load_of (settled to o) ≡ load_next (course_settled to o) (settled to o)
settled_load to view None h = absurd h
settled_load end.Made view (Some c) h = refl
settled_load end.Spent view (Some c) h = refl
settled_load end.Refused view (Some c) h = refused_load c None

-- ---- the attempt that is under way at lane n ends, at which the lane has no call any more
pub record IsEnding (w : World) (n : ℕ) (view : SessionView) (to : AttemptEnd) : Type 0 where
  pub lane : IsLane n
  pub session : IsSession view.session
  pub waiting : AreSound w.waiting
  pub begun : (at_lane w.waiting n).begun ≡ Some view
  pub beside : IsBeside view.session w
  pub asked : AskedBeside n w.waiting w.machine.lanes
  pub free : view_at (w.machine.lanes n) ≡ None
  pub call : (x : OpenCall) → settled to (call_of w.waiting view.session) ≡ Some x → IsCallOf w.machine.callers view.session x

nowhere : (w : World) (n : ℕ) (view : SessionView) (to : AttemptEnd) → IsEnding w n view to → (k : ℕ) (x : LaneState) → IsLane k → w.machine.lanes k ≡ Some x → IsOfSession view.session x.asked → ⊥
nowhere w n view to h k x lane is of =
    let v : HasView view.session x.asked = has_view view.session x.asked of in
    elim (cases_eq k n) [
      | inl e ↦ absurd (none-some v.view (sym h.free ∙ ap (λ j. view_at (w.machine.lanes j)) (sym e) ∙ ap view_at is ∙ v.is))
      | inr d ↦ absurd (d (one_begun w.waiting h.waiting k n v.view view (h.asked.begun k lane d ∙ ap view_at is ∙ v.is) h.begun v.session))
    ]

pub ends_kept : (w : World) (n : ℕ) (view : SessionView) (told : CallAnswer) → IsEnding w n view (end_of told) → IsWorld (ends w n told).world
ends_kept w n view told h =
    let to : AttemptEnd = end_of told in
    let s : ℕ = view.session in
    let o : Option OpenCall = settled to (call_of w.waiting s) in
    let q : AtLane = record (at_lane w.waiting n) { begun = None } in
    let v : WaitingState = answered w.waiting n to in
    let ch : Changed w.waiting v s n o q = answered_changed w.waiting n to view h.begun (omega (arith, h.waiting.sessions, h.session.most)) (omega (arith, h.waiting.made, h.lane.below)) in
    let left : AskedBeside n v w.machine.lanes = beside_after w.waiting v s n o q w.machine.lanes ch h.asked (λ k x lane is of. absurd (nowhere w n view to h k x lane is of)) in
    subst (λ b. IsWorld (ends_of w n told b).world) (sym h.begun)
    (goes w v s n o q (course_settled to (call_of w.waiting s)) (record {
      beside = h.beside;
      waiting = answered_sound w.waiting n to h.waiting (omega (arith, h.lane.positive), omega (arith, h.lane.below));
      changed = ch;
      asked = asked_of n v w.machine.lanes left (ap (λ (y : AtLane). y.begun) ch.at ∙ sym h.free);
      call = λ x i e. h.call x e;
      queued = λ u lane has. h.beside.others.queued n u lane has;
      tasks = λ t lane has. h.beside.others.tasks n t lane has;
      course = settled_load to view (call_of w.waiting s) (h.waiting.number n view h.begun);
    }))
