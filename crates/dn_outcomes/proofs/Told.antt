use Rattle.std.proofs.Common.{ℕ, ◌+◌, ◌≡◌, ◌<◌, ◌==◌, ◌&&◌, ◌||◌, ◌++◌, ◌∷◌, [], inl, inr, Bool, true, false, Option, Some, None, nat_lt, length, if◌then◌else◌, refl, sym, ◌∙◌, ap, subst}
use Rattle.std.proofs.lemmas.Bool.{cases_eq}
use Rattle.dn_hist.specs.declared.receipts.SessionView.{SessionView}
use Rattle.dn_waiting.specs.Attempts.{settled, answered, course_settled, refused_once, course_refused}
use Rattle.dn_waiting.specs.Queues.{AtLane}
use Rattle.dn_waiting.specs.Sound.{IsSound as AreSound, Shows}
use Rattle.dn_waiting.specs.State.{WaitingState, call_of, at_lane}
use Rattle.dn_waiting.specs.declared.calls.AttemptEnd.{AttemptEnd}
use Rattle.dn_waiting.specs.declared.calls.Course.{Course}
use Rattle.dn_waiting.specs.declared.calls.Course.TheVariants as course
use Rattle.dn_waiting.specs.declared.calls.OpenCall.{OpenCall}
use Rattle.dn_waiting.specs.declared.calls.Place.TheVariants.{Loading}
use Rattle.dn_waiting.proofs.Counts.{own_test, other_test}
use Rattle.dn_outcomes.specs.Going.{called, goes_on, is_given, end_of, ends_of, ends}
use Rattle.dn_outcomes.specs.State.{World, Done, with_waiting}
use Rattle.dn_outcomes.specs.Told.{IsQuiet, Joins, Stands, is_made_by, is_end, IsStill, GoesOn, HasNumber, Names}
use Rattle.dn_outcomes.specs.declared.outcomes.CallAnswer.{CallAnswer}
use Rattle.dn_outcomes.specs.declared.outcomes.CallAnswer.TheVariants as answer
use Rattle.dn_outcomes.specs.declared.outcomes.Outcome.{Outcome}
use Rattle.dn_outcomes.specs.declared.outcomes.Outcome.TheVariants as outcome
use Rattle.dn_outcomes.proofs.Waits.{Changed, answered_changed}

-- What an event tells.

pub record IsTold (w : World) (d : Done) : Type 0 where
  pub receipts : Stands w d.world d.outcome
  pub calls : (s : ℕ) → GoesOn (is_end d.outcome s) (call_of w.waiting s) (call_of d.world.waiting s)
  pub names : Names w.waiting d.outcome

-- ---- no receipt joins, and calls stay
-- with the same number
abbrev pub Alike : Option OpenCall → Option OpenCall → Type 0
Alike None now = now ≡ None
Alike (Some c) now = IsStill c now

pub record IsCalm (w now : World) : Type 0 where
  pub quiet : IsQuiet w now
  pub calls : (s : ℕ) → Alike (call_of w.waiting s) (call_of now.waiting s)

alike_same : (o : Option OpenCall) → Alike o o
alike_same None = refl
alike_same (Some c) = (refl, refl)

pub alike_is : (o p : Option OpenCall) → p ≡ o → Alike o p
alike_is o p e = subst (Alike o) (sym e) (alike_same o)

pub alike_goes : (o p : Option OpenCall) → Alike o p → GoesOn false o p
alike_goes None p h = h
alike_goes (Some c) p h = h

pub alike_called : (o p : Option OpenCall) → Alike o p → called p ≡ called o
alike_called None p h = ap called h
alike_called (Some c) None h = absurd h
alike_called (Some c) (Some x) h = h.1

pub calm_same : (w now : World) → IsQuiet w now → now.waiting ≡ w.waiting → IsCalm w now
calm_same w now h e = record { quiet = h; calls = λ s. alike_is (call_of w.waiting s) (call_of now.waiting s) (ap (λ (x : WaitingState). call_of x s) e) }

pub calm_goes : (w now : World) → IsCalm w now → (s : ℕ) → GoesOn false (call_of w.waiting s) (call_of now.waiting s)
calm_goes w now h s = alike_goes (call_of w.waiting s) (call_of now.waiting s) (h.calls s)

-- ---- first a calm change, and then what is told
goes_then : (b : Bool) (o p q : Option OpenCall) → Alike o p → GoesOn b p q → GoesOn b o q
goes_then b None p q h g = subst (λ x. GoesOn b x q) h g
goes_then b (Some c) None q h g = absurd h
goes_then true (Some c) (Some x) q h g = g
goes_then false (Some c) (Some x) None h g = absurd g
goes_then false (Some c) (Some x) (Some y) h g = (g.0 ∙ h.0, g.1 ∙ h.1)

number_then : (o p : Option OpenCall) (n : ℕ) → Alike o p → HasNumber p n → HasNumber o n
number_then None p n h g = absurd (subst (λ x. HasNumber x n) h g)
number_then (Some c) None n h g = absurd h
number_then (Some c) (Some x) n h g = sym h.0 ∙ g

joins_then : (w v now : World) (s number : ℕ) (a : CallAnswer) → IsCalm w v → Joins v now s number a → Joins w now s number a
joins_then w v now s number (answer.Made way) h j = record {
  receipt = j.receipt;
  joins = j.joins ∙ ap (λ xs. xs ++ (record { receipt = j.receipt; answered = true }) ∷ []) h.quiet;
  session = j.session;
  its = j.its;
  call = j.call ∙ alike_called (call_of w.waiting s) (call_of v.waiting s) (h.calls s);
}
joins_then w v now s number (answer.NotOwner look cell) h j = j ∙ h.quiet
joins_then w v now s number (answer.Fenced word) h j = j ∙ h.quiet
joins_then w v now s number (answer.Full counter segments) h j = j ∙ h.quiet
joins_then w v now s number (answer.Worn stamp) h j = j ∙ h.quiet

stands_then : (w v now : World) (o : Outcome) → IsCalm w v → Stands v now o → Stands w now o
stands_then w v now outcome.Nothing h j = j ∙ h.quiet
stands_then w v now outcome.Acted h j = j ∙ h.quiet
stands_then w v now (outcome.Numbered number) h j = j ∙ h.quiet
stands_then w v now outcome.Busy h j = j ∙ h.quiet
stands_then w v now outcome.Closed h j = j ∙ h.quiet
stands_then w v now (outcome.Answered s number a given) h j = joins_then w v now s number a h j
stands_then w v now (outcome.GivenUp s number) h j = j ∙ h.quiet
stands_then w v now (outcome.Ordered a) h j = j ∙ h.quiet
stands_then w v now outcome.MonitorBusy h j = j ∙ h.quiet
stands_then w v now (outcome.Tended a) h j = j ∙ h.quiet
stands_then w v now (outcome.Added lane) h j = j ∙ h.quiet
stands_then w v now outcome.LanesFull h j = j ∙ h.quiet
stands_then w v now outcome.NoLane h j = j ∙ h.quiet
stands_then w v now (outcome.Merged turn) h j = j ∙ h.quiet
stands_then w v now (outcome.Fault actor) h j = j ∙ h.quiet

names_then : (w v : World) (o : Outcome) → IsCalm w v → Names v.waiting o → Names w.waiting o
names_then w v outcome.Nothing h n = tt
names_then w v outcome.Acted h n = tt
names_then w v (outcome.Numbered number) h n = tt
names_then w v outcome.Busy h n = tt
names_then w v outcome.Closed h n = tt
names_then w v (outcome.Answered s number a given) h n = number_then (call_of w.waiting s) (call_of v.waiting s) number (h.calls s) n
names_then w v (outcome.GivenUp s number) h n = number_then (call_of w.waiting s) (call_of v.waiting s) number (h.calls s) n
names_then w v (outcome.Ordered a) h n = tt
names_then w v outcome.MonitorBusy h n = tt
names_then w v (outcome.Tended a) h n = tt
names_then w v (outcome.Added lane) h n = tt
names_then w v outcome.LanesFull h n = tt
names_then w v outcome.NoLane h n = tt
names_then w v (outcome.Merged turn) h n = tt
names_then w v (outcome.Fault actor) h n = tt

pub told_then : (w v : World) (d : Done) → IsCalm w v → IsTold v d → IsTold w d
told_then w v d h t = record {
  receipts = stands_then w v d.world d.outcome h t.receipts;
  calls = λ s. goes_then (is_end d.outcome s) (call_of w.waiting s) (call_of v.waiting s) (call_of d.world.waiting s) (h.calls s) (t.calls s);
  names = names_then w v d.outcome h t.names;
}

-- ---- a call goes on by its course: no receipt joins by that
pub goes_on_receipts : (w : World) (s : ℕ) (to : Course) → IsQuiet w (goes_on w s to)
goes_on_receipts w s course.Load = refl
goes_on_receipts w s (course.Wait lane) = refl
goes_on_receipts w s course.Answered = refl
goes_on_receipts w s course.GivenUp = refl

pub goes_on_waiting : (w : World) (s : ℕ) (to : Course) → (goes_on w s to).waiting ≡ w.waiting
goes_on_waiting w s course.Load = refl
goes_on_waiting w s (course.Wait lane) = refl
goes_on_waiting w s course.Answered = refl
goes_on_waiting w s course.GivenUp = refl

-- ---- an attempt ends
refused_goes_by : (c : OpenCall) (named : Option ℕ) (b : Bool)
    → GoesOn (is_given (if b then course.Load else course.GivenUp)) (Some c) (if b then Some (record c { refused = c.refused + 1; place = Loading named }) else None)
refused_goes_by c named true = (refl, refl)
refused_goes_by c named false = refl

pub refused_goes : (c : OpenCall) (named : Option ℕ) → GoesOn (is_given (course_refused (Some c))) (Some c) (refused_once (Some c) named)
refused_goes c named = refused_goes_by c named (nat_lt c.refused 7)

settled_goes : (told : CallAnswer) (o : Option OpenCall) → GoesOn (is_made_by told || is_given (course_settled (end_of told) o)) o (settled (end_of told) o)
settled_goes (answer.Made way) None = refl
settled_goes (answer.NotOwner look cell) None = refl
settled_goes (answer.Fenced word) None = refl
settled_goes (answer.Full counter segments) None = refl
settled_goes (answer.Worn stamp) None = refl
settled_goes (answer.Made way) (Some c) = refl
settled_goes (answer.NotOwner look cell) (Some c) = refused_goes c None
settled_goes (answer.Fenced word) (Some c) = refused_goes c None
settled_goes (answer.Full counter segments) (Some c) = refl
settled_goes (answer.Worn stamp) (Some c) = refl

shows_number : (view : SessionView) (o : Option OpenCall) → Shows view o → HasNumber o view.number
shows_number view None h = h
shows_number view (Some c) h = h

pub record IsEndingAt (w : World) (n : ℕ) (view : SessionView) : Type 0 where
  pub sound : AreSound w.waiting
  pub begun : (at_lane w.waiting n).begun ≡ Some view
  pub session : view.session < length w.waiting.calls
  pub lane : n < length w.waiting.lanes

-- over a world in which its receipt stands already, where it is made
pub ends_told : (before w : World) (n : ℕ) (view : SessionView) (told : CallAnswer) → IsEndingAt w n view → before.waiting ≡ w.waiting → Joins before w view.session view.number told → IsTold before (ends w n told)
ends_told before w n view told h same joins =
    let to : AttemptEnd = end_of told in
    let s : ℕ = view.session in
    let o : Option OpenCall = call_of w.waiting s in
    let way : Course = course_settled to o in
    let v : World = with_waiting w (answered w.waiting n to) in
    let q : AtLane = record (at_lane w.waiting n) { begun = None } in
    let ch : Changed w.waiting v.waiting s n (settled to o) q = answered_changed w.waiting n to view h.begun h.session h.lane in
    let now : World = goes_on v s way in
    let calls : (k : ℕ) → GoesOn ((s == k) && (is_made_by told || is_given way)) (call_of w.waiting k) (call_of now.waiting k) = λ k.
    let after : call_of now.waiting k ≡ call_of v.waiting k = ap (λ (x : WaitingState). call_of x k) (goes_on_waiting v s way) in
    elim (cases_eq k s) [
      | inl e ↦
          subst (λ j. GoesOn ((s == j) && (is_made_by told || is_given way)) (call_of w.waiting j) (call_of now.waiting j)) (sym e)
          (subst (λ b. GoesOn (b && (is_made_by told || is_given way)) o (call_of now.waiting s)) (sym (own_test s))
          (subst (GoesOn (is_made_by told || is_given way) o) (sym (ap (λ (x : WaitingState). call_of x s) (goes_on_waiting v s way) ∙ ch.call)) (settled_goes told o)))
      | inr d ↦
          subst (λ b. GoesOn (b && (is_made_by told || is_given way)) (call_of w.waiting k) (call_of now.waiting k)) (sym (other_test s k (λ e. d (sym e))))
          (alike_goes (call_of w.waiting k) (call_of now.waiting k) (alike_is (call_of w.waiting k) (call_of now.waiting k) (after ∙ ch.calls k d)))
    ] in
    subst (λ b. IsTold before (ends_of w n told b)) (sym h.begun) (record {
      receipts = joins_after before w now s view.number told joins (goes_on_receipts v s way);
      calls = λ k. subst (λ (x : WaitingState). GoesOn ((s == k) && (is_made_by told || is_given way)) (call_of x k) (call_of now.waiting k)) (sym same) (calls k);
      names = subst (λ (x : WaitingState). HasNumber (call_of x s) view.number) (sym same) (shows_number view o (h.sound.number n view h.begun));
    })
  where
    joins_after : (before w now : World) (s number : ℕ) (a : CallAnswer) → Joins before w s number a → IsQuiet w now → Joins before now s number a
    joins_after before w now s number (answer.Made way) j e = record { receipt = j.receipt; joins = e ∙ j.joins; session = j.session; its = j.its; call = j.call }
    joins_after before w now s number (answer.NotOwner look cell) j e = e ∙ j
    joins_after before w now s number (answer.Fenced word) j e = e ∙ j
    joins_after before w now s number (answer.Full counter segments) j e = e ∙ j
    joins_after before w now s number (answer.Worn stamp) j e = e ∙ j
