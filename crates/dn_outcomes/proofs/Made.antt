use Rattle.std.proofs.Common.{◌==◌, ◌||◌, ℕ, ◌≡◌, inl, inr, Bool, true, false, List, [], ◌∷◌, ◌++◌, Contains, if◌then◌else◌, refl, sym, ◌∙◌, ap, subst, append-nil}
use Rattle.std.proofs.lemmas.Bool.{and_parts, eqb-true, false≢true}
use Rattle.std.proofs.lemmas.List.Elements.{Contains-append_left, Contains-append_cases, Contains-push}
use Rattle.dn_callers.specs.Callers.{Standing}
use Rattle.dn_outcomes.specs.Accounts.{Ended, ended_as, ended_in, HasReceipt}
use Rattle.dn_outcomes.specs.Does.{does}
use Rattle.dn_outcomes.specs.Runs.{after, IsRun}
use Rattle.dn_outcomes.specs.Sound.{IsWorld}
use Rattle.dn_outcomes.specs.State.{World, Done}
use Rattle.dn_outcomes.specs.Told.{IsQuiet, IsMade, Joins, Stands, is_made_by, is_end}
use Rattle.dn_outcomes.specs.declared.events.Event.{Event}
use Rattle.dn_outcomes.specs.declared.outcomes.CallAnswer.{CallAnswer}
use Rattle.dn_outcomes.specs.declared.outcomes.CallAnswer.TheVariants as answer
use Rattle.dn_outcomes.specs.declared.outcomes.Outcome.{Outcome}
use Rattle.dn_outcomes.specs.declared.outcomes.Outcome.TheVariants as outcome
use Rattle.dn_outcomes.proofs.Accounts.{no_element}
use Rattle.dn_outcomes.proofs.Kept.{kept}
use Rattle.dn_outcomes.proofs.Past.{one_ended}
use Rattle.dn_outcomes.proofs.ToldEvents.{receipts_so}

-- A call that is told as made has a receipt from then on.

-- ---- receipts stay
record Grows (w now : World) : Type 0 where
  more : List Standing
  are : now.machine.callers.receipts ≡ w.machine.callers.receipts ++ more

quiet_grows : (w now : World) → IsQuiet w now → Grows w now
quiet_grows w now h = record { more = []; are = h ∙ sym (append-nil w.machine.callers.receipts) }

joins_grows : (w now : World) (s number : ℕ) (a : CallAnswer) → Joins w now s number a → Grows w now
joins_grows w now s number (answer.Made way) j = record { more = (record { receipt = j.receipt; answered = true }) ∷ []; are = j.joins }
joins_grows w now s number (answer.NotOwner look cell) j = quiet_grows w now j
joins_grows w now s number (answer.Fenced word) j = quiet_grows w now j
joins_grows w now s number (answer.Full counter segments) j = quiet_grows w now j
joins_grows w now s number (answer.Worn stamp) j = quiet_grows w now j

stands_grows : (w now : World) (o : Outcome) → Stands w now o → Grows w now
stands_grows w now outcome.Nothing j = quiet_grows w now j
stands_grows w now outcome.Acted j = quiet_grows w now j
stands_grows w now (outcome.Numbered number) j = quiet_grows w now j
stands_grows w now outcome.Busy j = quiet_grows w now j
stands_grows w now outcome.Closed j = quiet_grows w now j
stands_grows w now (outcome.Answered s number a given) j = joins_grows w now s number a j
stands_grows w now (outcome.GivenUp s number) j = quiet_grows w now j
stands_grows w now (outcome.Ordered a) j = quiet_grows w now j
stands_grows w now outcome.MonitorBusy j = quiet_grows w now j
stands_grows w now (outcome.Tended a) j = quiet_grows w now j
stands_grows w now (outcome.Added lane) j = quiet_grows w now j
stands_grows w now outcome.LanesFull j = quiet_grows w now j
stands_grows w now outcome.NoLane j = quiet_grows w now j
stands_grows w now (outcome.Merged turn) j = quiet_grows w now j
stands_grows w now (outcome.Fault actor) j = quiet_grows w now j

has_still : (w now : World) (s n : ℕ) → Grows w now → HasReceipt w s n → HasReceipt now s n
has_still w now s n g r = record {
  standing = r.standing;
  stands = subst (λ ys. Contains ys r.standing) (sym g.are) (Contains-append_left w.machine.callers.receipts g.more r.standing r.stands);
  session = r.session;
  its = r.its;
}

has_on : (w : World) (es : List (Event × List ℕ)) (s n : ℕ) → IsWorld w → IsRun w es → HasReceipt w s n → HasReceipt (after w es) s n
has_on w [] s n h run r = r
has_on w (x ∷ xs) s n h run r =
    let d : Done = does w x.0 x.1 in
    has_on d.world xs s n (kept w x.0 x.1 h run.0) run.1 (has_still w d.world s n (stands_grows w d.world d.outcome (receipts_so w x.0 x.1 h run.0)) r)

-- ---- by an outcome that tells it as made
has_joined : (w now : World) (t s number n : ℕ) → t ≡ s → number ≡ n → IsMade w now t number → HasReceipt now s n
has_joined w now t s number n e f m = (let y : Standing = record { receipt = m.receipt; answered = true } in record {
  standing = y;
  stands = subst (λ ys. Contains ys y) (sym m.joins) (Contains-push w.machine.callers.receipts y);
  session = m.session ∙ e;
  its = m.its ∙ f;
})

answer_made : (w now : World) (t s number n : ℕ) (a : CallAnswer) → t ≡ s → number ≡ n → is_made_by a ≡ true → Joins w now t number a → HasReceipt now s n
answer_made w now t s number n (answer.Made way) e f made j = has_joined w now t s number n e f j
answer_made w now t s number n (answer.NotOwner look cell) e f made j = absurd (false≢true made)
answer_made w now t s number n (answer.Fenced word) e f made j = absurd (false≢true made)
answer_made w now t s number n (answer.Full counter segments) e f made j = absurd (false≢true made)
answer_made w now t s number n (answer.Worn stamp) e f made j = absurd (false≢true made)

made_has : (w now : World) (o : Outcome) (s : ℕ) (x : Ended) → Stands w now o → is_end o s ≡ true → Contains (ended_as o) x → x.made ≡ true → HasReceipt now s x.number
made_has w now outcome.Nothing s x j e h made = absurd (false≢true e)
made_has w now outcome.Acted s x j e h made = absurd (false≢true e)
made_has w now (outcome.Numbered number) s x j e h made = absurd (false≢true e)
made_has w now outcome.Busy s x j e h made = absurd (false≢true e)
made_has w now outcome.Closed s x j e h made = absurd (false≢true e)
made_has w now (outcome.Answered t number a given) s x j e h made =
    let same : record { number = number; made = is_made_by a } ≡ x = one_ended x (record { number = number; made = is_made_by a }) h in
    answer_made w now t s number x.number a (eqb-true t s (and_parts (t == s) (is_made_by a || given) e).0) (ap (λ (z : Ended). z.number) same) (ap (λ (z : Ended). z.made) same ∙ made) j
made_has w now (outcome.GivenUp t number) s x j e h made = absurd (false≢true (ap (λ (z : Ended). z.made) (one_ended x (record { number = number; made = false }) h) ∙ made))
made_has w now (outcome.Ordered a) s x j e h made = absurd (false≢true e)
made_has w now outcome.MonitorBusy s x j e h made = absurd (false≢true e)
made_has w now (outcome.Tended a) s x j e h made = absurd (false≢true e)
made_has w now (outcome.Added lane) s x j e h made = absurd (false≢true e)
made_has w now outcome.LanesFull s x j e h made = absurd (false≢true e)
made_has w now outcome.NoLane s x j e h made = absurd (false≢true e)
made_has w now (outcome.Merged turn) s x j e h made = absurd (false≢true e)
made_has w now (outcome.Fault actor) s x j e h made = absurd (false≢true e)

-- ---- over a run
pub has_receipt_made : (w : World) (es : List (Event × List ℕ)) (s : ℕ) (x : Ended) → IsWorld w → IsRun w es → Contains (ended_in s w es) x → x.made ≡ true → HasReceipt (after w es) s x.number
has_receipt_made w [] s x h run there made = absurd (no_element x there)
has_receipt_made w (y ∷ ys) s x h run there made =
    let d : Done = does w y.0 y.1 in
    let next : IsWorld d.world = kept w y.0 y.1 h run.0 in
    elim (Contains-append_cases (if is_end d.outcome s then ended_as d.outcome else []) (ended_in s d.world ys) x there) [
      | inl now ↦ has_on d.world ys s x.number next run.1 (by_end (is_end d.outcome s) refl now)
      | inr later ↦ has_receipt_made d.world ys s x next run.1 later made
    ]
  where
    by_end : (b : Bool) → is_end (does w y.0 y.1).outcome s ≡ b → Contains (if b then ended_as (does w y.0 y.1).outcome else []) x → HasReceipt (does w y.0 y.1).world s x.number
    by_end true e now = made_has w (does w y.0 y.1).world (does w y.0 y.1).outcome s x (receipts_so w y.0 y.1 h run.0) e now made
    by_end false e now = absurd (no_element x now)
