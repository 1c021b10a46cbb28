use Rattle.std.proofs.Common.{◌≡◌, ◌≢◌, inl, inr, ℕ, ◌<◌, ◌≤◌, Bool, true, false, List, [], ◌∷◌, ◌++◌, Contains, refl, sym, ◌∙◌, ap, arith}
use Rattle.std.proofs.lemmas.Bool.{cases_eq, false≢true}
use Rattle.dn_hist.specs.declared.receipts.Receipt.{Receipt}
use Rattle.dn_hist.specs.declared.receipts.SessionView.{SessionView}
use Rattle.dn_store.specs.State.{with_at}
use Rattle.dn_store.proofs.At.{at_same, at_other, at_by}
use Rattle.dn_route.specs.SessionState.{SessionState}
use Rattle.dn_route.specs.CallersOrder.{Told, IsUpTo, Knows, IsGood}
use Rattle.dn_route.proofs.CallerLaws.{more, knows_opened, order_none}
use Rattle.dn_callers.specs.Callers.{fresh_callers}
use Rattle.dn_callers.specs.Sessions.{IsSession, AreSessions}

-- What a change of one session or of the lists keeps for the others.

nil_has : {A : Type 0} (x : A) → Contains [] x → ⊥
nil_has x c = absurd (omega (arith, c.1))

pub fresh : AreSessions fresh_callers
fresh = record {
  numbers = λ s i. refl;
  order = order_none [];
  knows = λ s i o. knows_opened [] [] s (λ r c. absurd (nil_has r c)) (λ t c. absurd (nil_has t c));
  answered = λ s x i o c e. absurd (nil_has x c);
  last = λ x y c d e f. absurd (nil_has x c);
}

-- ---- one session is another
pub numbers_kept : (sessions : ℕ → SessionState) (s : ℕ) (now : SessionState) → ((m : ℕ) → IsSession m → (sessions m).session ≡ m) → now.session ≡ (sessions s).session
    → (m : ℕ) → IsSession m → (with_at sessions s now m).session ≡ m
numbers_kept sessions s now h e m i = at_by (λ (x : SessionState). x.session ≡ m) sessions s now m
    (λ f. e ∙ ap (λ y. (sessions y).session) (sym f) ∙ h m i)
    (λ d. h m i)

-- ---- what others know, with one more told or one receipt more
pub knows_told : (told : List Told) (rs : List Receipt) (s : SessionState) (t : Told) → Knows told rs s → t.session ≢ s.session → Knows (told ++ t ∷ []) rs s
knows_told told rs s t k other = record {
  numbers = k.numbers;
  positions = k.positions;
  told_numbers = more (λ (u : Told). u.session ≡ s.session → u.number ≤ s.number) told t k.told_numbers (λ e. absurd (other e));
  told_positions = more (λ (u : Told). u.session ≡ s.session → IsUpTo u.position s.last) told t k.told_positions (λ e. absurd (other e));
}

pub good_others : (told : List Told) (rs : List Receipt) (view : SessionView) (r : Receipt) → IsGood told rs view → r.position.session ≢ view.session → IsGood told (rs ++ r ∷ []) view
good_others told rs view r g other = record {
  numbers = more (λ (a : Receipt). a.position.session ≡ view.session → a.number < view.number) rs r g.numbers (λ e. absurd (other e));
  positions = more (λ (a : Receipt). a.position.session ≡ view.session → IsUpTo a.position view.last) rs r g.positions (λ e. absurd (other e));
  told_positions = g.told_positions;
}

-- ---- who isn't closed where one more is
pub still_open : (closed : ℕ → Bool) (s m : ℕ) → with_at closed s true m ≡ false → (m ≢ s) × (closed m ≡ false)
still_open closed s m e = (
  λ f. absurd (false≢true (sym e ∙ at_same closed s true m f)),
  elim (cases_eq m s) [
    | inl f ↦ absurd (false≢true (sym e ∙ at_same closed s true m f))
    | inr d ↦ sym (at_other closed s true m d) ∙ e
  ],
)

pub open_others : (closed : ℕ → Bool) (s m : ℕ) → closed m ≡ false → s ≢ m → with_at closed s true m ≡ false
open_others closed s m e d = at_other closed s true m (λ f. d (sym f)) ∙ e

-- ---- the number of a call, where a session goes on
pub number_kept : (sessions : ℕ → SessionState) (s : ℕ) (now : SessionState) (n m : ℕ) → (sessions s).number ≤ now.number → n ≤ (sessions m).number → n ≤ (with_at sessions s now m).number
number_kept sessions s now n m up le = at_by (λ (x : SessionState). n ≤ x.number) sessions s now m (λ e. omega (arith, le, up, ap (λ y. (sessions y).number) e)) (λ d. le)
