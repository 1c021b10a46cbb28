use Rattle.std.proofs.Common.{ℕ, ◌≡◌, ◌≢◌, ◌⊎◌, inl, inr, Bool, true, false, if◌then◌else◌, nat_eq, Option, Some, None, refl, sym, subst, arith}
use Rattle.std.proofs.lemmas.Bool.Decides.{nat_tests}
use Rattle.dn_store.specs.State.{with_at}
use Rattle.dn_store.proofs.At.{at_by}

-- A function that changes at one number, and what is so of its values.

-- a change that keeps what is so
pub at_kept : {A : Type 0} (P : ℕ → A → Type 0) (f : ℕ → A) (n : ℕ) (v : A) → (P n (f n) → P n v) → ((m : ℕ) → P m (f m)) → (m : ℕ) → P m (with_at f n v m)
at_kept P f n v change h m = at_by (P m) f n v m
    (λ e. let Q : ℕ → Type 0 = λ x. P x v in subst Q (sym e) (change (h n)))
    (λ d. h m)

-- three functions that change at the same number
pub at_three : {A B C : Type 0} (P : A → B → C → Type 0) (f : ℕ → A) (g : ℕ → B) (h : ℕ → C) (n : ℕ) (u : A) (v : B) (w : C) (m : ℕ)
    → (m ≡ n → P u v w) → (m ≢ n → P (f m) (g m) (h m)) → P (with_at f n u m) (with_at g n v m) (with_at h n w m)
at_three P f g h n u v w m here there = by_test (nat_eq m n) refl where
  by_test : (b : Bool) → nat_eq m n ≡ b → P (if b then u else f m) (if b then v else g m) (if b then w else h m)
  by_test true e = here (grind (arith, nat_tests))
  by_test false e = there (λ s. absurd (grind (arith, nat_tests)))

-- ---- an option
pub same_some : {A : Type 0} (x y : A) → Some x ≡ Some y → x ≡ y
same_some x y e = cc

pub none_some : {A : Type 0} (x : A) → (let o : Option A = None in o) ≡ Some x → ⊥
none_some x e = absurd (cc e)

pub none_or_some : {A : Type 0} (o : Option A) → (o ≡ None) ⊎ ((x : A) × (o ≡ Some x))
none_or_some None = inl refl
none_or_some (Some x) = inr (x, refl)
