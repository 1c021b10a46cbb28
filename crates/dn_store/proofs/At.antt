use Rattle.std.proofs.Common.{ℕ, ◌≡◌, ◌≢◌, inl, inr, Bool, true, false, nat_eq, if◌then◌else◌, refl, sym, subst, arith}
use Rattle.std.proofs.lemmas.Bool.{cases_eq, false≢true}
use Rattle.std.proofs.lemmas.Bool.Decides.{nat_tests}
use Rattle.dn_store.specs.State.{with_at}

-- A function that changes at one number, by whether a number is that one.

chosen : {A : Type 0} (u v : A) (b : Bool) → b ≡ true → (if b then u else v) ≡ u
chosen u v true e = refl
chosen u v false e = absurd (false≢true e)

left_out : {A : Type 0} (u v : A) (b : Bool) → b ≡ false → (if b then u else v) ≡ v
left_out u v true e = absurd (false≢true (sym e))
left_out u v false e = refl

pub at_same : {A : Type 0} (f : ℕ → A) (n : ℕ) (v : A) (m : ℕ) → m ≡ n → with_at f n v m ≡ v
at_same f n v m e = chosen v (f m) (nat_eq m n) (grind (arith, nat_tests))

pub at_other : {A : Type 0} (f : ℕ → A) (n : ℕ) (v : A) (m : ℕ) → m ≢ n → with_at f n v m ≡ f m
at_other f n v m d = left_out v (f m) (nat_eq m n) (grind (arith, nat_tests))

pub at_by : {A : Type 0} (P : A → Type 0) (f : ℕ → A) (n : ℕ) (v : A) (m : ℕ) → (m ≡ n → P v) → (m ≢ n → P (f m)) → P (with_at f n v m)
at_by P f n v m here there = elim (cases_eq m n) [
  | inl e ↦ subst P (sym (at_same f n v m e)) (here e)
  | inr d ↦ subst P (sym (at_other f n v m d)) (there d)
]
