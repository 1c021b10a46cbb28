use Rattle.std.proofs.Common.{ℕ, zero, suc, ◌+◌, ◌<◌, ◌≤◌, ◌≡◌, ◌≢◌, inl, inr, refl, ap, arith}
use Rattle.std.proofs.lemmas.Bool.{cases_eq}
use Rattle.dn_turns.specs.Sums.{sum_to}

-- Sums over the numbers of lanes.

pub sum_most : (n : ℕ) (f : ℕ → ℕ) → ((i : ℕ) → f i ≤ 1) → sum_to n f ≤ n
sum_most zero f le = omega arith
sum_most (suc n) f le = omega (arith, le (suc n), sum_most n f le)

sum_same : (n : ℕ) (f g : ℕ → ℕ) → ((i : ℕ) → i ≤ n → g i ≡ f i) → sum_to n g ≡ sum_to n f
sum_same zero f g e = refl
sum_same (suc n) f g e = omega (arith, e (suc n) (omega arith), sum_same n f g (λ i le. e i (omega (arith, le))))

-- one of them changes
pub sum_changes : (n : ℕ) (f g : ℕ → ℕ) (at : ℕ) → 0 < at → at ≤ n → ((i : ℕ) → i ≢ at → g i ≡ f i) → sum_to n g + f at ≡ sum_to n f + g at
sum_changes zero f g at pos le e = absurd (omega (arith, pos, le))
sum_changes (suc n) f g at pos le e = elim (cases_eq (suc n) at) [
  | inl s ↦ omega (arith, ap f s, ap g s, sum_same n f g (λ i lt. e i (λ t. absurd (omega (arith, t, s, lt)))))
  | inr d ↦ omega (arith, e (suc n) d, sum_changes n f g at pos (omega (arith, d, le)) e)
]
