use Rattle.std.proofs.Common.{◌≡◌, inl, inr, zero, suc, List, [], ◌∷◌, ◌++◌, Contains, ap, subst, arith}
use Rattle.std.proofs.lemmas.List.{map-append}
use Rattle.std.proofs.lemmas.List.Elements.{Contains-push_cases}
use Rattle.dn_callers.specs.Callers.{Standing, receipts_of}

-- ---- the receipts of what stands
pub has_receipt : (xs : List Standing) (x : Standing) → Contains xs x → Contains (receipts_of xs) x.receipt
has_receipt [] x (k, lt, e) = absurd (omega (arith, lt))
has_receipt (y ∷ xs) x (zero, lt, e) = (zero, omega arith, ap (λ (z : Standing). z.receipt) e)
has_receipt (y ∷ xs) x (suc k, lt, e) = further (has_receipt xs x (k, omega (arith, lt), e))
  where
    further : Contains (receipts_of xs) x.receipt → Contains (receipts_of (y ∷ xs)) x.receipt
    further (k, lt, e) = (suc k, omega (arith, lt), e)

pub one_more : (xs : List Standing) (x : Standing) → receipts_of (xs ++ x ∷ []) ≡ receipts_of xs ++ x.receipt ∷ []
one_more xs x = map-append (λ (z : Standing). z.receipt) xs (x ∷ [])

-- ---- what is so of each one, with one more
pub each_one : {A : Type 0} (P : A → Type 0) (xs : List A) (x : A) → ((y : A) → Contains xs y → P y) → P x → (y : A) → Contains (xs ++ x ∷ []) y → P y
each_one P xs x all here y h = elim (Contains-push_cases xs x y h) [
  | inl had ↦ all y had
  | inr is ↦ subst P is here
]
