use Rattle.std.proofs.Common.{◌≡◌, ℕ, zero, suc, ◌<◌, Bool, false, List, [], ◌∷◌, get_or, Some, Contains, refl, subst, arith}
use Rattle.std.specs.List.{slice_get, IsDistinct}
use Rattle.std.proofs.lemmas.List.Elements.{All-from_recursion, recursion_from_All, All-contains}
use Rattle.std.proofs.lemmas.Option.{slice_get_within, get_or_from_slice_get, slice_get-get_or}
use Rattle.dn_owners.proofs.Ats.{same_some}

-- Elements of a list that are distinct by a test, by their places.

pub contains_at : {A : Type 0} (xs : List A) (i : ℕ) (x : A) → slice_get xs i ≡ Some x → Contains xs x
contains_at xs i x e = (i, slice_get_within xs i x e, get_or_from_slice_get xs i x x e)

pub distinct_by : {A : Type 0} (e : A → A → Bool) (xs : List A) → ((i j : ℕ) (x y : A) → i < j → slice_get xs i ≡ Some x → slice_get xs j ≡ Some y → e x y ≡ false) → IsDistinct e xs
unfolding IsDistinct
distinct_by e [] h = tt
distinct_by e (x ∷ xs) h = (
  recursion_from_All (λ y. e x y ≡ false) xs (λ i d lt. h 0 (suc i) x (get_or xs i d) (omega arith) refl (slice_get-get_or xs i d lt)),
  distinct_by e xs (λ i j y z lt f g. h (suc i) (suc j) y z (omega (arith, lt)) f g),
)

pub apart_at : {A : Type 0} (e : A → A → Bool) (xs : List A) (i j : ℕ) (x y : A) → IsDistinct e xs → i < j → slice_get xs i ≡ Some x → slice_get xs j ≡ Some y → e x y ≡ false
unfolding IsDistinct
apart_at e [] i j x y h lt f g = absurd (omega (arith, slice_get_within [] i x f))
apart_at e (w ∷ xs) i zero x y h lt f g = absurd (omega (arith, lt))
apart_at e (w ∷ xs) zero (suc j) x y h lt f g =
    subst (λ z. e z y ≡ false) (same_some w x f) (All-contains (λ z. e w z ≡ false) xs y (All-from_recursion (λ z. e w z ≡ false) xs h.0) (contains_at xs j y g))
apart_at e (w ∷ xs) (suc i) (suc j) x y h lt f g = apart_at e xs i j x y h.1 (omega (arith, lt)) f g
