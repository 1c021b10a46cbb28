use Rattle.std.proofs.Common.{ℕ, zero, suc, ◌+◌, ◌≡◌, Bool, true, false, if◌then◌else◌, List, [], ◌∷◌, get_or, refl, subst, ap, arith}
use Rattle.std.specs.List.Sorted.{IsPermutation}
use Rattle.std.specs.Ordering.{is_lt, ordering_reverse}
use Rattle.std.specs.declared.cmp.Ordering.{Ordering}
use Rattle.std.specs.declared.cmp.Ordering.TheVariants.{Less, Equal, Greater}
use Rattle.std.proofs.lemmas.List.Sorted.{IsPermutation-refl, IsPermutation-trans, IsPermutation-cons, IsPermutation-middle}
use Rattle.dn_callers.specs.Callers.{Standing, receipts_of}
use Rattle.dn_hist.specs.Receipt.{position_cmp, IsInOrder}
use Rattle.dn_route.proofs.PositionLaws.{positions_total}

-- Whatever receipts stand, they have an order of position.

abbrev before : Standing → Standing → Bool
before x y = is_lt (position_cmp x.receipt.position y.receipt.position)

-- one is placed in front of the first that isn't before it
abbrev placed : Standing → List Standing → List Standing
placed x [] = x ∷ []
placed x (y ∷ ys) = if before y x then y ∷ placed x ys else x ∷ y ∷ ys

abbrev pub sorted : List Standing → List Standing
sorted [] = []
sorted (x ∷ xs) = placed x (sorted xs)

-- ---- once each
once_by : (x y : Standing) (ys : List Standing) (b : Bool) → IsPermutation (x ∷ ys) (placed x ys) → IsPermutation (x ∷ y ∷ ys) (if b then y ∷ placed x ys else x ∷ y ∷ ys)
once_by x y ys true h = IsPermutation-trans (x ∷ y ∷ ys) (y ∷ x ∷ ys) (y ∷ placed x ys) (IsPermutation-middle (x ∷ []) y ys) (IsPermutation-cons y (x ∷ ys) (placed x ys) h)
once_by x y ys false h = IsPermutation-refl (x ∷ y ∷ ys)

placed_once : (x : Standing) (ys : List Standing) → IsPermutation (x ∷ ys) (placed x ys)
placed_once x [] = IsPermutation-refl (x ∷ [])
placed_once x (y ∷ ys) = once_by x y ys (before y x) (placed_once x ys)

pub sorted_once : (xs : List Standing) → IsPermutation xs (sorted xs)
sorted_once [] = IsPermutation-refl []
sorted_once (x ∷ xs) = IsPermutation-trans (x ∷ xs) (x ∷ sorted xs) (placed x (sorted xs)) (IsPermutation-cons x xs (sorted xs) (sorted_once xs)) (placed_once x (sorted xs))

-- ---- none before the one in front of it
abbrev IsUnder : Standing → List Standing → Type 0
IsUnder x [] = Unit {0}
IsUnder x (y ∷ ys) = before y x ≡ false

abbrev Rises : List Standing → Type 0
Rises [] = Unit {0}
Rises (x ∷ xs) = IsUnder x xs × Rises xs

flipped_cmp : (o p : Ordering) → o ≡ ordering_reverse p → is_lt p ≡ true → is_lt o ≡ false
flipped_cmp o Less e t = ap is_lt e
flipped_cmp o Equal e t = absurd (cc)
flipped_cmp o Greater e t = absurd (cc)

flipped : (x y : Standing) → before y x ≡ true → before x y ≡ false
flipped x y t = flipped_cmp (position_cmp x.receipt.position y.receipt.position) (position_cmp y.receipt.position x.receipt.position) (positions_total.antisymm x.receipt.position y.receipt.position) t

under_by : (x y z : Standing) (zs : List Standing) (b : Bool) → before y x ≡ true → before z y ≡ false → IsUnder y (if b then z ∷ placed x zs else x ∷ z ∷ zs)
under_by x y z zs true e h = h
under_by x y z zs false e h = flipped x y e

under : (x y : Standing) (ys : List Standing) → before y x ≡ true → IsUnder y ys → IsUnder y (placed x ys)
under x y [] e h = flipped x y e
under x y (z ∷ zs) e h = under_by x y z zs (before z x) e h

rises_by : (x y : Standing) (ys : List Standing) (b : Bool) → before y x ≡ b → Rises (y ∷ ys) → Rises (placed x ys) → Rises (if b then y ∷ placed x ys else x ∷ y ∷ ys)
rises_by x y ys true e h k = (under x y ys e h.0, k)
rises_by x y ys false e h k = (e, h)

placed_rises : (x : Standing) (ys : List Standing) → Rises ys → Rises (placed x ys)
placed_rises x [] h = (tt, tt)
placed_rises x (y ∷ ys) h = rises_by x y ys (before y x) refl h (placed_rises x ys h.1)

sorted_rises : (xs : List Standing) → Rises (sorted xs)
sorted_rises [] = tt
sorted_rises (x ∷ xs) = placed_rises x (sorted xs) (sorted_rises xs)

in_order : (xs : List Standing) → Rises xs → IsInOrder (receipts_of xs)
in_order [] h k d lo lt = absurd (omega (arith, lt))
in_order (x ∷ []) h k d lo lt = absurd (omega (arith, lt))
in_order (x ∷ y ∷ ys) h zero d lo lt = h.0
in_order (x ∷ y ∷ ys) h (suc k) d lo lt =
    let more : suc (k + 1) ≡ suc k + 1 = omega arith in
    subst (λ (i : ℕ). is_lt (position_cmp (get_or (receipts_of (x ∷ y ∷ ys)) i d).position (get_or (receipts_of (x ∷ y ∷ ys)) (suc k) d).position) ≡ false) more
    (in_order (y ∷ ys) h.1 k d (omega arith) (omega (arith, lt)))

pub sorted_in_order : (xs : List Standing) → IsInOrder (receipts_of (sorted xs))
sorted_in_order xs = in_order (sorted xs) (sorted_rises xs)
