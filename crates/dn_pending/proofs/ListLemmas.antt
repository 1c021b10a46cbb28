use Rattle.std.proofs.Common.{◌≡◌, ℕ, suc, zero, ◌+◌, ◌-◌, ◌<◌, ◌≤◌, List, [], ◌∷◌, ◌++◌, length, take, drop, reverse, refl, sym, ap, ◌∙◌, arith, subst, All, Contains}
use Rattle.std.proofs.lemmas.List.{length-append, reverse-append, reverse-reverse, length-reverse, take-append-le, drop-append-le, drop_all, get_or-reverse}
use Rattle.std.proofs.Math.Seq.{take-length, take-append_seam}

-- the newest first: an item that is pushed comes first, and the oldest one last
pub reverse-push : {X : Type 0} (xs : List X) (x : X) → reverse (xs ++ x ∷ []) ≡ x ∷ reverse xs
reverse-push xs x = reverse-append xs (x ∷ [])

pub reverse-oldest : {X : Type 0} (x : X) (xs : List X) → reverse (x ∷ xs) ≡ reverse xs ++ x ∷ []
reverse-oldest x xs = reverse-append (x ∷ []) xs

pub take-nil : {X : Type 0} (n : ℕ) → take {A = X} n [] ≡ []
take-nil zero = refl
take-nil (suc n) = refl

drop-nil : {X : Type 0} (n : ℕ) → drop {A = X} n [] ≡ []
drop-nil zero = refl
drop-nil (suc n) = refl

less-zero : (a : ℕ) → a - 0 ≡ a
less-zero a = omega arith

zero-less : (a : ℕ) → 0 ≡ 0 - a
zero-less a = omega arith

less-suc : (a b : ℕ) → suc a - suc b ≡ a - b
less-suc a b = omega arith

-- the front of a list is what its newest items leave, and its back is they
front_of : {X : Type 0} (n : ℕ) (xs : List X) → take (length xs - n) (reverse xs) ≡ reverse (drop n xs)
front_of zero xs = ap (λ k. take k (reverse xs)) (less-zero (length xs) ∙ sym (length-reverse xs)) ∙ take-length (reverse xs)
front_of (suc n) [] = take-nil (0 - suc n)
front_of (suc n) (x ∷ xs) =
    let fits : length xs - n ≤ length (reverse xs) = omega (arith, length-reverse xs) in
    ap (λ k. take k (reverse (x ∷ xs))) (less-suc (length xs) n)
    ∙ ap (λ ys. take (length xs - n) ys) (reverse-oldest x xs)
    ∙ take-append-le (length xs - n) (reverse xs) (x ∷ []) fits
    ∙ front_of n xs

back_of : {X : Type 0} (n : ℕ) (xs : List X) → drop (length xs - n) (reverse xs) ≡ reverse (take n xs)
back_of zero xs = drop_all (length xs - 0) (reverse xs) (omega (arith, length-reverse xs))
back_of (suc n) [] = drop-nil (0 - suc n)
back_of (suc n) (x ∷ xs) =
    let fits : length xs - n ≤ length (reverse xs) = omega (arith, length-reverse xs) in
    ap (λ k. drop k (reverse (x ∷ xs))) (less-suc (length xs) n)
    ∙ ap (λ ys. drop (length xs - n) ys) (reverse-oldest x xs)
    ∙ drop-append-le (length xs - n) (reverse xs) (x ∷ []) fits
    ∙ ap (λ ys. ys ++ x ∷ []) (back_of n xs)
    ∙ sym (reverse-oldest x (take n xs))

pub reverse-front : {X : Type 0} (n : ℕ) (xs : List X) → reverse (take (length xs - n) xs) ≡ drop n (reverse xs)
reverse-front n xs =
    ap (λ ys. reverse (take (length xs - n) ys)) (sym (reverse-reverse xs))
    ∙ ap (λ k. reverse (take (k - n) (reverse (reverse xs)))) (sym (length-reverse xs))
    ∙ ap reverse (front_of n (reverse xs))
    ∙ reverse-reverse (drop n (reverse xs))

pub reverse-back : {X : Type 0} (n : ℕ) (xs : List X) → reverse (drop (length xs - n) xs) ≡ take n (reverse xs)
reverse-back n xs =
    ap (λ ys. reverse (drop (length xs - n) ys)) (sym (reverse-reverse xs))
    ∙ ap (λ k. reverse (drop (k - n) (reverse (reverse xs)))) (sym (length-reverse xs))
    ∙ ap reverse (back_of n (reverse xs))
    ∙ reverse-reverse (take n (reverse xs))

-- what is left behind the n oldest items, the newest first
pub reverse-drop : {X : Type 0} (n : ℕ) (xs : List X) → reverse (drop n xs) ≡ take (length xs - n) (reverse xs)
reverse-drop n xs = sym (front_of n xs)

-- drop and take the other way round
pub drop-take_less : {X : Type 0} (n k : ℕ) (xs : List X) → drop n (take k xs) ≡ take (k - n) (drop n xs)
drop-take_less zero k xs = ap (λ j. take j xs) (sym (less-zero k))
drop-take_less (suc n) zero xs = ap (λ j. take j (drop (suc n) xs)) (zero-less (suc n))
drop-take_less (suc n) (suc k) [] = sym (take-nil (suc k - suc n))
drop-take_less (suc n) (suc k) (x ∷ xs) = drop-take_less n k xs ∙ ap (λ j. take j (drop n xs)) (sym (less-suc k n))

pub take-take_swap : {X : Type 0} (n k : ℕ) (xs : List X) → take n (take k xs) ≡ take k (take n xs)
take-take_swap zero zero xs = refl
take-take_swap zero (suc k) xs = refl
take-take_swap (suc n) zero xs = refl
take-take_swap (suc n) (suc k) [] = refl
take-take_swap (suc n) (suc k) (x ∷ xs) = ap (λ ys. x ∷ ys) (take-take_swap n k xs)

-- an item of a list is one of it the other way round
pub Contains-reverse : {X : Type 0} (xs : List X) (x : X) → Contains (reverse xs) x → Contains xs x
Contains-reverse xs x held =
    let within : held.0 < length xs = omega (arith, held.1, length-reverse xs) in
    (length xs - 1 - held.0, omega (arith, within), sym (get_or-reverse xs held.0 x within) ∙ held.2)

-- what holds of each item holds of each the other way round
pub All-reverse : {X : Type 0} (P : X → Type 0) (xs : List X) → All P xs → All P (reverse xs)
All-reverse P xs h k d i =
    let within : k < length xs = omega (arith, i, length-reverse xs) in
    subst P (sym (get_or-reverse xs k d within)) (h (length xs - 1 - k) d (omega (arith, within)))

-- what stands before the last item
pub take-front : {X : Type 0} (front : List X) (x : X) (xs : List X) → xs ≡ front ++ x ∷ [] → take (length xs - 1) xs ≡ front
take-front front x xs e =
    ap (λ ys. take (length ys - 1) ys) e
    ∙ ap (λ n. take n (front ++ x ∷ [])) (one_less (length (front ++ x ∷ [])) (length front) (length-append front (x ∷ [])))
    ∙ take-append_seam front (x ∷ [])
  where
    one_less : (n k : ℕ) → n ≡ k + 1 → n - 1 ≡ k
    one_less n k h = omega arith
