use Rattle.std.proofs.Common.{◌≡◌, ◌<◌, ◌≤◌, ◌+◌, ◌-◌, ◌*◌, ◌^◌, ℕ, Bool, true, false, cond, Option, Some, None, IfSome, IfNone, List, [], ◌∷◌, length, take, drop, get_or, nat_lt, refl, ap, sym, ◌∙◌, arith, fold, add-one, drop-cons}
use Rattle.std.proofs.lemmas.Bool.Decides.{nat_tests}
use Rattle.std.proofs.lemmas.List.Splits.{slice_split_first, slice_split_none}
use Rattle.std.proofs.lemmas.List.{drop_all}
use Rattle.std.proofs.lemmas.List.Sums.{fails_before_first}
use Rattle.std.specs.List.{position, position_or_len, slice_split, list_all}
use Rattle.dn_script.specs.Number.{is_digit, fitting}

-- ---- parts

found_where : (p : ℕ → Bool) (xs : List ℕ) (b : Bool) (i : ℕ) → nat_lt (position_or_len p xs) (length xs) ≡ b → cond b (Some (position_or_len p xs)) None ≡ Some i
    → (position_or_len p xs < length xs) × (position_or_len p xs ≡ i)
found_where p xs true i t e = (grind (arith, nat_tests), cc)
found_where p xs false i t e = absurd (cc)

found_nowhere : (p : ℕ → Bool) (xs : List ℕ) (b : Bool) → nat_lt (position_or_len p xs) (length xs) ≡ b → cond b (Some (position_or_len p xs)) None ≡ None → length xs ≤ position_or_len p xs
found_nowhere p xs true t e = absurd (cc)
found_nowhere p xs false t e = grind (arith, nat_tests)

-- the parts, where the first of them ends
parts_at : (p : ℕ → Bool) (xs : List ℕ) (i : ℕ) → position p xs ≡ Some i → slice_split p xs ≡ take i xs ∷ slice_split p (drop (i + 1) xs)
parts_at p xs i e =
    let found = found_where p xs (nat_lt (position_or_len p xs) (length xs)) i refl e in
    slice_split_first p xs 0 found.0 ∙ ap (λ n. take n xs ∷ slice_split p (drop (n + 1) xs)) found.1

-- one part, where nothing keeps parts apart
all_in_one : (p : ℕ → Bool) (xs : List ℕ) → position p xs ≡ None → slice_split p xs ≡ xs ∷ []
all_in_one p xs e =
    let none = found_nowhere p xs (nat_lt (position_or_len p xs) (length xs)) refl e in
    slice_split_none p xs (λ k d m. fails_before_first p xs k d (omega arith))

pub parts_of : (p : ℕ → Bool) (xs : List ℕ) (place : Option ℕ) → place ≡ position p xs → IfSome place (λ i. slice_split p xs ≡ take i xs ∷ slice_split p (drop (i + 1) xs))
parts_of p xs None e = tt
parts_of p xs (Some i) e = parts_at p xs i (sym e)

pub one_part : (p : ℕ → Bool) (xs : List ℕ) (place : Option ℕ) → place ≡ position p xs → IfNone place (slice_split p xs ≡ xs ∷ [])
one_part p xs None e = all_in_one p xs (sym e)
one_part p xs (Some i) e = tt

-- ---- digits

pub number_grows : (value : ℕ) (digits : List ℕ) → value ≤ fold (λ number digit. 10 * number + (digit - 48)) value digits
number_grows value [] = omega arith
number_grows value (d ∷ ds) = omega (arith, number_grows (10 * value + (d - 48)) ds)

too_big : (b c : Bool) (number : ℕ) → 2 ^ 64 ≤ number → nat_lt number (2 ^ 64) ≡ c → fitting b number ≡ None
too_big b true number h t = absurd (grind (arith, nat_tests))
too_big true false number h t = rw t refl
too_big false false number h t = refl

pub none_fits : (b : Bool) (value : ℕ) (digits : List ℕ) → 2 ^ 64 ≤ value → fitting b (fold (λ number digit. 10 * number + (digit - 48)) value digits) ≡ None
none_fits b value digits h = too_big b _ (fold (λ number digit. 10 * number + (digit - 48)) value digits) (omega (arith, number_grows value digits)) refl

tail_at : (xs : List ℕ) (i : ℕ) → i < length xs → drop i xs ≡ get_or xs i 0 ∷ drop (i + 1) xs
tail_at xs i h = rw (add-one) (drop-cons xs i 0 h)

-- the next digit makes the number too big
pub overflows : (digits : List ℕ) (i value : ℕ) → i < length digits → 2 ^ 64 ≤ 10 * value + (get_or digits i 0 - 48)
    → fitting (list_all is_digit (drop i digits)) (fold (λ number digit. 10 * number + (digit - 48)) value (drop i digits)) ≡ None
overflows digits i value h big =
    ap (λ ds. fitting (list_all is_digit ds) (fold (λ number digit. 10 * number + (digit - 48)) value ds)) (tail_at digits i h)
    ∙ none_fits (list_all is_digit (get_or digits i 0 ∷ drop (i + 1) digits)) (10 * value + (get_or digits i 0 - 48)) (drop (i + 1) digits) big

fits : (value : ℕ) (b : Bool) → value < 2 ^ 64 → nat_lt value (2 ^ 64) ≡ b → fitting true value ≡ Some value
fits value true h t = rw t refl
fits value false h t = absurd (grind (arith, nat_tests))

-- no digit is left
pub all_read : (digits : List ℕ) (i value : ℕ) → length digits ≤ i → value < 2 ^ 64
    → fitting (list_all is_digit (drop i digits)) (fold (λ number digit. 10 * number + (digit - 48)) value (drop i digits)) ≡ Some value
all_read digits i value h small =
    ap (λ ds. fitting (list_all is_digit ds) (fold (λ number digit. 10 * number + (digit - 48)) value ds)) (drop_all i digits h) ∙ fits value (nat_lt value (2 ^ 64)) small refl
