use Rattle.std.proofs.Common.{◌≡◌, ◌<◌, ◌≤◌, ◌+◌, ◌*◌, ◌%◌, ◌^◌, ℕ, Bool, true, false, cond, ◌&&◌, Option, Some, None, List, [], ◌∷◌, length, drop, nat_eq, nat_le, get_or, replicate, All, refl, subst, arith}
use Rattle.std.proofs.lemmas.Bool.Decides.{nat_tests}
use Rattle.std.proofs.lemmas.Option.{cond_some}
use Rattle.std.proofs.lemmas.List.{length-replicate}
use Rattle.std.proofs.lemmas.List.Elements.{All-nil, All-cons, All-head, All-tail, All-replicate}
use Rattle.std.proofs.lemmas.List.Sums.{AllPass-from_list_all}
use Rattle.std.specs.List.{slice_split, list_all}
use Rattle.dn_script.specs.Number.{is_within, numeral_of, kept_within, number_in}
use Rattle.dn_script.specs.Value.{is_hexadecimal, digit_value, pairs_of, plain_value, pair_value, filled_with, filled_by, value_of}
use Rattle.dn_script.specs.Fit.{IsValue, IsIn}

-- ---- a number
kept_in : (least most : ℕ) (found : Option ℕ) (n : ℕ) → kept_within least most found ≡ Some n → IsIn least most n
kept_in least most None n e = absurd (cc)
kept_in least most (Some m) n e =
    let found = cond_some (nat_le least m && nat_le m most) m n e in
    let same : m ≡ n = found.1 in
    subst (IsIn least most) same (record { least_of = grind (arith, nat_tests, found.0); most_of = grind (arith, nat_tests, found.0) })

pub in_range : (least most : ℕ) (field : List ℕ) (n : ℕ) → number_in least most field ≡ Some n → IsIn least most n
in_range least most field n e = kept_in least most (numeral_of field) n e

-- ---- bytes
within_byte : (b : ℕ) → is_within 33 126 b ≡ true → b < 2 ^ 8
within_byte b e = grind (arith, nat_tests)

within_each : (bytes : List ℕ) → All (λ b. is_within 33 126 b ≡ true) bytes → All (λ byte. byte < 2 ^ 8) bytes
within_each [] h = All-nil (λ byte. byte < 2 ^ 8)
within_each (b ∷ bs) h = All-cons (λ byte. byte < 2 ^ 8) b bs (within_byte b (All-head (λ x. is_within 33 126 x ≡ true) b bs h)) (within_each bs (All-tail (λ x. is_within 33 126 x ≡ true) b bs h))

both : (a b : Bool) → (a && b) ≡ true → (a ≡ true) × (b ≡ true)
both true b e = (refl, e)
both false b e = absurd (cc)

plain_fits : (bytes value : List ℕ) → plain_value bytes ≡ Some value → IsValue value
plain_fits bytes value e =
    let found = cond_some (nat_le (length bytes) 1024 && list_all (is_within 33 126) bytes) bytes value e in
    let tests = both (nat_le (length bytes) 1024) (list_all (is_within 33 126) bytes) found.0 in
    subst IsValue found.1 (record { short = grind (arith, nat_tests, tests.0); bytes = within_each bytes (AllPass-from_list_all (is_within 33 126) bytes tests.1) })

digit_small : (b : ℕ) → digit_value b ≤ 15
digit_small b = grind (arith, nat_tests)

pairs_short : (digits : List ℕ) → 2 * length (pairs_of digits) ≤ length digits
pairs_short [] = omega arith
pairs_short (high ∷ []) = omega arith
pairs_short (high ∷ low ∷ more) = omega (arith, pairs_short more)

pairs_bytes : (digits : List ℕ) → All (λ byte. byte < 2 ^ 8) (pairs_of digits)
pairs_bytes [] = All-nil (λ byte. byte < 2 ^ 8)
pairs_bytes (high ∷ []) = All-nil (λ byte. byte < 2 ^ 8)
pairs_bytes (high ∷ low ∷ more) =
    All-cons (λ byte. byte < 2 ^ 8) (16 * digit_value high + digit_value low) (pairs_of more) (omega (arith, digit_small high, digit_small low)) (pairs_bytes more)

pairs_fit : (digits value : List ℕ) → pair_value digits ≡ Some value → IsValue value
pairs_fit digits value e =
    let found = cond_some (nat_le (length digits) 2048 && nat_eq (length digits % 2) 0 && list_all is_hexadecimal digits) (pairs_of digits) value e in
    let tests = both (nat_le (length digits) 2048 && nat_eq (length digits % 2) 0) (list_all is_hexadecimal digits) found.0 in
    let short = both (nat_le (length digits) 2048) (nat_eq (length digits % 2) 0) tests.0 in
    let bound : length digits ≤ 2048 = grind (arith, nat_tests, short.0) in
    subst IsValue found.1 (record { short = omega (arith, pairs_short digits, bound); bytes = pairs_bytes digits })

filled_fits : (byte count : Option ℕ) (value : List ℕ) → ((b : ℕ) → byte ≡ Some b → IsIn 0 255 b) → ((c : ℕ) → count ≡ Some c → IsIn 0 1024 c) → filled_with byte count ≡ Some value → IsValue value
filled_fits None count value h g e = absurd (cc)
filled_fits (Some b) None value h g e = absurd (cc)
filled_fits (Some b) (Some c) value h g e =
    let same : replicate c b ≡ value = cc in
    subst IsValue same (record {
      short = omega (arith, length-replicate c b, (g c refl).most_of);
      bytes = All-replicate (λ byte. byte < 2 ^ 8) c b (omega (arith, (h b refl).most_of));
    })

parts_fit : (parts : List (List ℕ)) (value : List ℕ) → filled_by parts ≡ Some value → IsValue value
parts_fit [] value e = absurd (cc)
parts_fit (byte ∷ []) value e = absurd (cc)
parts_fit (byte ∷ count ∷ []) value e = filled_fits (number_in 0 255 byte) (number_in 0 1024 count) value (λ b f. in_range 0 255 byte b f) (λ c f. in_range 0 1024 count c f) e
parts_fit (byte ∷ count ∷ next ∷ more) value e = absurd (cc)

led_fits : (a b c : Bool) (text value : List ℕ)
    → cond a (plain_value text) (cond b (pair_value text) (cond c (filled_by (slice_split (λ x. nat_eq x 42) text)) None)) ≡ Some value → IsValue value
led_fits true b c text value e = plain_fits text value e
led_fits false true c text value e = pairs_fit text value e
led_fits false false true text value e = parts_fit (slice_split (λ x. nat_eq x 42) text) value e
led_fits false false false text value e = absurd (cc)

pub value_fits : (field value : List ℕ) → value_of field ≡ Some value → IsValue value
value_fits field value e = led_fits (nat_eq (get_or field 0 0) 61) (nat_eq (get_or field 0 0) 37) (nat_eq (get_or field 0 0) 35) (drop 1 field) value e

-- no bytes are a value
pub no_bytes : IsValue []
no_bytes = record { short = omega arith; bytes = All-nil (λ byte. byte < 2 ^ 8) }
