use Rattle.std.proofs.Common.{◌≡◌, ◌<◌, ◌+◌, ◌-◌, ◌*◌, ◌^◌, ℕ, zero, suc, Bool, true, false, cond, ◌&&◌, ◌||◌, Option, Some, None, IfSome, List, length, get_or, nat_eq, nat_lt, refl, ap, sym, ◌∙◌, arith, fold, decimal}
use Rattle.std.proofs.lemmas.Bool.Decides.{nat_tests}
use Rattle.std.proofs.lemmas.Str.Parse.{IsNumeralModel, IsDigitsTest, numerals_by_fold}
use Rattle.std.proofs.lemmas.Fmt.{decimal-digits_value, digits_decimal, digits_value-decimal, first_decimal, decimal_nonempty, decimal_digit}
use Rattle.std.specs.List.{list_all}
use Rattle.dn_script.specs.Number.{is_digit, number_of, fitting, has_leading_zero, numeral_of}

digits_test : IsDigitsTest (λ ds. list_all is_digit ds ≡ true)
digits_test = record {
  empty = refl;
  parts = λ c cs e. (grind (arith, nat_tests), grind (arith, nat_tests));
  more = λ c cs k e. grind (arith, nat_tests);
}

digits : IsNumeralModel (λ ds. list_all is_digit ds ≡ true) number_of
digits = numerals_by_fold _ digits_test (λ number ds. fold (λ n d. 10 * n + (d - 48)) number ds) (record {
  empty = λ n. refl;
  more = λ n c cs k. ap (λ m. fold (λ n d. 10 * n + (d - 48)) m cs) (omega arith);
})

fitted : (a b : Bool) (number n : ℕ) → nat_lt number (2 ^ 64) ≡ b → cond (a && b) (Some number) None ≡ Some n → (a ≡ true) × (number < 2 ^ 64) × (number ≡ n)
fitted true true number n t e = (refl, grind (arith, nat_tests), cc)
fitted true false number n t e = absurd (cc)
fitted false b number n t e = absurd (cc)

-- a leading zero stands alone, where no zero leads other digits
alone : (a b : Bool) (field : List ℕ) → nat_eq (get_or field 0 0) 48 ≡ a → nat_lt 1 (length field) ≡ b → (a && b) ≡ false → 0 < length field → get_or field 0 0 ≡ 48 → length field ≡ 1
alone true true field t u e some is = absurd (cc)
alone true false field t u e some is = grind (arith, nat_tests)
alone false b field t u e some is = absurd (grind (arith, nat_tests))

led : (b c : Bool) (field : List ℕ) (n : ℕ) → nat_eq (length field) 0 ≡ b → has_leading_zero field ≡ c → cond (b || c) None (fitting (list_all is_digit field) (number_of field)) ≡ Some n → field ≡ decimal n
led true c field n t u e = absurd (cc)
led false true field n t u e = absurd (cc)
led false false field n t u e =
    let f = fitted (list_all is_digit field) (nat_lt (number_of field) (2 ^ 64)) (number_of field) n refl e in
    let some : 0 < length field = grind (arith, nat_tests) in
    sym (decimal-digits_value digits field f.0 some (alone (nat_eq (get_or field 0 0) 48) (nat_lt 1 (length field)) field refl refl u some) f.1) ∙ ap decimal f.2

-- a field of a number is what the number prints as
pub numeral_prints : (field : List ℕ) (number : Option ℕ) → number ≡ numeral_of field → IfSome number (λ n. field ≡ decimal n)
numeral_prints field None e = tt
numeral_prints field (Some n) e = led (nat_eq (length field) 0) (has_leading_zero field) field n refl refl (sym e)

-- what a number prints as has no zero in front of other digits
unpadded : (a b : Bool) (n : ℕ) → n < 2 ^ 64 → nat_eq (get_or (decimal n) 0 0) 48 ≡ a → nat_lt 1 (length (decimal n)) ≡ b → (a && b) ≡ false
unpadded true true zero small t u = absurd (grind (arith, nat_tests, ap length (decimal_digit 0 (omega arith))))
unpadded true true (suc n) small t u = absurd (grind (arith, nat_tests, first_decimal (suc n) (omega arith) small))
unpadded true false n small t u = refl
unpadded false b n small t u = refl

spelled : (a b : Bool) (number n : ℕ) → a ≡ true → number ≡ n → n < 2 ^ 64 → nat_lt number (2 ^ 64) ≡ b → cond (a && b) (Some number) None ≡ Some n
spelled true true number n all e small t = cc
spelled true false number n all e small t = absurd (grind (arith, nat_tests))
spelled false b number n all e small t = absurd (cc)

neither : (a b : Bool) (field : List ℕ) → 0 < length field → nat_eq (length field) 0 ≡ a → b ≡ false → (a || b) ≡ false
neither true b field some t u = absurd (grind (arith, nat_tests))
neither false b field some t u = u

-- what a number prints as is a field of it
pub numeral_spelled : (field : List ℕ) (n : ℕ) → n < 2 ^ 64 → field ≡ decimal n → numeral_of field ≡ Some n
numeral_spelled field n small e =
    ap numeral_of e
    ∙ ap (λ b. cond b None (fitting (list_all is_digit (decimal n)) (number_of (decimal n))))
    (neither (nat_eq (length (decimal n)) 0) (has_leading_zero (decimal n)) (decimal n) (decimal_nonempty n small) refl
    (unpadded (nat_eq (get_or (decimal n) 0 0) 48) (nat_lt 1 (length (decimal n))) n small refl refl))
    ∙ spelled (list_all is_digit (decimal n)) (nat_lt (number_of (decimal n)) (2 ^ 64)) (number_of (decimal n)) n (digits_decimal digits n small) (digits_value-decimal digits n small) small refl
