use Rattle.std.proofs.Common.{◌≡◌, ◌≢◌, inl, inr, ℕ, ◌<◌, Bool, true, false, nat_eq, ◌&&◌, List, get_or, Some, Contains, refl, sym, ◌∙◌, ap, subst, arith}
use Rattle.std.specs.List.{slice_get, IsDistinct}
use Rattle.std.specs.List.Sorted.{IsPermutation}
use Rattle.std.specs.Ordering.{is_lt}
use Rattle.std.proofs.lemmas.Bool.{cases_eq, cases_lt, true≢false}
use Rattle.std.proofs.lemmas.Bool.Decides.{nat_tests}
use Rattle.std.proofs.lemmas.List.MinMax.{ranks_by}
use Rattle.std.proofs.lemmas.List.Sorted.{sorted_far, Contains-permutation, IsPermutation-sym}
use Rattle.std.proofs.lemmas.Map.Keys.{IsDistinct-IsPermutation}
use Rattle.std.proofs.lemmas.Option.{slice_get_within, get_or_from_slice_get, slice_get-get_or}
use Rattle.dn_hist.specs.CallersOrder.{IsBefore, IsInCallersOrder}
use Rattle.dn_hist.specs.Receipt.{position_cmp, IsInOrder}
use Rattle.dn_hist.specs.declared.receipts.Receipt.{Receipt}
use Rattle.dn_owners.proofs.Ats.{same_some}
use Rattle.dn_route.specs.CallersOrder.{Told, KeepsCallersOrder}
use Rattle.dn_route.proofs.PositionLaws.{positions_total}
use Rattle.dn_machine.proofs.Distinct.{contains_at, distinct_by, apart_at}

-- The order of each session's calls is the same where receipts came to stand one after the other, and where they stand
-- in order of position.

-- ---- of one call
abbrev same_call : Receipt → Receipt → Bool
same_call r s = nat_eq r.position.session s.position.session && nat_eq r.number s.number

flips : (r s : Receipt) → same_call r s ≡ same_call s r
flips r s = grind (arith, nat_tests)

numbers_apart : (r s : Receipt) → (r.position.session ≡ s.position.session → r.number ≢ s.number) → same_call r s ≡ false
numbers_apart r s h = by (nat_eq r.position.session s.position.session) (nat_eq r.number s.number) refl refl where
  by : (b c : Bool) → nat_eq r.position.session s.position.session ≡ b → nat_eq r.number s.number ≡ c → (b && c) ≡ false
  by false c e f = refl
  by true false e f = refl
  by true true e f = absurd (h (grind (arith, nat_tests)) (grind (arith, nat_tests)))

apart_numbers : (r s : Receipt) → same_call r s ≡ false → r.position.session ≡ s.position.session → r.number ≢ s.number
apart_numbers r s h e f = absurd (grind (arith, nat_tests))

-- ---- in order of position none stands before one in front of it
not_under : (hs : List Receipt) (i j : ℕ) (r s : Receipt) → IsInOrder hs → i < j → slice_get hs i ≡ Some r → slice_get hs j ≡ Some s → IsBefore s.position r.position → ⊥
not_under hs i j r s up lt f g b =
    let far : is_lt (position_cmp (get_or hs j s).position (get_or hs i s).position) ≡ false =
    sorted_far (λ (x y : Receipt). is_lt (position_cmp x.position y.position)) (ranks_by positions_total (λ (x : Receipt). x.position)) hs up i j s (omega (arith, lt)) (slice_get_within hs j s g) in
    let P : Receipt → Type 0 = λ x. is_lt (position_cmp s.position x.position) ≡ false in
    let Q : Receipt → Type 0 = λ x. is_lt (position_cmp x.position (get_or hs i s).position) ≡ false in
    true≢false (sym (ap is_lt b) ∙ subst P (get_or_from_slice_get hs i r s f) (subst Q (get_or_from_slice_get hs j s s g) far))

pub in_order : (rs hs : List Receipt) → IsInCallersOrder rs → IsPermutation rs hs → IsInOrder hs → IsInCallersOrder hs
in_order rs hs h once up = record { rises = rises } where
  distinct : IsDistinct same_call hs
  distinct = IsDistinct-IsPermutation same_call flips rs hs once
      (distinct_by same_call rs (λ i j r s lt f g. numbers_apart r s (λ same eq. absurd (omega (arith, (h.rises i j r s lt f g same).0, eq)))))

  from : (r : Receipt) → Contains hs r → Contains rs r
  from r c = Contains-permutation hs rs r (IsPermutation-sym rs hs once) c

  rises : (i j : ℕ) (r s : Receipt) → i < j → slice_get hs i ≡ Some r → slice_get hs j ≡ Some s → r.position.session ≡ s.position.session → (r.number < s.number) × IsBefore r.position s.position
  rises i j r s lt f g same = by (from r (contains_at hs i r f)) (from s (contains_at hs j s g)) where
    apart : r.number ≢ s.number
    apart = apart_numbers r s (apart_at same_call hs i j r s distinct lt f g) same

    at : (x : Receipt) (c : Contains rs x) → slice_get rs c.0 ≡ Some x
    at x c = slice_get-get_or rs c.0 x c.1 ∙ ap (λ (y : Receipt). Some y) c.2

    by : Contains rs r → Contains rs s → (r.number < s.number) × IsBefore r.position s.position
    by c d = elim (cases_lt c.0 d.0) [
      | inl before ↦ h.rises c.0 d.0 r s before (at r c) (at s d) same
      | inr le ↦ elim (cases_eq c.0 d.0) [
        | inl e ↦ (let one : r ≡ s = same_some r s (sym (at r c) ∙ ap (λ k. slice_get rs k) e ∙ at s d) in absurd (apart (ap (λ (x : Receipt). x.number) one)))
        | inr n ↦ absurd (not_under hs i j r s up lt f g (h.rises d.0 c.0 s r (omega (arith, le, n)) (at s d) (at r c) (sym same)).1)
      ]
    ]

pub keeps_in_order : (told : List Told) (rs hs : List Receipt) → KeepsCallersOrder told rs → IsPermutation rs hs → IsInOrder hs → KeepsCallersOrder told hs
keeps_in_order told rs hs h once up = record {
  rises = in_order rs hs h.rises once up;
  behind = λ t r c d. h.behind t r c (Contains-permutation hs rs r (IsPermutation-sym rs hs once) d);
}
