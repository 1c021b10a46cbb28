use Rattle.std.proofs.Common.{◌≡◌, ℕ, ◌-◌, ◌<◌, ◌≤◌, ◌==◌, ◌&&◌, ◌⊎◌, inl, inr, Bool, true, false, List, length, refl, sym, ap, ◌∙◌, arith, bit_and, bit_or, slice_index, min, max}
use Rattle.std.proofs.lemmas.Bool.{eqb-true, eq-eqb, cases_eq}
use Rattle.std.proofs.lemmas.List.{get_or-set_same, get_or-set_other, length-set}
use Rattle.std.proofs.lemmas.Nat.{and_le_r, and_or_self, le_or_l, le_or_r}
use Rattle.std.proofs.lemmas.Nat.Bits.{bit_at_and, bit_at_or, same_from_bits}
use Rattle.std.specs.Int.{bit_at}
use Rattle.dn_pending.specs.declared.filters.Bit.{Bit}
use Rattle.dn_pending.specs.declared.filters.KeyBits.{KeyBits}
use Rattle.dn_pending.specs.Filter.{is_set, lack_of, may_hold, set_in, added_to, AreInside}

-- a bit that is set in both numbers stays set beside the bits of a third
min_max_kept : (x y m : ℕ) → min x m ≡ m → min (max x y) m ≡ m
min_max_kept x y m h = omega (arith, h)

-- what is set stays set
and_or_kept : (x y m : ℕ) → bit_and x m ≡ m → bit_and (bit_or x y) m ≡ m
and_or_kept x y m h =
    same_from_bits (bit_and (bit_or x y) m) m
    (λ i. rw (bit_at_and, bit_at_or) (min_max_kept (bit_at x i) (bit_at y i) (bit_at m i) (sym (bit_at_and x m i) ∙ ap (λ n. bit_at n i) h)))

-- a bit that was set is set
pub is_set-set_same : (words : List ℕ) (bit : Bit) → bit.word < length words → is_set (set_in words bit) bit ≡ true
is_set-set_same words bit h =
    eq-eqb _ _ (ap (λ n. bit_and n bit.mask) (get_or-set_same words bit.word _ 0 h) ∙ and_or_self bit.mask (slice_index words bit.word))

is_set_at : (words : List ℕ) (bit : Bit) (word : ℕ) → bit_and word bit.mask ≡ bit.mask → slice_index words bit.word ≡ word → is_set words bit ≡ true
is_set_at words bit word h e = eq-eqb _ _ (ap (λ n. bit_and n bit.mask) e ∙ h)

kept_by_set : (words : List ℕ) (bit other : Bit) → bit.word < length words → is_set words other ≡ true → (other.word ≡ bit.word) ⊎ (other.word ≡ bit.word → ⊥) → is_set (set_in words bit) other ≡ true
kept_by_set words bit other h s (inl e) =
    is_set_at (set_in words bit) other (bit_or (slice_index words bit.word) bit.mask)
    (and_or_kept (slice_index words bit.word) bit.mask other.mask (ap (λ n. bit_and (slice_index words n) other.mask) (sym e) ∙ eqb-true _ _ s))
    (ap (λ n. slice_index (set_in words bit) n) e ∙ get_or-set_same words bit.word _ 0 h)
kept_by_set words bit other h s (inr d) =
    is_set_at (set_in words bit) other (slice_index words other.word) (eqb-true _ _ s) (get_or-set_other words bit.word other.word _ 0 d)

-- and the others that were set still are
pub is_set-set : (words : List ℕ) (bit other : Bit) → bit.word < length words → is_set words other ≡ true → is_set (set_in words bit) other ≡ true
is_set-set words bit other h s = kept_by_set words bit other h s (cases_eq other.word bit.word)

-- four tests that all pass
and_four : (a b c d : Bool) → a ≡ true → b ≡ true → c ≡ true → d ≡ true → (a && b && c && d) ≡ true
and_four a b c d p q r s = cc

four_and : (a b c d : Bool) → (a && b && c && d) ≡ true → (a ≡ true) × (b ≡ true) × (c ≡ true) × (d ≡ true)
four_and true true true true h = (refl, refl, refl, refl)
four_and true true true false h = cc
four_and true true false d h = cc
four_and true false c d h = cc
four_and false b c d h = cc

-- the filter still has its 16 words
pub length-added : (words : List ℕ) (bits : KeyBits) → length (added_to words bits) ≡ length words
length-added words bits = simp length-set

-- a key that was added isn't denied
pub may_hold-added : (words : List ℕ) (bits : KeyBits) → AreInside bits → length words ≡ 16 → may_hold (added_to words bits) bits ≡ true
may_hold-added words bits h l =
    let one = set_in words bits.first in
    let two = set_in one bits.second in
    let three = set_in two bits.third in
    let l1 : length one ≡ 16 = length-set words _ _ ∙ l in
    let l2 : length two ≡ 16 = length-set one _ _ ∙ l1 in
    let l3 : length three ≡ 16 = length-set two _ _ ∙ l2 in
    and_four _ _ _ _
    (is_set-set three bits.fourth bits.first (omega (arith, h.fourth, l3)) (is_set-set two bits.third bits.first (omega (arith, h.third, l2)) (is_set-set one bits.second bits.first (omega (arith, h.second, l1)) (is_set-set_same words bits.first (omega (arith, h.first, l))))))
    (is_set-set three bits.fourth bits.second (omega (arith, h.fourth, l3)) (is_set-set two bits.third bits.second (omega (arith, h.third, l2)) (is_set-set_same one bits.second (omega (arith, h.second, l1)))))
    (is_set-set three bits.fourth bits.third (omega (arith, h.fourth, l3)) (is_set-set_same two bits.third (omega (arith, h.third, l2))))
    (is_set-set_same three bits.fourth (omega (arith, h.fourth, l3)))

is_set-added : (words : List ℕ) (bits : KeyBits) (bit : Bit) → AreInside bits → length words ≡ 16 → is_set words bit ≡ true → is_set (added_to words bits) bit ≡ true
is_set-added words bits bit h l s =
    let one = set_in words bits.first in
    let two = set_in one bits.second in
    let three = set_in two bits.third in
    let l1 : length one ≡ 16 = length-set words _ _ ∙ l in
    let l2 : length two ≡ 16 = length-set one _ _ ∙ l1 in
    let l3 : length three ≡ 16 = length-set two _ _ ∙ l2 in
    is_set-set three bits.fourth bit (omega (arith, h.fourth, l3)) (is_set-set two bits.third bit (omega (arith, h.third, l2)) (is_set-set one bits.second bit (omega (arith, h.second, l1)) (is_set-set words bits.first bit (omega (arith, h.first, l)) s)))

-- a key that wasn't denied isn't denied once another is added
pub may_hold-kept : (words : List ℕ) (bits other : KeyBits) → AreInside bits → length words ≡ 16 → may_hold words other ≡ true → may_hold (added_to words bits) other ≡ true
may_hold-kept words bits other h l s =
    let each = four_and _ _ _ _ s in
    and_four _ _ _ _
    (is_set-added words bits other.first h l each.0)
    (is_set-added words bits other.second h l each.1)
    (is_set-added words bits other.third h l each.2)
    (is_set-added words bits other.fourth h l each.3)

-- a bit of which nothing lacks is set, and the other way round
set_from_none : (words : List ℕ) (bit : Bit) → lack_of words bit ≡ 0 → is_set words bit ≡ true
set_from_none words bit h = eq-eqb _ _ (whole (bit_and (slice_index words bit.word) bit.mask) bit.mask (and_le_r (slice_index words bit.word) bit.mask) h)
  where
    whole : (part mask : ℕ) → part ≤ mask → mask - part ≡ 0 → part ≡ mask
    whole part mask h e = omega arith

none_from_set : (words : List ℕ) (bit : Bit) → is_set words bit ≡ true → lack_of words bit ≡ 0
none_from_set words bit h = nothing (bit_and (slice_index words bit.word) bit.mask) bit.mask (eqb-true _ _ h)
  where
    nothing : (part mask : ℕ) → part ≡ mask → mask - part ≡ 0
    nothing part mask e = omega arith

-- four numbers of which none has a bit
or_none : (a b c d : ℕ) → a ≡ 0 → b ≡ 0 → c ≡ 0 → d ≡ 0 → bit_or (bit_or a b) (bit_or c d) ≡ 0
or_none a b c d p q r s = ap (λ n. bit_or (bit_or n b) (bit_or c d)) p ∙ ap (λ n. bit_or (bit_or 0 n) (bit_or c d)) q ∙ ap (λ n. bit_or (bit_or 0 0) (bit_or n d)) r ∙ ap (λ n. bit_or (bit_or 0 0) (bit_or 0 n)) s

none_or : (a b : ℕ) → bit_or a b ≡ 0 → (a ≡ 0) × (b ≡ 0)
none_or a b h = (omega (arith, h, le_or_l a b), omega (arith, h, le_or_r a b))

same_test : (x y : Bool) → (x ≡ true → y ≡ true) → (y ≡ true → x ≡ true) → x ≡ y
same_test true true f g = refl
same_test false false f g = refl
same_test true false f g = sym (f refl)
same_test false true f g = g refl

-- all four are set exactly where nothing lacks
pub may_hold-lacks : (words : List ℕ) (bits : KeyBits) → (bit_or (bit_or (lack_of words bits.first) (lack_of words bits.second)) (bit_or (lack_of words bits.third) (lack_of words bits.fourth)) == 0) ≡ may_hold words bits
may_hold-lacks words bits = same_test _ _ all none
  where
    all : (bit_or (bit_or (lack_of words bits.first) (lack_of words bits.second)) (bit_or (lack_of words bits.third) (lack_of words bits.fourth)) == 0) ≡ true → may_hold words bits ≡ true
    all h =
        let both = none_or (bit_or (lack_of words bits.first) (lack_of words bits.second)) (bit_or (lack_of words bits.third) (lack_of words bits.fourth)) (eqb-true _ _ h) in
        let front = none_or (lack_of words bits.first) (lack_of words bits.second) both.0 in
        let back = none_or (lack_of words bits.third) (lack_of words bits.fourth) both.1 in
        and_four _ _ _ _ (set_from_none words bits.first front.0) (set_from_none words bits.second front.1) (set_from_none words bits.third back.0) (set_from_none words bits.fourth back.1)

    none : may_hold words bits ≡ true → (bit_or (bit_or (lack_of words bits.first) (lack_of words bits.second)) (bit_or (lack_of words bits.third) (lack_of words bits.fourth)) == 0) ≡ true
    none h =
        let each = four_and _ _ _ _ h in
        eq-eqb _ _ (or_none _ _ _ _ (none_from_set words bits.first each.0) (none_from_set words bits.second each.1) (none_from_set words bits.third each.2) (none_from_set words bits.fourth each.3))
