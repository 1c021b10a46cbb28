use Rattle.std.proofs.Common.{ℕ, ◌+◌, ◌-◌, ◌*◌, ◌==◌, ◌<◌, ◌≤◌, ◌≡◌, Bool, true, false, nat_lt, if◌then◌else◌, Option, Some, None, refl, arith}
use Rattle.std.proofs.lemmas.Bool.Decides.{nat_tests}
use Rattle.dn_word.specs.Ref.{ref_of}
use Rattle.dn_word.specs.declared.packed.place.Ref.{Ref}
use Rattle.dn_index.specs.Walk.{noted, past, at_end, onward, names_bucket, found, filled, step_at, left_at, IsFull as NeedsMore}
use Rattle.dn_index.specs.declared.places.Spot.{Spot}
use Rattle.dn_index.specs.declared.places.Trail.{Trail}
use Rattle.dn_index.specs.declared.places.Errand.{Errand}
use Rattle.dn_index.specs.declared.places.Errand.TheVariants.{Find, Set, Remove}
use Rattle.dn_index.specs.declared.places.WalkPlace.{WalkPlace}
use Rattle.dn_index.specs.declared.places.WalkPlace.TheVariants.{Key, Next, Match, Counter, Claim, FillPlace, FillKey, Link}
use Rattle.dn_index.specs.declared.places.WalkTurn.TheVariants as turn
use Rattle.dn_index.specs.declared.places.Step.{Step}
use Rattle.dn_index.specs.declared.places.Step.TheVariants.{On, End}

-- A walk ends: each step that goes on leaves fewer actions, and only the two that read the overflow counter find none left.

abbrev pub Goes : ℕ → Type 0 → ℕ → Step → Type 0
Goes most full word (On place) = left_at place < most
Goes most full word (End turn.More) = ⊥
Goes most full word (End (turn.Found at)) = Unit {0}
Goes most full word (End turn.Absent) = Unit {0}
Goes most full word (End turn.Written) = Unit {0}
Goes most full word (End (turn.IndexFull counter)) = (word ≡ counter) × full

chosen : (most : ℕ) (full : Type 0) (word : ℕ) (x y : Step) (b : Bool) → (b ≡ true → Goes most full word x) → (b ≡ false → Goes most full word y) → Goes most full word (if b then x else y)
chosen most full word x y true h k = h refl
chosen most full word x y false h k = k refl

-- ---- along the chain
end_goes : (full : Type 0) (word : ℕ) (errand : Errand) (b left : ℕ) (free : Option Spot) → Goes (4 * left + 6) full word (at_end errand (record { bucket = b; left = left; free = free }))
end_goes full word Find b left free = record {}
end_goes full word (Set at) b left None = omega arith
end_goes full word (Set at) b left (Some s) = omega arith
end_goes full word Remove b left free = record {}

some_left : (left : ℕ) → (left == 0) ≡ false → 0 < left
some_left left e = grind (arith, nat_tests)

onward_goes : (full : Type 0) (word : ℕ) (errand : Errand) (t : Trail) (next : ℕ) → Goes (4 * t.left + 6) full word (onward errand t next)
onward_goes full word errand t next = chosen (4 * t.left + 6) full word _ _ (t.left == 0) (λ e. end_goes full word errand t.bucket t.left t.free) (λ e. omega (arith, some_left t.left e))

third : (number : ℕ) → (number == 3) ≡ true → number ≡ 3
third number e = grind (arith, nat_tests)

past_goes : (full : Type 0) (word : ℕ) (errand : Errand) (t : Trail) (number : ℕ) → number ≤ 3 → Goes (4 * t.left + (10 - number)) full word (past errand t number)
past_goes full word errand t number low = chosen (4 * t.left + (10 - number)) full word _ _ (number == 3) (λ e. omega (arith, third number e)) (λ e. omega (arith, low))

-- ---- at the overflow counter
high : (word : ℕ) → nat_lt word 4096 ≡ false → 4096 ≤ word
high word e = grind (arith, nat_tests)

filled_goes : (full : Type 0) (word : ℕ) (s : Spot) (from : Option ℕ) → Goes 2 full word (filled s from)
filled_goes full word s None = record {}
filled_goes full word s (Some last) = omega arith

-- ---- from any place
abbrev pub IsLow : WalkPlace → Type 0
IsLow (Key errand t number) = number ≤ 3
IsLow (Next errand t) = Unit {0}
IsLow (Match errand s) = Unit {0}
IsLow (Counter at last) = Unit {0}
IsLow (Claim at last) = Unit {0}
IsLow (FillPlace at s from) = Unit {0}
IsLow (FillKey s from) = Unit {0}
IsLow (Link last new) = Unit {0}

found_goes : (most : ℕ) (full : Type 0) (word : ℕ) (at : Option Ref) → Goes most full word (End (found at))
found_goes most full word None = record {}
found_goes most full word (Some at) = record {}

pub step_goes : (key : ℕ) (place : WalkPlace) (word : ℕ) → IsLow place → Goes (left_at place) (NeedsMore place word) word (step_at key place word)
step_goes key (Key errand t number) word low = chosen (4 * t.left + (10 - number)) ⊥ word _ _ (word == key) (λ e. omega (arith, low)) (λ e. past_goes ⊥ word errand (noted t number word) number low)
step_goes key (Next errand t) word low = chosen (4 * t.left + 6) ⊥ word _ _ (names_bucket word) (λ e. onward_goes ⊥ word errand t word) (λ e. end_goes ⊥ word errand t.bucket t.left t.free)
step_goes key (Match Find s) word low = found_goes 1 ⊥ word (ref_of word)
step_goes key (Match (Set at) s) word low = record {}
step_goes key (Match Remove s) word low = record {}
step_goes key (Counter at last) word low = chosen 5 (4096 ≤ word) word _ _ (nat_lt word 4096) (λ e. omega arith) (λ e. (refl, high word e))
step_goes key (Claim at last) word low = chosen 4 (4096 ≤ word) word _ _ (nat_lt word 4096) (λ e. omega arith) (λ e. (refl, high word e))
step_goes key (FillPlace at s from) word low = omega arith
step_goes key (FillKey s from) word low = filled_goes ⊥ word s from
step_goes key (Link last new) word low = record {}

-- there is always one left
pub has_left : (place : WalkPlace) → IsLow place → 0 < left_at place
has_left (Key errand t number) low = omega (arith, low)
has_left (Next errand t) low = omega arith
has_left (Match errand s) low = omega arith
has_left (Counter at last) low = omega arith
has_left (Claim at last) low = omega arith
has_left (FillPlace at s from) low = omega arith
has_left (FillKey s from) low = omega arith
has_left (Link last new) low = omega arith
