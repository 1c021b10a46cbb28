use Rattle.std.proofs.Common.{replicate, length-set, ◌∷◌, slice_set, get_or-set_same, get_or-set_other, ◌⊎◌, inl, inr, refl, Bool, true, false, nat_lt, nat_eq, ◌≡◌, ◌≢◌, ℕ, ◌+◌, ◌*◌, ◌/◌, ◌%◌, ◌^◌, ◌<◌, ◌≤◌, List, [], Contains, Option, Some, None, length, slice_index, slice_index_or, sym, ◌∙◌, subst, ap, arith}
use Rattle.std.proofs.lemmas.Bool.{cases_eq, cases_lt, ltb-true}
use Rattle.std.proofs.lemmas.List.{get_or-replicate, length-replicate}
use Rattle.std.proofs.Math.ListN.{get_or-eq_default}
use Rattle.std.specs.Option.{option_map_or}
use Rattle.std.proofs.lemmas.Bool.Decides.{nat_tests}
use Rattle.dn_ring.specs.declared.points.Point.{Point}
use Rattle.dn_ring.specs.Ring.{point_of, distance, IsOwner}
use Rattle.dn_ring.specs.Counted.{nth_point, arc_of, IsLower, IsLowest, IsFirstOf, AreFirsts}
use Rattle.dn_ring.proofs.PointLaws.{point_below, numbered, nearest_owns, IsNearest, IsNumbered}

near_split : (slot a b : ℕ) → slot < 64 → a < 2 ^ 64 → b < 2 ^ 64 → a / 2 ^ 58 ≡ slot → (b / 2 ^ 58 ≡ slot → a ≤ b)
    → (b / 2 ^ 58 ≡ slot) ⊎ (b / 2 ^ 58 ≢ slot) → distance slot a ≤ distance slot b
near_split slot a b s l m there low (inl same) = let le = low same in omega (arith, s, l, m, there, same, le)
near_split slot a b s l m there low (inr other) = omega (arith, s, l, m, there, other)

-- A place in the slot's arc is as near as it is low, and nearer than each place outside.
near_in_arc : (slot a b : ℕ) → slot < 64 → a < 2 ^ 64 → b < 2 ^ 64 → a / 2 ^ 58 ≡ slot → (b / 2 ^ 58 ≡ slot → a ≤ b) → distance slot a ≤ distance slot b
near_in_arc slot a b s l m there low = near_split slot a b s l m there low (cases_eq (b / 2 ^ 58) slot)

-- places as near are one
same_place : (slot a b : ℕ) → slot ≤ 64 → a < 2 ^ 64 → b < 2 ^ 64 → distance slot a ≡ distance slot b → a ≡ b
same_place slot a b s l m same = omega (arith, s, l, m, same)

-- Seen from a slot, each place outside its arc is farther by an arc than seen from the next slot.
farther : (slot a : ℕ) → slot < 64 → a < 2 ^ 64 → a / 2 ^ 58 ≢ slot → distance slot a ≡ distance (slot + 1) a + 2 ^ 58
farther slot a s l other = omega (arith, s, l, other)

-- the end of the ring is where it begins
from_start : (a : ℕ) → a < 2 ^ 64 → distance 64 a ≡ a
from_start a l = omega (arith, l)

nth_below : (live : List ℕ) (n : ℕ) → (nth_point live n).at < 2 ^ 64
nth_below live n = point_below (slice_index live (n / 16)) (n % 16)

first_below : (live : List ℕ) (count arc : ℕ) (p : Point) → IsLowest live count arc p → p.at < 2 ^ 64
first_below live count arc p low = subst (λ a. a < 2 ^ 64) (sym (ap (λ (q : Point). q.at) low.same)) (nth_below live low.number)

-- what the firsts say of an arc whose entry is known
known : (live : List ℕ) (count arc : ℕ) (firsts : List (Option Point)) (first : Option Point) → arc < 64 → AreFirsts live count firsts → slice_index_or firsts arc None ≡ first
    → IsFirstOf live count arc first
known live count arc firsts first below are is = subst (λ (f : Option Point). IsFirstOf live count arc f) is (are.each arc below)

near_first : (live : List ℕ) (slot count : ℕ) (p : Point) → slot < 64 → IsLowest live count slot p → IsNearest live slot count p
near_first live slot count p below low = record {
  number = low.number;
  counted = low.counted;
  same = low.same;
  nearest = λ n h. near_in_arc slot p.at (nth_point live n).at below (first_below live count slot p low) (nth_below live n) low.there (λ a. (low.lowest n h a).at);
  lowest = λ n h same.
      let at : p.at ≡ (nth_point live n).at = same_place slot p.at (nth_point live n).at (omega arith) (first_below live count slot p low) (nth_below live n) same in
      (low.lowest n h (ap (λ a. a / 2 ^ 58) (sym at) ∙ low.there)).lane at;
}

-- a slot in whose arc a point lies goes to the first one's lane
pub arc_owns : (live : List ℕ) (slot : ℕ) (firsts : List (Option Point)) (p : Point) → slot < 64 → AreFirsts live (16 * length live) firsts
    → slice_index_or firsts slot None ≡ Some p → IsOwner live slot p.lane
arc_owns live slot firsts p below are is =
    nearest_owns live slot p (near_first live slot (16 * length live) p below (known live (16 * length live) slot firsts (Some p) below are is))

off_at : (live : List ℕ) (slot : ℕ) (firsts : List (Option Point)) → slot < 64 → AreFirsts live (16 * length live) firsts → slice_index_or firsts slot None ≡ None
    → (lane number : ℕ) → (m : ℕ) × IsNumbered live lane number m → point_of lane number / 2 ^ 58 ≢ slot
off_at live slot firsts below are is lane number (m, of) there =
    known live (16 * length live) slot firsts None below are is m of.below (ap (λ (q : Point). q.at / 2 ^ 58) of.same ∙ there)

-- no live lane has a point in an arc without a first one
off : (live : List ℕ) (slot : ℕ) (firsts : List (Option Point)) → slot < 64 → AreFirsts live (16 * length live) firsts → slice_index_or firsts slot None ≡ None
    → (lane number : ℕ) → Contains live lane → number < 16 → point_of lane number / 2 ^ 58 ≢ slot
off live slot firsts below are is lane number has within = off_at live slot firsts below are is lane number (numbered live lane number has within)

-- and that slot goes where the next one goes
pub next_owns : (live : List ℕ) (slot lane : ℕ) (firsts : List (Option Point)) → slot < 64 → AreFirsts live (16 * length live) firsts → slice_index_or firsts slot None ≡ None
    → IsOwner live (slot + 1) lane → IsOwner live slot lane
next_owns live slot lane firsts below are is owner =
    let mine : distance slot (point_of lane owner.number) ≡ distance (slot + 1) (point_of lane owner.number) + 2 ^ 58 =
    farther slot _ below (point_below lane owner.number) (off live slot firsts below are is lane owner.number owner.is_live owner.below) in
    let other : (l n : ℕ) → Contains live l → n < 16 → distance slot (point_of l n) ≡ distance (slot + 1) (point_of l n) + 2 ^ 58 =
    λ l n h b. farther slot _ below (point_below l n) (off live slot firsts below are is l n h b) in
    record {
      is_live = owner.is_live;
      number = owner.number;
      below = owner.below;
      first = record {
        nearest = λ l n h b. let e = other l n h b in let o = owner.first.nearest l n h b in omega (arith, mine, e, o);
        lowest = λ l n h b same. let e = other l n h b in owner.first.lowest l n h b (omega (arith, mine, e, same));
      };
    }

-- the first point of the lowest arc that has one is the lowest of all
low_split : (live : List ℕ) (arc : ℕ) (firsts : List (Option Point)) (p : Point) → AreFirsts live (16 * length live) firsts
    → ((a : ℕ) → a < arc → slice_index_or firsts a None ≡ None) → arc < 64 → IsLowest live (16 * length live) arc p
    → (n : ℕ) → n < 16 * length live → (b : Bool) → nat_lt (arc_of (nth_point live n)) arc ≡ b → (e : Bool) → nat_eq (arc_of (nth_point live n)) arc ≡ e → IsLower p (nth_point live n)
low_split live arc firsts p are none below low n h true lt e is =
    let l : arc_of (nth_point live n) < arc = ltb-true _ _ lt in
    absurd (known live (16 * length live) (arc_of (nth_point live n)) firsts None (omega arith) are (none _ l) n h refl)
low_split live arc firsts p are none below low n h false ge true is = low.lowest n h (grind (arith, nat_tests))
low_split live arc firsts p are none below low n h false ge false ne =
    let gt : arc < arc_of (nth_point live n) = grind (arith, nat_tests) in
    let there : p.at / 2 ^ 58 ≡ arc = low.there in
    record { at = omega (arith, gt, there); lane = λ same. absurd (omega (arith, gt, there, same)) }

-- a slot past all points goes to the lane of the lowest point of all
pub lowest_owns : (live : List ℕ) (arc : ℕ) (firsts : List (Option Point)) (p : Point) → AreFirsts live (16 * length live) firsts
    → ((a : ℕ) → a < arc → slice_index_or firsts a None ≡ None) → arc < 64 → slice_index_or firsts arc None ≡ Some p → IsOwner live 64 p.lane
lowest_owns live arc firsts p are none below is =
    let low : IsLowest live (16 * length live) arc p = known live (16 * length live) arc firsts (Some p) below are is in
    let all : (n : ℕ) → n < 16 * length live → IsLower p (nth_point live n) = λ n h. low_split live arc firsts p are none below low n h _ refl _ refl in
    let mine : distance 64 p.at ≡ p.at = from_start p.at (first_below live (16 * length live) arc p low) in
    nearest_owns live 64 p (record {
      number = low.number;
      counted = low.counted;
      same = low.same;
      nearest = λ n h. let e = from_start (nth_point live n).at (nth_below live n) in let a = (all n h).at in omega (arith, mine, e, a);
      lowest = λ n h same. let e = from_start (nth_point live n).at (nth_below live n) in (all n h).lane (omega (arith, mine, e, same));
    })

filled : (live : List ℕ) → live ≢ [] → 0 < length live
filled [] some = absurd (some refl)
filled (l ∷ ls) some = omega arith

-- where a lane is live some arc has a first point
pub some_first : (live : List ℕ) (firsts : List (Option Point)) → live ≢ [] → AreFirsts live (16 * length live) firsts → ((a : ℕ) → a < 64 → slice_index_or firsts a None ≡ None) → ⊥
some_first live firsts some are none =
    let h : 0 < 16 * length live = let l = filled live some in omega (arith, l) in
    let below : arc_of (nth_point live 0) < 64 = let l = nth_below live 0 in omega (arith, l) in
    known live (16 * length live) (arc_of (nth_point live 0)) firsts None below are (none _ below) 0 h refl

-- where none is live no arc has one
pub no_first : (firsts : List (Option Point)) (slot : ℕ) (p : Point) → slot < 64 → AreFirsts [] 0 firsts → slice_index_or firsts slot None ≡ Some p → ⊥
no_first firsts slot p below are is = let low = known [] 0 slot firsts (Some p) below are is in omega (arith, low.counted)

-- from the last slot down to this one each slot has its owner, and the lane is the owner of this one; where no lane is
-- live, all are 0
pub record IsSwept (live slots : List ℕ) (lane slot : ℕ) : Type 0 where
  pub all : length slots ≡ 64
  pub owner : live ≢ [] → IsOwner live slot lane
  pub owners : live ≢ [] → (s : ℕ) → slot ≤ s → s < 64 → IsOwner live s (slice_index slots s)
  pub none : live ≡ [] → lane ≡ 0
  pub zeros : live ≡ [] → (s : ℕ) → slice_index slots s ≡ 0

next_lane : (live : List ℕ) (firsts : List (Option Point)) (lane slot : ℕ) (first : Option Point) → slot < 64 → AreFirsts live (16 * length live) firsts
    → slice_index_or firsts slot None ≡ first → IsOwner live (slot + 1) lane → IsOwner live slot (option_map_or (λ (p : Point). p.lane) first lane)
next_lane live firsts lane slot None below are is owner = next_owns live slot lane firsts below are is owner
next_lane live firsts lane slot (Some p) below are is owner = arc_owns live slot firsts p below are is

no_lane : (live : List ℕ) (firsts : List (Option Point)) (lane slot : ℕ) (first : Option Point) → slot < 64 → AreFirsts live (16 * length live) firsts
    → slice_index_or firsts slot None ≡ first → live ≡ [] → lane ≡ 0 → option_map_or (λ (p : Point). p.lane) first lane ≡ 0
no_lane live firsts lane slot None below are is none zero = zero
no_lane live firsts lane slot (Some p) below are is none zero =
    absurd (no_first firsts slot p below (subst (λ l. AreFirsts l (16 * length l) firsts) none are) is)

set_at : (slots : List ℕ) (slot v s : ℕ) (P : ℕ → ℕ → Type 0) → slot < length slots → P slot v → (s ≢ slot → P s (slice_index slots s)) → (s ≡ slot) ⊎ (s ≢ slot)
    → P s (slice_index (slice_set slots slot v) s)
set_at slots slot v s P within here there (inl same) =
    subst (λ k. P k (slice_index (slice_set slots slot v) k)) (sym same) (subst (λ x. P slot x) (sym (get_or-set_same slots slot v 0 within)) here)
set_at slots slot v s P within here there (inr other) = subst (λ x. P s x) (sym (get_or-set_other slots slot s v 0 other)) (there other)

pub swept_more : (live slots : List ℕ) (firsts : List (Option Point)) (lane slot : ℕ) → slot < 64 → AreFirsts live (16 * length live) firsts
    → IsSwept live slots lane (slot + 1) → let next = option_map_or (λ (p : Point). p.lane) (slice_index_or firsts slot None) lane in IsSwept live (slice_set slots slot next) next slot
swept_more live slots firsts lane slot below are swept =
    let within : slot < length slots = omega (arith, below, swept.all) in
    let mine : live ≢ [] → IsOwner live slot (option_map_or (λ (p : Point). p.lane) (slice_index_or firsts slot None) lane) =
    λ some. next_lane live firsts lane slot (slice_index_or firsts slot None) below are refl (swept.owner some) in
    let zero : live ≡ [] → option_map_or (λ (p : Point). p.lane) (slice_index_or firsts slot None) lane ≡ 0 = λ none. no_lane live firsts lane slot (slice_index_or firsts slot None) below are refl none (swept.none none) in
    record {
      all = simp length-set swept.all;
      owner = mine;
      owners = λ some s from to. set_at slots slot _ s (λ k x. IsOwner live k x) within (mine some) (λ other. swept.owners some s (omega (arith, other, from)) to) (cases_eq s slot);
      none = zero;
      zeros = λ none s. set_at slots slot _ s (λ k x. x ≡ 0) within (zero none) (λ _. swept.zeros none s) (cases_eq s slot);
    }

zero_at : (s : ℕ) → (s < 64) ⊎ (64 ≤ s) → slice_index (replicate 64 0) s ≡ 0
zero_at s (inl below) = get_or-replicate 64 s 0 0 below
zero_at s (inr past) = get_or-eq_default (replicate 64 0) 0 past

-- before the first slot: past the last one lies the owner of a slot past all points
pub swept_none : (live : List ℕ) (lane : ℕ) → (live ≢ [] → IsOwner live 64 lane) → (live ≡ [] → lane ≡ 0) → IsSwept live (replicate 64 0) lane 64
swept_none live lane owner none = record {
  all = length-replicate {A = ℕ} 64 0;
  owner = owner;
  owners = λ some s from to. absurd (omega (arith, from, to));
  none = none;
  zeros = λ _ s. zero_at s (cases_lt s 64);
}
