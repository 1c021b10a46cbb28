use Rattle.std.proofs.Common.{ℕ, ◌+◌, ◌-◌, ◌==◌, ◌<◌, ◌≤◌, ◌≡◌, ◌⊎◌, inl, inr, Bool, true, false, nat_lt, if◌then◌else◌, Option, Some, None, refl, ap, arith}
use Rattle.std.proofs.lemmas.Bool.Decides.{nat_tests}
use Rattle.dn_word.specs.Gate.{gate_of}
use Rattle.dn_word.specs.declared.packed.place.Ref.{Ref}
use Rattle.dn_act.specs.Action.{at_of}
use Rattle.dn_record.specs.Reading.{head_in}
use Rattle.dn_record.specs.Head.{head_words}
use Rattle.dn_record.specs.declared.heads.Head.{Head}
use Rattle.dn_index.specs.declared.places.Spot.{Spot}
use Rattle.dn_index.specs.declared.places.Trail.{Trail}
use Rattle.dn_index.specs.declared.places.Errand.{Errand}
use Rattle.dn_index.specs.declared.places.Errand.TheVariants.{Find, Set, Remove}
use Rattle.dn_index.specs.declared.places.WalkPlace.{WalkPlace}
use Rattle.dn_index.specs.declared.places.WalkPlace.TheVariants.{Key, Next, Match, Counter, Claim, FillPlace, FillKey, Link}
use Rattle.dn_index.specs.declared.places.WalkTurn.TheVariants as turn
use Rattle.dn_index.specs.declared.places.Step.{Step}
use Rattle.dn_index.specs.declared.places.Step.TheVariants.{On, End}
use Rattle.dn_index.specs.Walk.{Walking, spot, trail, next_at, noted, past, filling, at_end, names_bucket, onward, step_at, turn_of, after_of}
use Rattle.dn_store.specs.State.{with_at}
use Rattle.dn_store.proofs.At.{at_same, at_other}
use Rattle.dn_beside.specs.Pool.{Pool}
use Rattle.dn_walks.specs.Changing.{KnowsStep, asks_at}
use Rattle.dn_merge.specs.Merge.{Merging, change_of, ended, on, by_change, headed, walked, step_in}
use Rattle.dn_merge.specs.declared.places.Change.{Change}
use Rattle.dn_merge.specs.declared.places.MergePlace.{MergePlace}
use Rattle.dn_merge.specs.declared.places.MergePlace.TheVariants as at
use Rattle.dn_merge.specs.declared.mergers.MergeTurn.TheVariants.{Idle}
use Rattle.dn_turns.specs.Claims.{asks_in, asks, asking}
use Rattle.dn_turns.proofs.Loads.{Loads}
use Rattle.dn_turns.proofs.Sums.{sum_most, sum_changes}

-- How many mergers are at their add.

walk_asks : (p : WalkPlace) → asks_at p ≤ 1
walk_asks (Key errand t number) = omega arith
walk_asks (Next errand t) = omega arith
walk_asks (Match errand s) = omega arith
walk_asks (Counter at last) = omega arith
walk_asks (Claim at last) = omega arith
walk_asks (FillPlace at s from) = omega arith
walk_asks (FillKey s from) = omega arith
walk_asks (Link last new) = omega arith

place_asks : (p : MergePlace) → asks_in p ≤ 1
place_asks at.Gate = omega arith
place_asks (at.Mark gate) = omega arith
place_asks (at.Directory mark) = omega arith
place_asks (at.Header mark from) = omega arith
place_asks (at.Key mark from to change) = omega arith
place_asks (at.Walk to w) = walk_asks w.place
place_asks (at.Pass to) = omega arith

asks_most : (m : Option Merging) → asks m ≤ 1
asks_most None = omega arith
asks_most (Some m) = place_asks m.place

pub asking_most : (mergers : ℕ → Option Merging) → asking mergers ≤ 63
asking_most mergers = sum_most 63 (λ n. asks (mergers n)) (λ n. asks_most (mergers n))

pub asking_at : (mergers : ℕ → Option Merging) (n : ℕ) (v : Option Merging) → 0 < n → n < 64 → asking (with_at mergers n v) + asks (mergers n) ≡ asking mergers + asks v
asking_at mergers n v pos lt =
    let s = sum_changes 63 (λ i. asks (mergers i)) (λ i. asks (with_at mergers n v i)) n pos (omega (arith, lt)) (λ i d. ap asks (at_other mergers n v i d)) in
    let e = ap asks (at_same mergers n v n refl) in
    omega (arith, s, e)

-- ---- where a merger comes to its add: only from the load of the counter below its limit
abbrev pub step_asks : Step → ℕ
step_asks (On p) = asks_at p
step_asks (End t) = 0

if_asks : (b : Bool) (x y : Step) → step_asks x ≡ 0 → step_asks y ≡ 0 → step_asks (if b then x else y) ≡ 0
if_asks true x y e f = e
if_asks false x y e f = f

end_asks : (errand : Errand) (t : Trail) → step_asks (at_end errand t) ≡ 0
end_asks Find t = refl
end_asks (Set at) t = by_free t.free where
  by_free : (free : Option Spot) → step_asks (filling at t.bucket free) ≡ 0
  by_free None = refl
  by_free (Some s) = refl
end_asks Remove t = refl

pub record IsAsking (k : ℕ) (place : WalkPlace) (word : ℕ) : Type 0 where
  pub low : word < 4096
  pub at : at_of (next_at k place) ≡ 3
  pub before : asks_at place ≡ 0
  pub one : step_asks (step_at k place word) ≡ 1

counted_asks : (k : ℕ) (x : Ref) (last word : ℕ) (b : Bool) → nat_lt word 4096 ≡ b → (step_asks (step_at k (Counter x last) word) ≡ 0) ⊎ IsAsking k (Counter x last) word
counted_asks k x last word true e = inr (record {
  low = grind (arith, nat_tests);
  at = refl;
  before = refl;
  one = ap (λ (b : Bool). step_asks (if b then On (Claim x last) else End (turn.IndexFull word))) e;
})
counted_asks k x last word false e = inl (ap (λ (b : Bool). step_asks (if b then On (Claim x last) else End (turn.IndexFull word))) e)

pub few_asks : (k : ℕ) (place : WalkPlace) (word : ℕ) → (step_asks (step_at k place word) ≡ 0) ⊎ IsAsking k place word
few_asks k (Key errand t number) word = inl (if_asks (word == k) (On (Match errand (spot t.bucket number))) (past errand (noted t number word) number) refl
    (if_asks (number == 3) (On (Next errand (noted t number word))) (On (Key errand (noted t number word) (number + 1))) refl refl))
few_asks k (Next errand t) word = inl (if_asks (names_bucket word) (onward errand t word) (at_end errand t)
    (if_asks (t.left == 0) (at_end errand t) (On (Key errand (trail word (t.left - 1) t.free) 1)) (end_asks errand t) refl) (end_asks errand t))
few_asks k (Match Find s) word = inl refl
few_asks k (Match (Set at) s) word = inl refl
few_asks k (Match Remove s) word = inl refl
few_asks k (Counter at last) word = counted_asks k at last word (nat_lt word 4096) refl
few_asks k (Claim at last) word = inl (if_asks (nat_lt word 4096) (On (FillPlace at (spot (4096 + word) 1) (Some last))) (End (turn.IndexFull word)) refl refl)
few_asks k (FillPlace at s from) word = inl refl
few_asks k (FillKey s None) word = inl refl
few_asks k (FillKey s (Some last)) word = inl refl
few_asks k (Link last new) word = inl refl

pub walked_asks : (n k : ℕ) (want : Option ℕ) (p : Pool) (to : ℕ) (w : Walking) (st : Step) → KnowsStep n k want p st → asks_in (walked to (turn_of st) (after_of w st)).place ≡ step_asks st
walked_asks n k want p to w (On place) a = refl
walked_asks n k want p to w (End turn.More) a = absurd a
walked_asks n k want p to w (End (turn.Found at)) a = absurd a
walked_asks n k want p to w (End turn.Absent) a = absurd a
walked_asks n k want p to w (End turn.Written) a = refl
walked_asks n k want p to w (End (turn.IndexFull counter)) a = refl

-- a load before the walk asks for none
pub load_asks : (n word : ℕ) (place : MergePlace) → Loads place → asks_in (step_in n word place).place ≡ 0
load_asks n word at.Gate o = refl
load_asks n word (at.Mark gate) o = by_len ((gate_of gate).len == word) where
  by_len : (b : Bool) → asks_in (if b then ended (Idle gate word) else on (at.Directory word)).place ≡ 0
  by_len true = refl
  by_len false = refl
load_asks n word (at.Directory mark) o = refl
load_asks n word (at.Header mark from) o = by_head (head_in word) where
  by_change_of : (to : ℕ) (c : Option Change) → asks_in (by_change mark from to c).place ≡ 0
  by_change_of to None = refl
  by_change_of to (Some c) = refl

  by_head : (h : Option Head) → asks_in (headed mark from h).place ≡ 0
  by_head None = refl
  by_head (Some h) = by_change_of (mark + head_words h) (change_of h)
load_asks n word (at.Key mark from to change) o = refl
load_asks n word (at.Walk to w) o = absurd o
load_asks n word (at.Pass to) o = absurd o
