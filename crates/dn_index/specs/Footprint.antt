use Rattle.std.specs.Prelude.{◌≡◌, ◌⊎◌, ℕ, ◌%◌, ◌<◌, ◌≤◌}
use Rattle.dn_word.specs.Regions.{segments_at, overflow_counter_at}
use Rattle.dn_act.specs.declared.actions.Action.{Action}
use Rattle.dn_act.specs.declared.actions.Action.TheVariants.{Load, Store, Cas, Or, Add}
use Rattle.dn_model.specs.Regions.{bucket_at}
use Rattle.dn_index.specs.Walk.{Walking}
use Rattle.dn_index.specs.declared.places.Errand.{Errand}
use Rattle.dn_index.specs.declared.places.Errand.TheVariants.{Find, Set, Remove}
use Rattle.dn_index.specs.declared.places.WalkPlace.{WalkPlace}
use Rattle.dn_index.specs.declared.places.WalkPlace.TheVariants.{Key, Next, Match, Counter, Claim, FillPlace, FillKey, Link}
use Rattle.dn_index.specs.declared.places.Step.{Step}
use Rattle.dn_index.specs.declared.places.Step.TheVariants.{On, End}

-- Which words a walk acts on, and how.

-- what a walk is for, wherever it is
pub data Purpose : Type 0 where
  Finds : Purpose
  Sets : Purpose
  Removes : Purpose

abbrev pub purpose_of : Errand → Purpose
purpose_of Find = Finds
purpose_of (Set at) = Sets
purpose_of Remove = Removes

abbrev pub purpose_at : WalkPlace → Purpose
purpose_at (Key errand t number) = purpose_of errand
purpose_at (Next errand t) = purpose_of errand
purpose_at (Match errand s) = purpose_of errand
purpose_at (Counter at last) = Sets
purpose_at (Claim at last) = Sets
purpose_at (FillPlace at s from) = Sets
purpose_at (FillKey s from) = Sets
purpose_at (Link last new) = Sets

abbrev pub purpose : Walking → Purpose
purpose w = purpose_at w.place

-- a step that goes on is one of a walk for the same
abbrev pub StaysOn : Purpose → Step → Type 0
StaysOn p (On place) = purpose_at place ≡ p
StaysOn p (End turn) = Unit {0}

-- the word of the pool is one of a bucket; the first bucket, as each, begins at a multiple of its 8 words
abbrev pub IsOfBucket : ℕ → Type 0
IsOfBucket at = (bucket_at 0 0 ≤ at) × (at < segments_at)

-- words 1 to 3 of a bucket are its keys, 4 to 6 their places, and 7 names the next bucket
abbrev pub IsKeyWord : ℕ → Type 0
IsKeyWord at = IsOfBucket at × (1 ≤ at % 8) × (at % 8 ≤ 3)

abbrev pub IsPlaceWord : ℕ → Type 0
IsPlaceWord at = IsOfBucket at × (4 ≤ at % 8) × (at % 8 ≤ 6)

abbrev pub IsNextWord : ℕ → Type 0
IsNextWord at = IsOfBucket at × (at % 8 ≡ 7)

-- to set a key a walk stores that key for a key word, a place, or the number of the bucket that it links
abbrev pub SetsWord : ℕ → ℕ → ℕ → Type 0
SetsWord key at word = (IsKeyWord at × (word ≡ key)) ⊎ (IsPlaceWord at ⊎ (IsNextWord at × (word < 8192)))

-- What a walk with this key does: to find the key it loads words of buckets. To set it, it loads words of buckets and the overflow
-- counter, stores words of buckets, and adds 1 to that counter. To remove it, it loads words of buckets and stores 0 for a key word.
abbrev pub Footprint : Purpose → ℕ → Action → Type 0
Footprint Finds key (Load at) = IsOfBucket at
Footprint Finds key (Store at word) = ⊥
Footprint Finds key (Cas at old new) = ⊥
Footprint Finds key (Or at bits) = ⊥
Footprint Finds key (Add at by) = ⊥
Footprint Sets key (Load at) = (at ≡ overflow_counter_at) ⊎ IsOfBucket at
Footprint Sets key (Store at word) = SetsWord key at word
Footprint Sets key (Cas at old new) = ⊥
Footprint Sets key (Or at bits) = ⊥
Footprint Sets key (Add at by) = (at ≡ overflow_counter_at) × (by ≡ 1)
Footprint Removes key (Load at) = IsOfBucket at
Footprint Removes key (Store at word) = IsKeyWord at × (word ≡ 0)
Footprint Removes key (Cas at old new) = ⊥
Footprint Removes key (Or at bits) = ⊥
Footprint Removes key (Add at by) = ⊥
