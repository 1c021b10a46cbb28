use Rattle.std.specs.Prelude.{◌≡◌, ◌≢◌, ◌<◌, ◌≤◌, ℕ, ◌+◌, List, Contains, Option, Some, None}
use Rattle.dn_word.specs.Regions.{overflow_counter_at}
use Rattle.dn_act.specs.Words.{word_at}
use Rattle.dn_model.specs.Regions.{bucket, home_of}
use Rattle.dn_model.specs.Index.{IsChain}
use Rattle.dn_store.specs.Standing.{InChain, IsPlaceOf}
use Rattle.dn_store.specs.Overflow.{Rise}
use Rattle.dn_index.specs.declared.places.WalkPlace.{WalkPlace}
use Rattle.dn_index.specs.declared.places.WalkPlace.TheVariants.{Key, Next, Match, Counter, Claim, FillPlace, FillKey, Link}
use Rattle.dn_index.specs.declared.places.Spot.{Spot}
use Rattle.dn_merge.specs.Merge.{Merging}
use Rattle.dn_merge.specs.declared.places.MergePlace.{MergePlace}
use Rattle.dn_merge.specs.declared.places.MergePlace.TheVariants.{Gate, Mark, Directory, Header, Key as KeyOf, Walk, Pass}
use Rattle.dn_machine.specs.State.{Machine}
use Rattle.dn_parts.specs.Sealed.{LeadsTo}

-- The index, as a reader of the words finds it.

-- key k stands at place i of bucket b, in its own chain
pub record StandsAt (words : List ℕ) (chains : ℕ → List ℕ) (k b i : ℕ) : Type 0 where
  pub place : IsPlaceOf chains k b i
  pub key : bucket words b (i + 1) ≡ k

-- ---- the overflow bucket that a merger has claimed in its turn and not yet linked
-- a place of a new bucket is filled to be linked behind a last one
abbrev pub new_from : Spot → Option ℕ → Option ℕ
new_from s None = None
new_from s (Some last) = Some s.bucket

abbrev pub new_at : WalkPlace → Option ℕ
new_at (Key errand t number) = None
new_at (Next errand t) = None
new_at (Match errand s) = None
new_at (Counter at last) = None
new_at (Claim at last) = None
new_at (FillPlace at s from) = new_from s from
new_at (FillKey s from) = new_from s from
new_at (Link last new) = Some new

abbrev pub new_in : MergePlace → Option ℕ
new_in Gate = None
new_in (Mark gate) = None
new_in (Directory mark) = None
new_in (Header mark from) = None
new_in (KeyOf mark from to change) = None
new_in (Walk to w) = new_at w.place
new_in (Pass to) = None

abbrev pub new_of : Option Merging → Option ℕ
new_of None = None
new_of (Some x) = new_in x.place

-- it is in no chain, and zeros but for its first key and place
pub record IsNew (words : List ℕ) (chains : ℕ → List ℕ) (c : ℕ) : Type 0 where
  pub least : 4096 ≤ c
  pub most : c < 8192
  pub claimed : c < 4096 + word_at words overflow_counter_at
  pub loose : (home : ℕ) → home < 4096 → Contains (chains home) c → ⊥
  pub zeros : (i : ℕ) → i < 8 → i ≢ 1 → i ≢ 4 → bucket words c i ≡ 0

-- ---- all of it
pub record HasIndex (m : Machine) : Type 0 where
  -- the overflow buckets to which the next words lead from each home bucket: no chain is a circle
  pub chains : ℕ → List ℕ
  pub leads : (home : ℕ) → home < 4096 → IsChain m.words home (chains home)
  pub rise : (home : ℕ) → home < 4096 → Rise 4096 (chains home)
  -- no two share a bucket
  pub apart : (g h b : ℕ) → g < 4096 → h < 4096 → InChain chains g b → InChain chains h b → g ≡ h
  -- overflow buckets were claimed before they were linked, and those that weren't are zeros
  pub claimed : (home c : ℕ) → home < 4096 → Contains (chains home) c → c < 4096 + word_at m.words overflow_counter_at
  pub untouched : (c i : ℕ) → 4096 + word_at m.words overflow_counter_at ≤ c → c < 8192 → i < 8
      → bucket m.words c i ≡ 0
  -- each merger's new one is its own
  pub new : (n c : ℕ) → new_of (m.mergers n) ≡ Some c → IsNew m.words chains c
  pub own : (n k c : ℕ) → new_of (m.mergers n) ≡ Some c → new_of (m.mergers k) ≡ Some c → n ≡ k
  -- keys stand in their own chains, at most once, each with the place of a sealed record of it
  pub homed : (home b i : ℕ) → home < 4096 → InChain chains home b → i < 3 → 0 < bucket m.words b (i + 1)
      → home_of (bucket m.words b (i + 1)) ≡ home
  pub once : (k b i c j : ℕ) → 0 < k → StandsAt m.words chains k b i → StandsAt m.words chains k c j
      → (b ≡ c) × (i ≡ j)
  pub places : (k b i : ℕ) → 0 < k → StandsAt m.words chains k b i → LeadsTo m.words k (bucket m.words b (i + 4))
