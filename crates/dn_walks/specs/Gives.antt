use Rattle.std.specs.Prelude.{◌≡◌, ◌≢◌, ◌⊎◌, ℕ, ◌≤◌, List, Option, Some, None}
use Rattle.dn_word.specs.Regions.{overflow_counter_at}
use Rattle.dn_word.specs.Ref.{ref_of, ref_word}
use Rattle.dn_word.specs.declared.packed.place.Ref.{Ref}
use Rattle.dn_act.specs.Words.{word_at}
use Rattle.dn_index.specs.Walk.{found}
use Rattle.dn_index.specs.declared.places.WalkTurn.{WalkTurn}
use Rattle.dn_index.specs.declared.places.WalkTurn.TheVariants.{More, Found, Absent, Written, IndexFull}
use Rattle.dn_store.specs.State.{StoreState}
use Rattle.dn_store.specs.Represents.{Represents}

-- What find, set and remove come to over words that nobody else writes, and that represent a store.

-- what find answers where the index gives this
abbrev pub told : Option ℕ → WalkTurn
told None = Absent
told (Some word) = found (ref_of word)

-- the words represent that store, but for its index: this gives key k this place word or none, and every other key what
-- it was given
pub record Gives (s : StoreState) (k : ℕ) (place : Option ℕ) (now : List ℕ) : Type 0 where
  pub chains : ℕ → List ℕ
  pub index : ℕ → Option ℕ
  pub bucket_count : ℕ
  pub takers : ℕ → ℕ
  pub represents : Represents now chains (record s { index = index; bucket_count = bucket_count; takers = takers })
  pub own : index k ≡ place
  pub others : (q : ℕ) → q ≢ k → index q ≡ s.index q

-- at each moment it gives the key what it was given, or what it is to be given
abbrev pub IsBetween : StoreState → ℕ → Option ℕ → List ℕ → Type 0
IsBetween s k want now = Gives s k (s.index k) now ⊎ Gives s k want now

-- the overflow counter that was read is at its limit; the words are what they were, and the key is given none
pub record IsFullIndex (words : List ℕ) (s : StoreState) (k : ℕ) (now : List ℕ) (counter : ℕ) : Type 0 where
  pub read : counter ≡ word_at words overflow_counter_at
  pub limit : 4096 ≤ counter
  pub stays : now ≡ words
  pub absent : s.index k ≡ None

-- set ends with the key at its place, or where the index is full
abbrev pub SetEnds : List ℕ → StoreState → ℕ → Ref → List ℕ → WalkTurn → Type 0
SetEnds words s k at now More = ⊥
SetEnds words s k at now (Found place) = ⊥
SetEnds words s k at now Absent = ⊥
SetEnds words s k at now Written = Gives s k (Some (ref_word at)) now
SetEnds words s k at now (IndexFull counter) = IsFullIndex words s k now counter

-- remove ends without the key
pub record RemoveEnds (s : StoreState) (k : ℕ) (now : List ℕ) (answer : WalkTurn) : Type 0 where
  pub is : answer ≡ Written
  pub none : Gives s k None now
