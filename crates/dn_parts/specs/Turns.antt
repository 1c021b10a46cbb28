use Rattle.std.specs.Prelude.{◌≡◌, ◌⊎◌, ◌<◌, ◌≤◌, ℕ, ◌+◌, true, List, Some, None}
use Rattle.dn_word.specs.Gate.{gate_of}
use Rattle.dn_word.specs.Ref.{ref_word}
use Rattle.dn_record.specs.Record.{length_in_words, head_of}
use Rattle.dn_record.specs.declared.records.Record.TheVariants.{Delete}
use Rattle.dn_model.specs.Regions.{gate, mark, place}
use Rattle.dn_model.specs.Held.{is_authority}
use Rattle.dn_model.specs.declared.logs.Placed.{Placed}
use Rattle.dn_index.specs.Walk.{Walking}
use Rattle.dn_merge.specs.Merge.{Merging, change_of}
use Rattle.dn_merge.specs.declared.places.Change.{Change}
use Rattle.dn_merge.specs.declared.places.MergePlace.{MergePlace}
use Rattle.dn_merge.specs.declared.places.MergePlace.TheVariants.{Gate, Mark, Directory, Header, Key, Walk, Pass}
use Rattle.dn_machine.specs.State.{Machine}
use Rattle.dn_parts.specs.Sealed.{IsSealed, GivesAt}
use Rattle.dn_parts.specs.Walking.{HasWalked}

-- What a merger knows at the places of its turn: mark, header and key of the record that it merges.

-- this record stands at lane n's mark, which it has loaded
pub record Merges (words : List ℕ) (n at : ℕ) (p : Placed) : Type 0 where
  pub sealed : IsSealed words n p
  pub offset : p.offset ≡ at
  pub is_mark : mark words n ≡ at

pub record AtDirectory (words : List ℕ) (n at : ℕ) : Type 0 where
  pub p : Placed
  pub merges : Merges words n at p

pub record AtHeader (words : List ℕ) (n at from : ℕ) : Type 0 where
  pub p : Placed
  pub merges : Merges words n at p
  pub begins : from ≡ place words n at

pub record AtKey (words : List ℕ) (n at from to : ℕ) (change : Change) : Type 0 where
  pub p : Placed
  pub merges : Merges words n at p
  pub begins : from ≡ place words n at
  pub ends : to ≡ at + length_in_words p.entry
  pub changes : change_of (head_of p.entry) ≡ Some change

-- it walks to set or remove the key of the record
pub record AtWalk (words : List ℕ) (n to : ℕ) (w : Walking) : Type 0 where
  pub p : Placed
  pub merges : Merges words n p.offset p
  pub ends : to ≡ p.offset + length_in_words p.entry
  pub authority : is_authority w.key p.entry ≡ true
  pub walked : HasWalked words w

-- the index follows the record: it gives its place for its key, or nothing for that of a Delete
abbrev pub IsFollowed : List ℕ → ℕ → ℕ → Placed → Type 0
IsFollowed words n k p = GivesAt words k (Some (ref_word (record { lane = n; offset = p.offset })))
    ⊎ (GivesAt words k None × (p.entry ≡ Delete k))

-- it is about to store its mark, past the record
pub record AtPass (words : List ℕ) (n to : ℕ) : Type 0 where
  pub p : Placed
  pub merges : Merges words n p.offset p
  pub ends : to ≡ p.offset + length_in_words p.entry
  pub followed : (k : ℕ) → 0 < k → is_authority k p.entry ≡ true → IsFollowed words n k p

abbrev pub IsTurnAt : List ℕ → ℕ → MergePlace → Type 0
IsTurnAt words n Gate = Unit {0}
IsTurnAt words n (Mark word) = (mark words n ≤ (gate_of word).len) × ((gate_of word).len ≤ (gate words n).len)
IsTurnAt words n (Directory at) = AtDirectory words n at
IsTurnAt words n (Header at from) = AtHeader words n at from
IsTurnAt words n (Key at from to change) = AtKey words n at from to change
IsTurnAt words n (Walk to w) = AtWalk words n to w
IsTurnAt words n (Pass to) = AtPass words n to

pub record KnowTurns (m : Machine) : Type 0 where
  pub each : (n : ℕ) (x : Merging) → m.mergers n ≡ Some x → IsTurnAt m.words n x.place
