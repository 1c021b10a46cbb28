use Rattle.std.specs.Prelude.{◌≡◌, ℕ, true, List, Contains, Option, Some}
use Rattle.dn_word.specs.Ref.{ref_of}
use Rattle.dn_word.specs.declared.packed.place.Ref.{Ref}
use Rattle.dn_model.specs.Regions.{home_of, IsLane}
use Rattle.dn_model.specs.Log.{IsLog}
use Rattle.dn_model.specs.Index.{IsChain, index}
use Rattle.dn_model.specs.Held.{Reads, Says, is_authority, held}
use Rattle.dn_model.specs.declared.logs.Placed.{Placed}

-- What is sealed, as a reader of the words finds it.

-- this record stands in the sealed log of lane n
pub record IsSealed (words : List ℕ) (n : ℕ) (p : Placed) : Type 0 where
  pub lane : IsLane n
  pub log : List Placed
  pub is : IsLog words n log
  pub has : Contains log p

-- and is an authority record of key k
pub record IsSealedOf (words : List ℕ) (n k : ℕ) (p : Placed) : Type 0 where
  pub sealed : IsSealed words n p
  pub authority : is_authority k p.entry ≡ true

-- a place word names such a record of key k
pub record LeadsTo (words : List ℕ) (k word : ℕ) : Type 0 where
  pub at : Ref
  pub names : ref_of word ≡ Some at
  pub p : Placed
  pub offset : p.offset ≡ at.offset
  pub of : IsSealedOf words at.lane k p

-- ---- what the index gives for key k, and what is held there
pub record GivesAt (words : List ℕ) (k : ℕ) (place : Option ℕ) : Type 0 where
  pub overflow : List ℕ
  pub chain : IsChain words (home_of k) overflow
  pub is : index words overflow k ≡ place

pub record HoldsAt (words : List ℕ) (k : ℕ) (value : Option (List ℕ)) : Type 0 where
  pub logs : ℕ → List Placed
  pub chains : ℕ → List ℕ
  pub reads : Reads words logs chains
  pub is : held words logs chains k ≡ Says value
