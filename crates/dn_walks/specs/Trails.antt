use Rattle.std.specs.Prelude.{◌≡◌, ◌≢◌, ℕ, ◌+◌, ◌<◌, ◌≤◌, List, ◌∷◌, ◌++◌, length, Contains, Option, Some, None}
use Rattle.dn_model.specs.Regions.{bucket, home_of}
use Rattle.dn_index.specs.declared.places.Spot.{Spot}
use Rattle.dn_index.specs.declared.places.Trail.{Trail}
use Rattle.dn_store.specs.Standing.{IsPlaceOf}

-- What any walk for a key knows of the chain in which that belongs.

-- it has come along the chain to this bucket, and up to this place of it the key stands nowhere
pub record Tracks (words : List ℕ) (chains : ℕ → List ℕ) (k : ℕ) (t : Trail) (number : ℕ) : Type 0 where
  pub positive : 1 ≤ number
  pub front : List ℕ
  pub rest : List ℕ
  pub split : home_of k ∷ chains (home_of k) ≡ front ++ t.bucket ∷ rest
  pub behind : (c i : ℕ) → Contains front c → i < 3 → bucket words c (i + 1) ≢ k
  pub here : (i : ℕ) → i < 3 → i + 1 < number → bucket words t.bucket (i + 1) ≢ k
  pub left : length front + t.left ≡ 4096

-- a place of that chain
pub record IsSpotOf (chains : ℕ → List ℕ) (k : ℕ) (s : Spot) : Type 0 where
  pub i : ℕ
  pub number : s.number ≡ i + 1
  pub place : IsPlaceOf chains k s.bucket i

-- the place of the key
pub record IsMet (words : List ℕ) (chains : ℕ → List ℕ) (k : ℕ) (s : Spot) : Type 0 where
  pub spot : IsSpotOf chains k s
  pub key : bucket words s.bucket s.number ≡ k

-- a free place
pub record IsFree (words : List ℕ) (chains : ℕ → List ℕ) (k : ℕ) (s : Spot) : Type 0 where
  pub spot : IsSpotOf chains k s
  pub free : bucket words s.bucket s.number ≡ 0

abbrev pub MayBeFree : List ℕ → (ℕ → List ℕ) → ℕ → Option Spot → Type 0
MayBeFree words chains k None = Unit {0}
MayBeFree words chains k (Some s) = IsFree words chains k s
