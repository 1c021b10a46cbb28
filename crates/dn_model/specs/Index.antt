use Rattle.std.specs.Prelude.{◌≡◌, ℕ, ◌<◌, ◌≤◌, List, [], ◌∷◌, ◌++◌, Option, Some, None, nat_eq, length, if◌then◌else◌}
use Rattle.dn_model.specs.Regions.{bucket, home_of}

-- a place of a bucket: a key, or 0 where it is free, and the place word beside it
pub record Slot : Type 0 where
  pub key : ℕ
  pub place : ℕ

-- the three places of a bucket
abbrev pub slots_of : List ℕ → ℕ → List Slot
slots_of words b =
    record { key = bucket words b 1; place = bucket words b 4 }
    ∷ record { key = bucket words b 2; place = bucket words b 5 }
    ∷ record { key = bucket words b 3; place = bucket words b 6 }
    ∷ []

-- the places of these buckets in turn
abbrev pub slots : List ℕ → List ℕ → List Slot
slots words [] = []
slots words (b ∷ bs) = slots_of words b ++ slots words bs

-- the place word of the first place with this key
abbrev pub first_place : ℕ → List Slot → Option ℕ
first_place k [] = None
first_place k (s ∷ ss) = if nat_eq s.key k then Some s.place else first_place k ss

-- from bucket b the next words lead along these overflow buckets and then end
abbrev pub Leads : List ℕ → ℕ → List ℕ → Type 0
Leads words b [] = bucket words b 7 ≡ 0
Leads words b (c ∷ cs) = (bucket words b 7 ≡ c) × (4096 ≤ c) × (c < 8192) × Leads words c cs

-- the chain of a home bucket has these overflow buckets, of which the pool has 4,096
pub record IsChain (words : List ℕ) (home : ℕ) (overflow : List ℕ) : Type 0 where
  pub leads : Leads words home overflow
  pub few : length overflow ≤ 4096

-- the index gives this place word for a key, where these are the overflow buckets of its home bucket
abbrev pub index : List ℕ → List ℕ → ℕ → Option ℕ
index words overflow k = first_place k (slots words (home_of k ∷ overflow))

-- the home bucket has no chain that ends
abbrev pub NoChain : List ℕ → ℕ → Type 0
NoChain words home = (overflow : List ℕ) → IsChain words home overflow → ⊥
