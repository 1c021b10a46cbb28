use Rattle.std.specs.Prelude.{◌≡◌, ◌≢◌, ℕ, ◌+◌, ◌<◌, List, ◌∷◌, Contains, Option, Some, None}
use Rattle.dn_model.specs.Regions.{bucket, home_of}

-- Where keys stand in the buckets. The chain of a home bucket is that bucket with its overflow buckets.

-- bucket b is in the chain of a home bucket
abbrev pub InChain : (ℕ → List ℕ) → ℕ → ℕ → Type 0
InChain chains home b = Contains (home ∷ chains home) b

-- place i of bucket b, of the three that it has, is one of the chain in which a key belongs
pub record IsPlaceOf (chains : ℕ → List ℕ) (k b i : ℕ) : Type 0 where
  pub has : InChain chains (home_of k) b
  pub three : i < 3

-- the key stands at one place of its chain alone, with this place word beside it
pub record StandsOnce (words : List ℕ) (chains : ℕ → List ℕ) (k p : ℕ) : Type 0 where
  pub b : ℕ
  pub i : ℕ
  pub place : IsPlaceOf chains k b i
  pub key : bucket words b (i + 1) ≡ k
  pub word : bucket words b (i + 4) ≡ p
  pub only : (c j : ℕ) → IsPlaceOf chains k c j → bucket words c (j + 1) ≡ k → (c ≡ b) × (j ≡ i)

-- what the places of its chain say of a key: it stands at none of them, or once
abbrev pub Stands : List ℕ → (ℕ → List ℕ) → ℕ → Option ℕ → Type 0
Stands words chains k None = (b i : ℕ) → IsPlaceOf chains k b i → bucket words b (i + 1) ≢ k
Stands words chains k (Some p) = StandsOnce words chains k p

-- The index. No two chains share a bucket; a key stands in its own chain alone, at most once.
pub record IsIndexed (words : List ℕ) (chains : ℕ → List ℕ) (index : ℕ → Option ℕ) : Type 0 where
  pub below : (home b : ℕ) → home < 4096 → InChain chains home b → b < 8192
  pub apart : (g h b : ℕ) → g < 4096 → h < 4096 → InChain chains g b → InChain chains h b → g ≡ h
  pub homed : (h b i : ℕ) → h < 4096 → InChain chains h b → i < 3 → 0 < bucket words b (i + 1)
      → home_of (bucket words b (i + 1)) ≡ h
  pub stands : (k : ℕ) → 0 < k → Stands words chains k (index k)
