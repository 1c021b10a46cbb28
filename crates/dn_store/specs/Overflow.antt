use Rattle.std.specs.Prelude.{◌≡◌, ◌≢◌, ◌≤◌, ◌<◌, ℕ, ◌+◌, List, [], ◌∷◌, ◌++◌, Contains, Option, None}
use Rattle.dn_model.specs.Regions.{bucket, home_of}
use Rattle.dn_store.specs.State.{with_at}
use Rattle.dn_store.specs.Standing.{InChain}

-- these numbers rise, from one that is at least this
abbrev pub Rise : ℕ → List ℕ → Type 0
Rise low [] = Unit {0}
Rise low (c ∷ cs) = (low ≤ c) × Rise (c + 1) cs

-- Overflow buckets. Those of a chain were claimed one after the other, so their numbers rise and the chain is no
-- circle. One that wasn't claimed is all zeros. One that was claimed and not yet linked is in no chain, and zeros but
-- for its first key and place.
pub record IsOverflow (words : List ℕ) (chains : ℕ → List ℕ) (count : ℕ) (takers : ℕ → ℕ) : Type 0 where
  pub claimed : (h c : ℕ) → h < 4096 → Contains (chains h) c → c < 4096 + count
  pub rise : (h : ℕ) → h < 4096 → Rise 4096 (chains h)
  pub taken : (c : ℕ) → 0 < takers c → (4096 ≤ c) × (c < 4096 + count) × (c < 8192)
  pub loose : (c h : ℕ) → 0 < takers c → h < 4096 → Contains (chains h) c → ⊥
  pub untouched : (c i : ℕ) → 4096 + count ≤ c → c < 8192 → i < 8 → bucket words c i ≡ 0
  pub new : (c i : ℕ) → 0 < takers c → i < 8 → i ≢ 1 → i ≢ 4 → bucket words c i ≡ 0

-- an overflow bucket is linked behind the chain of a home bucket
abbrev pub with_bucket : (ℕ → List ℕ) → ℕ → ℕ → ℕ → List ℕ
with_bucket chains home new = with_at chains home (chains home ++ new ∷ [])

-- What is so where a bucket may be linked for a key: it was claimed after the chain's buckets and the key stands in it;
-- the chain ends with the bucket that is to name it, and has no place with the key.
pub record IsLinking (words : List ℕ) (chains : ℕ → List ℕ) (index : ℕ → Option ℕ) (takers : ℕ → ℕ)
    (k last new : ℕ) : Type 0 where
  pub has : InChain chains (home_of k) last
  pub end : bucket words last 7 ≡ 0
  pub own : 0 < takers new
  pub later : (c : ℕ) → Contains (chains (home_of k)) c → c < new
  pub key : bucket words new 1 ≡ k
  pub absent : index k ≡ None
