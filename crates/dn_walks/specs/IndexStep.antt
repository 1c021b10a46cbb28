use Rattle.std.specs.Prelude.{◌≡◌, ◌≢◌, ◌⊎◌, ℕ, ◌<◌, ◌≤◌, List, Option}
use Rattle.dn_word.specs.Regions.{overflow_counter_at, segments_at}
use Rattle.dn_act.specs.Words.{word_at}
use Rattle.dn_model.specs.Regions.{bucket_at, home_of}
use Rattle.dn_store.specs.State.{with_at}
use Rattle.dn_store.specs.Represents.{Represents}
use Rattle.dn_beside.specs.Pool.{Pool, store_in}
use Rattle.dn_beside.specs.Chains.{IsChainKept, IsPathKept}

-- An action on the index.

-- the words of a pool, with what the index is by them
pub record IndexState : Type 0 where
  pub words : List ℕ
  pub chains : ℕ → List ℕ
  pub index : ℕ → Option ℕ
  pub bucket_count : ℕ
  pub takers : ℕ → ℕ

-- a pool of which nothing but the index changes
abbrev pub with_index : Pool → IndexState → Pool
with_index p i = record {
  words = i.words;
  chains = i.chains;
  owners = record p.owners {
    store = record (store_in p) { index = i.index; bucket_count = i.bucket_count; takers = i.takers };
  };
}

-- An action on one word of the index by lane n's merger, at work on key k, as all others see it. The index stays, or
-- gives for that key what it is to give; the merger of another chain, and who finds another key, are left in peace.
pub record IsIndexStep (n k : ℕ) (want : Option ℕ) (p : Pool) (i : IndexState) : Type 0 where
  pub represents : Represents i.words i.chains (store_in (with_index p i))
  pub change : (i.index ≡ (store_in p).index) ⊎ (i.index ≡ with_at (store_in p).index k want)
  pub outside : (at : ℕ) → at ≢ overflow_counter_at → (at < bucket_at 0 0) ⊎ (segments_at ≤ at)
      → word_at i.words at ≡ word_at p.words at
  pub chain : (m q : ℕ) → 0 < m → m ≢ n → home_of q ≢ home_of k → IsChainKept m q p (with_index p i)
  pub path : (q : ℕ) → 0 < q → q ≢ k → IsPathKept q p (with_index p i)
