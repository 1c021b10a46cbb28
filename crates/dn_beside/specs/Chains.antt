use Rattle.std.specs.Prelude.{◌≡◌, ℕ, ◌+◌, ◌<◌, List, ◌∷◌, ◌++◌, Contains}
use Rattle.dn_model.specs.Regions.{bucket, home_of}
use Rattle.dn_store.specs.Standing.{IsPlaceOf}
use Rattle.dn_beside.specs.Pool.{Pool, store_in}

-- What a step leaves of the chain in which key k belongs.

-- all of it, and the buckets that lane n's merger has claimed: for that merger, which works there
pub record IsChainKept (n k : ℕ) (p q : Pool) : Type 0 where
  pub chain : q.chains (home_of k) ≡ p.chains (home_of k)
  pub words : (b i : ℕ) → i < 8 → Contains (home_of k ∷ p.chains (home_of k)) b
      → bucket q.words b i ≡ bucket p.words b i
  pub takers : (c : ℕ) → (store_in p).takers c ≡ n → (store_in q).takers c ≡ n
  pub taken : (c i : ℕ) → i < 8 → (store_in p).takers c ≡ n → bucket q.words c i ≡ bucket p.words c i
  pub index : (store_in q).index k ≡ (store_in p).index k

-- or where k stands in it: for a lane that finds k
pub record IsPathKept (k : ℕ) (p q : Pool) : Type 0 where
  pub more : List ℕ
  pub grows : q.chains (home_of k) ≡ p.chains (home_of k) ++ more
  pub keys : (b i : ℕ) → IsPlaceOf p.chains k b i
      → (bucket q.words b (i + 1) ≡ k → bucket p.words b (i + 1) ≡ k)
      × (bucket p.words b (i + 1) ≡ k → bucket q.words b (i + 1) ≡ k)
  pub index : (store_in q).index k ≡ (store_in p).index k
