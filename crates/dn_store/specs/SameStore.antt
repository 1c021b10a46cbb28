use Rattle.std.specs.Prelude.{◌≡◌, ◌<◌, ℕ}
use Rattle.dn_store.specs.State.{StoreState}

-- Two stores are the same, but for who claimed what, and for numbers that no lane, slot, cell or key has.
pub record IsSameStore (s t : StoreState) : Type 0 where
  pub pool : s.pool ≡ t.pool
  pub logs : (n : ℕ) → s.logs n ≡ t.logs n
  pub gates : (n : ℕ) → n < 64 → s.gates n ≡ t.gates n
  pub marks : (n : ℕ) → n < 64 → s.marks n ≡ t.marks n
  pub deeds : (d : ℕ) → d < 64 → s.deeds d ≡ t.deeds d
  pub index : (k : ℕ) → 0 < k → s.index k ≡ t.index k
  pub cells : (j : ℕ) → j < 256 → s.cells j ≡ t.cells j
  pub keys : (j : ℕ) → j < 256 → s.keys j ≡ t.keys j
  pub segment_count : s.segment_count ≡ t.segment_count
  pub cell_count : s.cell_count ≡ t.cell_count
  pub bucket_count : s.bucket_count ≡ t.bucket_count
