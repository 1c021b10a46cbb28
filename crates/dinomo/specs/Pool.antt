use Rattle.std.specs.Prelude.{◌≡◌, ℕ, ◌-◌, ◌/◌, ◌≤◌}
use Rattle.dn_word.specs.Regions.{segments_at}
use Rattle.dn_act.specs.Words.{pool_size}

-- the size of a pool of 1 to 8,192 segments
pub record IsPoolSize (size : ℕ) : Type 0 where
  pub segments : ℕ
  pub least : 1 ≤ segments
  pub most : segments ≤ 8192
  pub whole : size ≡ pool_size segments

-- the segments of a pool of this size
abbrev pub pool_segments : ℕ → ℕ
pool_segments size = (size - segments_at) / 1024
