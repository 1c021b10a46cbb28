use Rattle.std.specs.Prelude.{◌≡◌, ℕ, ◌+◌, ◌*◌, List, slice_index}

-- the word at a place of the pool
abbrev pub word_at : List ℕ → ℕ → ℕ
word_at words i = slice_index words i

-- all words are 0
pub record IsZeros (words : List ℕ) : Type 0 where
  pub each : (k : ℕ) → word_at words k ≡ 0

-- the words of a pool of so many segments: those of its other regions, and 1,024 for each segment
abbrev pub pool_size : ℕ → ℕ
pool_size segments = 98304 + 1024 * segments
