use Rattle.std.specs.Prelude.{ℕ, ◌+◌, ◌*◌, ◌<◌}

-- Where each kind of word stands in the pool, by the number of a lane, slot, cell, bucket or segment. Places are numbers of words.

abbrev pub format_at : ℕ
format_at = 0

-- how many segments, cells and overflow buckets were claimed
abbrev pub segment_counter_at : ℕ
segment_counter_at = 1

abbrev pub cell_counter_at : ℕ
cell_counter_at = 2

abbrev pub overflow_counter_at : ℕ
overflow_counter_at = 3

-- the words of a lane: its gate, its merged mark, and word q of its directory
abbrev pub gate_at : ℕ → ℕ
gate_at n = 64 + n

abbrev pub mark_at : ℕ → ℕ
mark_at n = 128 + n

abbrev pub directory_at : ℕ → ℕ → ℕ
directory_at n q = 1024 + (n * 256 + q)

-- the deed of a slot
abbrev pub deed_at : ℕ → ℕ
deed_at s = 192 + s

-- a cell, and the word with its key
abbrev pub cell_at : ℕ → ℕ
cell_at j = 256 + j

abbrev pub cell_key_at : ℕ → ℕ
cell_key_at j = 512 + j

-- word i of bucket b: 1 to 3 are keys, 4 to 6 their places, 7 the next bucket
abbrev pub bucket_at : ℕ → ℕ → ℕ
bucket_at b i = 32768 + (b * 8 + i)

-- the first word of the first segment, and of segment g
abbrev pub segments_at : ℕ
segments_at = 98304

abbrev pub segment_at : ℕ → ℕ
segment_at g = segments_at + 1024 * g

-- lanes count from 1 to 63
pub record IsLane (n : ℕ) : Type 0 where
  pub positive : 0 < n
  pub below : n < 64
