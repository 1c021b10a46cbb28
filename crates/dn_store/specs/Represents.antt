use Rattle.std.specs.Prelude.{◌≡◌, ◌<◌, ◌≤◌, ℕ, List, length}
use Rattle.dn_word.specs.Format.{format_word}
use Rattle.dn_word.specs.Regions.{format_at, segment_counter_at, cell_counter_at, overflow_counter_at, cell_key_at}
use Rattle.dn_act.specs.Words.{word_at, pool_size}
use Rattle.dn_model.specs.Regions.{gate, mark, deed, cell}
use Rattle.dn_model.specs.Held.{Reads}
use Rattle.dn_store.specs.State.{StoreState}
use Rattle.dn_store.specs.Unused.{IsUnused}
use Rattle.dn_store.specs.Cut.{IsCut}
use Rattle.dn_store.specs.Space.{IsSpace}
use Rattle.dn_store.specs.CellSpace.{IsCellSpace}
use Rattle.dn_store.specs.Standing.{IsIndexed}
use Rattle.dn_store.specs.Overflow.{IsOverflow}

-- The words that say one thing each: the format, the counters, and the words of lanes, slots and cells.
pub record IsTable (words : List ℕ) (s : StoreState) : Type 0 where
  pub size : pool_size s.pool ≤ length words
  pub format : word_at words format_at ≡ format_word (record { segments = s.pool; number = 1 })
  pub segment_count : word_at words segment_counter_at ≡ s.segment_count
  pub cell_count : word_at words cell_counter_at ≡ s.cell_count
  pub bucket_count : word_at words overflow_counter_at ≡ s.bucket_count
  pub gates : (n : ℕ) → n < 64 → gate words n ≡ s.gates n
  pub marks : (n : ℕ) → n < 64 → mark words n ≡ s.marks n
  pub deeds : (t : ℕ) → t < 64 → deed words t ≡ s.deeds t
  pub cells : (j : ℕ) → j < 256 → cell words j ≡ s.cells j
  pub keys : (j : ℕ) → j < 256 → word_at words (cell_key_at j) ≡ s.keys j

-- The words represent this store, with these overflow buckets behind each home bucket.
pub record Represents (words : List ℕ) (chains : ℕ → List ℕ) (s : StoreState) : Type 0 where
  pub table : IsTable words s
  pub unused : IsUnused words
  pub reads : Reads words s.logs chains
  -- what is merged of a log is whole records
  pub merged : (n : ℕ) → IsCut (s.logs n) (s.marks n)
  pub space : IsSpace words s.pool s.segment_count s.holders
  pub cell_space : IsCellSpace s.cells s.keys s.cell_count s.cell_holders
  pub indexed : IsIndexed words chains s.index
  pub overflow : IsOverflow words chains s.bucket_count s.takers
