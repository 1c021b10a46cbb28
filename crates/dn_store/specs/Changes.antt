use Rattle.std.specs.Prelude.{ℕ, ◌+◌, List, ◌++◌, Option}
use Rattle.dn_word.specs.declared.packed.gate.Gate.{Gate}
use Rattle.dn_word.specs.declared.packed.deed.Deed.{Deed}
use Rattle.dn_model.specs.declared.logs.Placed.{Placed}
use Rattle.dn_store.specs.State.{StoreState, with_at}

-- Each way in which one action on one word changes a store.

-- ---- a lane's words
-- lane n seals these records behind its log, by this gate
abbrev pub sealed : StoreState → ℕ → Gate → List Placed → StoreState
sealed s n gate more = record s { gates = with_at s.gates n gate; logs = with_at s.logs n (s.logs n ++ more) }

-- its gate changes and nothing is sealed: the stamp is raised, or the bit of the fence is set
abbrev pub gated : StoreState → ℕ → Gate → StoreState
gated s n gate = record s { gates = with_at s.gates n gate }

-- so many words of its log are merged
abbrev pub marked : StoreState → ℕ → ℕ → StoreState
marked s n mark = record s { marks = with_at s.marks n mark }

-- ---- a slot's deed
abbrev pub deeded : StoreState → ℕ → Deed → StoreState
deeded s t deed = record s { deeds = with_at s.deeds t deed }

-- ---- a cell's word and its key word
abbrev pub celled : StoreState → ℕ → ℕ → StoreState
celled s j word = record s { cells = with_at s.cells j word }

abbrev pub cell_keyed : StoreState → ℕ → ℕ → StoreState
cell_keyed s j k = record s { keys = with_at s.keys j k }

-- ---- what the index gives for a key
abbrev pub indexed : StoreState → ℕ → Option ℕ → StoreState
indexed s k place = record s { index = with_at s.index k place }

-- it gives the place of an overflow bucket that is linked by this
abbrev pub linked : StoreState → ℕ → ℕ → Option ℕ → StoreState
linked s k new place = record s { index = with_at s.index k place; takers = with_at s.takers new 0 }

-- ---- claims, each of the number that the counter had, by a lane or for its merger
abbrev pub claimed : StoreState → ℕ → StoreState
claimed s n = record s { segment_count = s.segment_count + 1; holders = with_at s.holders s.segment_count n }

abbrev pub cell_claimed : StoreState → ℕ → StoreState
cell_claimed s n = record s { cell_count = s.cell_count + 1; cell_holders = with_at s.cell_holders s.cell_count n }

-- overflow buckets are numbered behind the 4,096 home buckets
abbrev pub bucket_claimed : StoreState → ℕ → StoreState
bucket_claimed s n = record s { bucket_count = s.bucket_count + 1; takers = with_at s.takers (4096 + s.bucket_count) n }

-- claims that find none left
abbrev pub segment_wanted : StoreState → StoreState
segment_wanted s = record s { segment_count = s.segment_count + 1 }

abbrev pub cell_wanted : StoreState → StoreState
cell_wanted s = record s { cell_count = s.cell_count + 1 }

abbrev pub bucket_wanted : StoreState → StoreState
bucket_wanted s = record s { bucket_count = s.bucket_count + 1 }
