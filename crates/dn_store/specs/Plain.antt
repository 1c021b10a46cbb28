use Rattle.std.specs.Prelude.{ℕ, List, [], ◌∷◌, Option, Some, None, nat_eq, if◌then◌else◌, slice_index, slice_index_or}
use Rattle.dn_word.specs.Gate.{gate_of}
use Rattle.dn_word.specs.Deed.{deed_of}
use Rattle.dn_model.specs.Told.{logs_of}
use Rattle.dn_store.specs.State.{StoreState}
use Rattle.dn_store.specs.declared.plain.Entry.{Entry}
use Rattle.dn_store.specs.declared.plain.PlainStore.{PlainStore}

-- The lists of the plain program, in the terms of the definitions.

-- the place word of the first entry with this key
abbrev pub place_in : ℕ → List Entry → Option ℕ
place_in k [] = None
place_in k (e ∷ es) = if nat_eq e.key k then Some e.place else place_in k es

-- the store of these lists; what they don't say is nothing
abbrev pub store_of : PlainStore → StoreState
store_of p = record {
  pool = 0;
  logs = logs_of p.logs;
  gates = λ n. gate_of 0;
  marks = λ n. slice_index p.marks n;
  deeds = λ t. slice_index_or p.deeds t (deed_of 0);
  index = λ k. place_in k p.index;
  cells = λ j. slice_index p.cells j;
  keys = λ j. 0;
  segment_count = 0;
  cell_count = 0;
  bucket_count = 0;
  holders = λ g. 0;
  cell_holders = λ j. 0;
  takers = λ c. 0;
}
