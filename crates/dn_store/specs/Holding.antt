use Rattle.std.specs.Prelude.{ℕ, List, Option}
use Rattle.dn_record.specs.declared.records.Record.{Record}
use Rattle.dn_model.specs.Regions.{slot_of}
use Rattle.dn_model.specs.Held.{Found, unmerged, authority_by, holder_from, value_in}
use Rattle.dn_store.specs.State.{StoreState}

-- What a store holds at a key, by the store alone.

-- the lane that the deed of the key's slot names, or 0
abbrev pub owner_in : StoreState → ℕ → ℕ
owner_in s k = (s.deeds (slot_of k)).lane

-- the last authority record of a key in the part of a lane's log that isn't merged
abbrev pub waiting : StoreState → ℕ → ℕ → Option Record
waiting s n k = unmerged k (s.marks n) (s.logs n)

-- The authority of a key: the record that waits in its owner's log, or else the one to which the index leads.
abbrev pub authority_in : StoreState → ℕ → Found (Option Record)
authority_in s k = authority_by s.logs k (waiting s (owner_in s k) k) (s.index k)

-- the record that holds the value of a key, or says that it has none
abbrev pub holder_in : StoreState → ℕ → Found (Option Record)
holder_in s k = holder_from s.cells s.logs k (authority_in s k)

-- What a store holds at a key: the value of that record.
abbrev pub holds : StoreState → ℕ → Found (Option (List ℕ))
holds s k = value_in (holder_in s k)
