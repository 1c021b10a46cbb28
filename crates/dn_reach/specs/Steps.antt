use Rattle.std.specs.Prelude.{ℕ, List}
use Rattle.dn_word.specs.Gate.{gate_of}
use Rattle.dn_record.specs.declared.records.Record.{Record}
use Rattle.dn_log.specs.Log.{Log}
use Rattle.dn_store.specs.Changes.{claimed, segment_wanted}
use Rattle.dn_owners.specs.Events.{Raise, Seal, happens}
use Rattle.dn_beside.specs.Pool.{Pool, store_in}
use Rattle.dn_reach.specs.Placing.{plan_for, placed_by}
use Rattle.dn_reach.specs.Exchange.{open_gate}

-- The pool after each of a lane's own steps, with these words then.

-- a staged word has flowed
abbrev pub after_flow : Pool → List ℕ → Pool
after_flow p now = record p { words = now }

-- a segment is claimed, or was asked for where none was left
abbrev pub after_claim : Pool → ℕ → List ℕ → Pool
after_claim p n now = record p { words = now; owners = record p.owners { store = claimed (store_in p) n } }

abbrev pub after_miss : Pool → List ℕ → Pool
after_miss p now = record p { words = now; owners = record p.owners { store = segment_wanted (store_in p) } }

-- its gate is exchanged: the length stays, or the record is sealed
abbrev pub after_raise : Pool → ℕ → ℕ → ℕ → List ℕ → Pool
after_raise p n old stamp now =
    record p { words = now; owners = happens p.owners (Raise n (open_gate stamp (gate_of old).len)) }

abbrev pub after_seal : Pool → ℕ → Log → Record → ℕ → List ℕ → Pool
after_seal p n log r stamp now = record p {
  words = now;
  owners = happens p.owners (Seal n (open_gate stamp (plan_for log r).len) (placed_by (plan_for log r) r));
}
