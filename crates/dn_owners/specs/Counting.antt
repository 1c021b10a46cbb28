use Rattle.std.specs.Prelude.{ℕ, ◌&&◌, Bool, List, [], ◌∷◌, ◌++◌, Option, None, nat_eq, nat_le}
use Rattle.std.specs.List.{filter, last_or}
use Rattle.dn_record.specs.declared.records.Record.{Record}
use Rattle.dn_record.specs.declared.records.Record.TheVariants.{Put, Delete, Share, Unshare, Loose, LooseDelete, Pad}
use Rattle.dn_model.specs.declared.logs.Placed.{Placed}
use Rattle.dn_owners.specs.declared.plain.Pending.{Pending}

-- The pending records of a log: its authority records, each by its key and its offset.

-- of one record: itself, or none where it is no authority record
abbrev pub pending_of : ℕ → Record → List Pending
pending_of at (Put key value) = record { key = key; offset = at } ∷ []
pending_of at (Delete key) = record { key = key; offset = at } ∷ []
pending_of at (Share key cell opening) = record { key = key; offset = at } ∷ []
pending_of at (Unshare key named) = record { key = key; offset = at } ∷ []
pending_of at (Loose key value) = []
pending_of at (LooseDelete key) = []
pending_of at (Pad words) = []

abbrev pub pending_in : List Placed → List Pending
pending_in [] = []
pending_in (p ∷ ps) = pending_of p.offset p.entry ++ pending_in ps

-- those at an offset or past it
abbrev pub pending_from : ℕ → List Placed → List Pending
pending_from from log = pending_in (filter (λ (p : Placed). nat_le from p.offset) log)

-- A lane learns a slot's epoch at some length of its log. A pending record of a key counts where it isn't before that.
abbrev pub counts : ℕ → ℕ → Pending → Bool
counts key learnt_at q = nat_eq q.key key && nat_le learnt_at q.offset

-- the last one that counts
abbrev pub last_counting : ℕ → ℕ → List Pending → Option Pending
last_counting key learnt_at pending = last_or None (filter (counts key learnt_at) pending)
