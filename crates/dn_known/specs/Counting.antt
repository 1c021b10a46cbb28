use Rattle.std.specs.Prelude.{ℕ, ◌≤◌, Option, Some, None, Contains, nat_le, slice_index, if◌then◌else◌}
use Rattle.std.specs.Option.{option_map}
use Rattle.dn_word.specs.Hash.{slot_of}
use Rattle.dn_word.specs.declared.packed.place.Ref.{Ref}
use Rattle.dn_pending.specs.Entries.{last_of}
use Rattle.dn_known.specs.State.{KnownState}

-- from which length of the log on pending records of a key count: from that at which its slot's epoch was met
abbrev pub count_of : KnownState → ℕ → ℕ
count_of k key = slice_index k.counts (slot_of key)

-- an offset, where it is at least so much
abbrev pub at_least : ℕ → Option ℕ → Option ℕ
at_least least None = None
at_least least (Some at) = if nat_le least at then Some at else None

-- a place in the lane's log
abbrev pub place_of : KnownState → ℕ → Ref
place_of k at = record { lane = k.log.lane; offset = at }

-- the key's last pending record, where it counts
abbrev pub pending_of : KnownState → ℕ → Option Ref
pending_of k key = option_map (place_of k) (at_least (count_of k key) (last_of key k.pending.entries))

-- a pending record of the key that counts
pub record IsCounting (k : KnownState) (key at : ℕ) : Type 0 where
  pub held : Contains k.pending.entries (record { key = key; at = at })
  pub counts : count_of k key ≤ at
