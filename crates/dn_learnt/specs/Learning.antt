use Rattle.std.specs.Prelude.{◌≡◌, ◌⊎◌, ◌≤◌, ◌<◌, ℕ, true, length, map, slice_index, Option, Some}
use Rattle.dn_word.specs.declared.packed.deed.Deed.{Deed}
use Rattle.dn_word.specs.declared.packed.deed.DeedState.TheVariants.{Owned}
use Rattle.dn_pending.specs.declared.entries.Entry.{Entry}
use Rattle.dn_known.specs.State.{KnownState}
use Rattle.dn_owners.specs.declared.plain.Pending.{Pending}
use Rattle.dn_owners.specs.Known.{Learnt, Knows}
use Rattle.dn_beside.specs.Pool.{Pool, store_in}

-- What lane n has met of a slot: the epoch of the deed that it loaded last, and the length that its log had when that
-- epoch was new to it. It has learnt the epoch as owner if it met it so, and no later one.
pub record IsMet (learnt : Option Learnt) (epoch count : ℕ) (d : Deed) (n : ℕ) : Type 0 where
  pub upto : epoch ≤ d.epoch
  pub older : (c : Learnt) → learnt ≡ Some c → (c.epoch < epoch) ⊎ ((c.epoch ≡ epoch) × (c.from ≡ count))
  pub owner : d.state ≡ Owned → d.lane ≡ n → epoch ≡ d.epoch
      → (c : Learnt) × (learnt ≡ Some c) × (c.epoch ≡ epoch)

-- the pending record of a table's entry
abbrev pub pending_by : Entry → Pending
pending_by e = record { key = e.key; offset = e.at }

-- A lane that runs knows of owners what it is said to know: of each slot the epoch, and its pending records.
pub record Heeds (v : Knows) (deeds : ℕ → Deed) (n : ℕ) (k : KnownState) : Type 0 where
  pub running : v.running ≡ true
  pub epochs : length k.epochs ≡ 64
  pub counts : length k.counts ≡ 64
  pub met : (t : ℕ) → t < 64 → IsMet (v.learnt t) (slice_index k.epochs t) (slice_index k.counts t) (deeds t) n
  pub pending : v.pending ≡ map pending_by k.pending.entries

abbrev pub Learns : Pool → ℕ → KnownState → Type 0
Learns p n k = Heeds (p.owners.knows n) (store_in p).deeds n k
