use Rattle.std.specs.Prelude.{◌≡◌, ◌≢◌, ◌<◌, ◌≤◌, ℕ, ◌+◌, List, Option, Some, Contains}
use Rattle.dn_word.specs.declared.packed.place.Ref.{Ref}
use Rattle.dn_record.specs.Record.{length_in_words}
use Rattle.dn_hist.specs.Calls.{IsWrite, key_of}
use Rattle.dn_hist.specs.declared.receipts.Receipt.{Receipt}
use Rattle.dn_model.specs.Held.{Says, record_at}
use Rattle.dn_model.specs.Log.{SpellsAt}
use Rattle.dn_model.specs.Regions.{offsets, IsLane}
use Rattle.dn_model.specs.Register.{IsRegister}
use Rattle.dn_store.specs.Holding.{holds}
use Rattle.dn_beside.specs.Pool.{Pool, store_in}
use Rattle.dn_receipts.specs.Sealing.{record_of}

-- What receipts over a pool are.

-- the record of a put or delete is sealed at the receipt's place
abbrev pub IsRecorded : Pool → Receipt → Type 0
IsRecorded p r = IsWrite r.call → record_at (store_in p).logs r.at ≡ Some (record_of r.call)

-- These receipts came to stand one after the other: each key is a register by them, which has what the pool holds there,
-- and the greatest stamp that was promised of it for a bound.
pub record AreReceipts (p : Pool) (rs : List Receipt) : Type 0 where
  pub held : ℕ → Option (List ℕ)
  pub there : (k : ℕ) → 0 < k → holds (store_in p) k ≡ Says (held k)
  pub register : IsRegister held p.owners.promised rs
  pub keyed : (r : Receipt) → Contains rs r → key_of r.call ≢ 0
  pub recorded : (r : Receipt) → Contains rs r → IsRecorded p r

-- the words at the place of a receipt spell its record, within what its lane has sealed
pub record IsSpelled (p : Pool) (r : Receipt) : Type 0 where
  pub at : Ref
  pub is : r.at ≡ Some at
  pub lane : IsLane at.lane
  pub spells : SpellsAt (offsets p.words at.lane) at.offset (record_of r.call)
  pub inside : at.offset + length_in_words (record_of r.call) ≤ ((store_in p).gates at.lane).len
