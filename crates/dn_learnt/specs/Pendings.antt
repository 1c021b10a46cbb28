use Rattle.std.specs.Prelude.{◌≡◌, ℕ, false, Some, None}
use Rattle.dn_word.specs.declared.packed.place.Ref.{Ref}
use Rattle.dn_model.specs.Regions.{slot_of}
use Rattle.dn_store.specs.Holding.{waiting, owner_in}
use Rattle.dn_known.specs.State.{KnownState}
use Rattle.dn_owners.specs.Known.{Look}
use Rattle.dn_owners.specs.declared.plain.Pending.{Pending}
use Rattle.dn_owners.specs.Merging.{IsRecordOf}
use Rattle.dn_beside.specs.Pool.{Pool, store_in}
use Rattle.dn_learnt.specs.Learning.{Learns}

-- What a lane may ask of a key: it has looked at the slot of the key, by the epoch that it has met of it last, and its
-- gate has no bit.
pub record MayAsk (p : Pool) (n key : ℕ) (k : KnownState) : Type 0 where
  pub learns : Learns p n k
  pub look : Look
  pub looks : (p.owners.knows n).look ≡ Some look
  pub slot : slot_of key ≡ look.slot
  pub clear : ((store_in p).gates n).fenced ≡ false

-- The key's last pending record that counts is a record of the lane's log, and the key's authority, or a Delete of a key
-- without one.
pub record IsPendingAt (p : Pool) (n key : ℕ) (at : Ref) : Type 0 where
  pub q : Pending
  pub of : IsRecordOf p.owners n key q
  pub lane : at.lane ≡ n
  pub offset : at.offset ≡ q.offset

-- No log has a record of the key that isn't merged.
pub record HasNone (p : Pool) (n key : ℕ) : Type 0 where
  pub owner : owner_in (store_in p) key ≡ n
  pub waits : (m : ℕ) → waiting (store_in p) m key ≡ None
