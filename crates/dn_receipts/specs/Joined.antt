use Rattle.std.specs.Prelude.{◌≡◌, ◌≢◌, ◌⊎◌, ◌<◌, ◌≤◌, ℕ, List, Option, Some, None}
use Rattle.dn_hist.specs.Calls.{key_of, found_of}
use Rattle.dn_hist.specs.declared.calls.Call.{Call}
use Rattle.dn_hist.specs.declared.calls.Call.TheVariants.{Get, Put, Delete}
use Rattle.dn_hist.specs.declared.calls.Reply.TheVariants.{Stored, Deleted}
use Rattle.dn_hist.specs.declared.receipts.Receipt.{Receipt}
use Rattle.dn_model.specs.Held.{Says, record_at}
use Rattle.dn_store.specs.Holding.{holds}
use Rattle.dn_beside.specs.Pool.{Pool, store_in}
use Rattle.dn_beside.specs.Step.{IsQuiet}
use Rattle.dn_receipts.specs.Sealing.{record_of}

-- What becomes of keys by a step at which a receipt joins.

-- other keys hold what they held, and nothing is promised of them
pub record IsElsewhere (key : ℕ) (p q : Pool) : Type 0 where
  pub held : (k : ℕ) (v : Option (List ℕ)) → 0 < k → k ≢ key → holds (store_in p) k ≡ Says v
      → holds (store_in q) k ≡ Says v
  pub promised : (k : ℕ) → k ≢ key → q.owners.promised k ≡ p.owners.promised k

-- a read: the key holds what it held, which is the reply; its stamp is promised now, and it stands behind what was
-- promised, or at that stamp by its rank
pub record IsRead (p q : Pool) (r : Receipt) (key : ℕ) : Type 0 where
  pub held : (v : Option (List ℕ)) → holds (store_in p) key ≡ Says v → holds (store_in q) key ≡ Says v
  pub right : (v : Option (List ℕ)) → holds (store_in p) key ≡ Says v → r.reply ≡ found_of v
  pub behind : (p.owners.promised key < r.position.stamp) ⊎ (0 < r.position.rank)

-- a write: its record is sealed at its place, the key holds what it says, and its stamp is past all that were promised
pub record IsWritten (p q : Pool) (r : Receipt) (key : ℕ) (value : Option (List ℕ)) : Type 0 where
  pub held : holds (store_in q) key ≡ Says value
  pub sealed : record_at (store_in q).logs r.at ≡ Some (record_of r.call)
  pub past : p.owners.promised key < r.position.stamp
  pub first : r.position.rank ≡ 0

abbrev pub IsEffect : Pool → Pool → Receipt → Call → Type 0
IsEffect p q r (Get key) = IsRead p q r key
IsEffect p q r (Put key value) = IsWritten p q r key (Some value) × (r.reply ≡ Stored)
IsEffect p q r (Delete key) = IsWritten p q r key None × (r.reply ≡ Deleted)

pub record IsJoined (p q : Pool) (r : Receipt) : Type 0 where
  pub elsewhere : IsElsewhere (key_of r.call) p q
  pub least : p.owners.promised (key_of r.call) ≤ r.position.stamp
  pub promised : q.owners.promised (key_of r.call) ≡ r.position.stamp
  pub effect : IsEffect p q r r.call

-- with a receipt, or without one
abbrev pub Joins : Pool → Pool → Option Receipt → Type 0
Joins p q None = IsQuiet p q
Joins p q (Some r) = IsJoined p q r
