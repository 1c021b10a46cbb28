use Rattle.std.specs.Prelude.{◌≡◌, ◌⊎◌, ℕ, ◌≤◌, true, Option, Contains}
use Rattle.dn_model.specs.declared.logs.Placed.{Placed}
use Rattle.dn_model.specs.Held.{is_authority}
use Rattle.dn_store.specs.Holding.{authority_in}
use Rattle.dn_owners.specs.declared.plain.Pending.{Pending}
use Rattle.dn_owners.specs.Known.{Owners}
use Rattle.dn_owners.specs.Sound.{Agrees}
use Rattle.dn_owners.specs.Events.{Event, Set, happens}

-- Who merges a key.

-- lane n's log has an authority record of the key that isn't merged: its merger has the record before it
pub record IsWaiting (o : Owners) (n k : ℕ) (p : Placed) : Type 0 where
  pub has : Contains (o.store.logs n) p
  pub unmerged : o.store.marks n ≤ p.offset
  pub authority : is_authority k p.entry ≡ true

-- the event sets the index for the key, from lane n's log
pub record IsSetBy (e : Event) (n k : ℕ) : Type 0 where
  pub p : Placed
  pub place : Option ℕ
  pub is : e ≡ Set n k p place

-- what the index gives for the key stays, unless that lane's merger sets it
abbrev pub IndexAfter : Owners → Event → ℕ → ℕ → Type 0
IndexAfter o e n k = ((happens o e).store.index k ≡ o.store.index k) ⊎ IsSetBy e n k

-- ---- a pending record, as the record of the log that it is, and as the key's authority
pub record IsRecordOf (o : Owners) (n k : ℕ) (q : Pending) : Type 0 where
  pub of : Placed
  pub has : Contains (o.store.logs n) of
  pub at : of.offset ≡ q.offset
  pub authority : is_authority k of.entry ≡ true
  pub agrees : Agrees (authority_in o.store k) k of.entry
