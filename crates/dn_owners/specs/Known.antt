use Rattle.std.specs.Prelude.{ℕ, Bool, List, [], Option, None}
use Rattle.dn_store.specs.State.{StoreState}
use Rattle.dn_owners.specs.declared.plain.Pending.{Pending}

-- What lanes and the monitor know of who owns what.

-- what a look at a slot's deed showed
pub record Look : Type 0 where
  pub slot : ℕ
  pub epoch : ℕ
  pub floor : ℕ

-- an epoch of a slot that a lane has learnt, and how long its sealed log was then
pub record Learnt : Type 0 where
  pub epoch : ℕ
  pub from : ℕ

-- A lane: whether it runs; the look of its call or task under way, if that has looked; of each slot the epoch that it
-- has learnt last; its pending records, and the offset before which it has dropped them.
pub record Knows : Type 0 where
  pub running : Bool
  pub look : Option Look
  pub learnt : ℕ → Option Learnt
  pub pending : List Pending
  pub dropped : ℕ

-- The monitor: length and stamp of the gate of the lane that a slot's deed names, loaded after that deed was Released
-- or that gate had its bit.
pub record Watch : Type 0 where
  pub slot : ℕ
  pub lane : ℕ
  pub len : ℕ
  pub stamp : ℕ

-- A store with what its actors know, and of each key the greatest stamp that was promised: no change of the key has a
-- stamp up to it any more.
pub record Owners : Type 0 where
  pub store : StoreState
  pub knows : ℕ → Knows
  pub watch : Option Watch
  pub promised : ℕ → ℕ

-- a lane that was stopped, and one that starts, know nothing
abbrev pub knowing_nothing : Bool → Knows
knowing_nothing running = record { running = running; look = None; learnt = λ t. None; pending = []; dropped = 0 }
