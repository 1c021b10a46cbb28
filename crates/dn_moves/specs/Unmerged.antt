use Rattle.std.specs.Prelude.{◌≡◌, ◌≤◌, ℕ, true, List, Contains}
use Rattle.dn_model.specs.Held.{Reads, is_authority}
use Rattle.dn_model.specs.declared.logs.Placed.{Placed}
use Rattle.dn_model.specs.Regions.{mark, slot_of}

-- A record that is sealed in a lane's log, isn't merged yet, and says what a key of the slot has.
pub record IsUnmerged (words : List ℕ) (n t : ℕ) : Type 0 where
  pub logs : ℕ → List Placed
  pub chains : ℕ → List ℕ
  pub reads : Reads words logs chains
  pub key : ℕ
  pub entry : Placed
  pub has : Contains (logs n) entry
  pub above : mark words n ≤ entry.offset
  pub authority : is_authority key entry.entry ≡ true
  pub slot : slot_of key ≡ t
