use Rattle.std.specs.Prelude.{ℕ, List}
use Rattle.dn_pending.specs.declared.entries.Entry.{Entry}

-- a pending table: what was added and isn't dropped, in the order in which it was added; how many more are sure of their
-- room
pub record Table : Type 0 where
  pub entries : List Entry
  pub spare : ℕ
