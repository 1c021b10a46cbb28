use Rattle.std.specs.Prelude.{ℕ, List}

-- a queue: its items, the oldest first, and how many more it takes without memory
pub record Row (T : Type 0) : Type 0 where
  pub items : List T
  pub room : ℕ
