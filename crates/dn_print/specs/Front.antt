use Rattle.std.specs.Prelude.{◌≡◌, ℕ, ◌≤◌, List, length, take}

-- what stood before the line that begins at this place still stands
pub record KeepsFront (start : ℕ) (old new : List ℕ) : Type 0 where
  pub reaches : start ≤ length new
  pub kept : take start new ≡ take start old
