use Rattle.std.specs.Prelude.{◌≡◌, ◌<◌, ℕ, ◌+◌, List}
use Rattle.dn_model.specs.Regions.{directory, IsLane}

-- Segments: one that has a holder was claimed and is one of the pool's. A directory names segments of its own lane,
-- each once; so no two lanes name the same.
pub record IsSpace (words : List ℕ) (pool count : ℕ) (holders : ℕ → ℕ) : Type 0 where
  pub claimed : (g : ℕ) → 0 < holders g → (g < count) × (g < pool)
  pub named : (n q g : ℕ) → IsLane n → q < 256 → directory words n q ≡ g + 1 → holders g ≡ n
  pub once : (n q r : ℕ) → IsLane n → q < 256 → r < 256 → directory words n q ≡ directory words n r
      → 0 < directory words n q → q ≡ r
