use Rattle.std.specs.Prelude.{◌≡◌, ◌≤◌, ◌<◌, ℕ}

-- Cells: one that has a holder was claimed and is one of the 256. One that wasn't claimed has no key, and its word is
-- 0.
pub record IsCellSpace (cells keys : ℕ → ℕ) (count : ℕ) (holders : ℕ → ℕ) : Type 0 where
  pub claimed : (j : ℕ) → 0 < holders j → (j < count) × (j < 256)
  pub zero : (j : ℕ) → count ≤ j → j < 256 → cells j ≡ 0
  pub no_key : (j : ℕ) → count ≤ j → j < 256 → keys j ≡ 0
