use Rattle.std.specs.Prelude.{◌≡◌, ◌<◌, ◌≤◌, ℕ}
use Rattle.dn_word.specs.Regions.{cell_counter_at, cell_key_at}
use Rattle.dn_act.specs.Words.{word_at}
use Rattle.dn_model.specs.Regions.{cell}
use Rattle.dn_machine.specs.State.{Machine}

-- Cells: one that wasn't claimed has no key, and its word is 0.
pub record HasUnusedCells (m : Machine) : Type 0 where
  pub word : (j : ℕ) → word_at m.words cell_counter_at ≤ j → j < 256 → cell m.words j ≡ 0
  pub key : (j : ℕ) → word_at m.words cell_counter_at ≤ j → j < 256 → word_at m.words (cell_key_at j) ≡ 0
