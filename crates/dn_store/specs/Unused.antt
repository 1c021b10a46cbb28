use Rattle.std.specs.Prelude.{◌≡◌, ◌≢◌, ◌≤◌, ◌<◌, ℕ, List}
use Rattle.dn_act.specs.Words.{word_at}
use Rattle.dn_model.specs.Regions.{gate_at, mark_at, directory_at, bucket_at}

-- Words that nobody uses are 0: those between the regions, those that lane 0 would have, which is no lane, and the first
-- word of each bucket.
pub record IsUnused (words : List ℕ) : Type 0 where
  pub low : (at : ℕ) → 4 ≤ at → at < 64 → word_at words at ≡ 0
  pub middle : (at : ℕ) → 768 ≤ at → at < 1024 → word_at words at ≡ 0
  pub high : (at : ℕ) → 17408 ≤ at → at < 32768 → word_at words at ≡ 0
  pub no_gate : word_at words (gate_at 0) ≡ 0
  pub no_mark : word_at words (mark_at 0) ≡ 0
  pub no_directory : (q : ℕ) → q < 256 → word_at words (directory_at 0 q) ≡ 0
  pub first : (b : ℕ) → b < 8192 → word_at words (bucket_at b 0) ≡ 0

-- and a word that is none of these
pub record IsUsed (at : ℕ) : Type 0 where
  pub low : 4 ≤ at → at < 64 → ⊥
  pub middle : 768 ≤ at → at < 1024 → ⊥
  pub high : 17408 ≤ at → at < 32768 → ⊥
  pub no_gate : gate_at 0 ≢ at
  pub no_mark : mark_at 0 ≢ at
  pub no_directory : (q : ℕ) → q < 256 → directory_at 0 q ≢ at
  pub first : (b : ℕ) → b < 8192 → bucket_at b 0 ≢ at
