use Rattle.std.specs.Prelude.{◌≡◌, ◌≢◌, ℕ, List, length}
use Rattle.dn_word.specs.Regions.{overflow_counter_at}
use Rattle.dn_act.specs.Words.{word_at}
use Rattle.dn_model.specs.Regions.{mark_at, IsLane}
use Rattle.dn_index.specs.Footprint.{IsOfBucket}

-- What lane n's merger leaves of the words: all but the lane's merged mark, the overflow counter and the index. So gates,
-- deeds, directories, logs, cells and the marks of other lanes stay.
pub record LeavesWords (n : ℕ) (words now : List ℕ) : Type 0 where
  pub size : length now ≡ length words
  pub each : (at : ℕ) → at ≢ mark_at n → at ≢ overflow_counter_at → (IsOfBucket at → ⊥) → word_at now at ≡ word_at words at

-- What the mergers of all lanes leave.
pub record LeavesLogs (words now : List ℕ) : Type 0 where
  pub size : length now ≡ length words
  pub each : (at : ℕ) → ((n : ℕ) → IsLane n → at ≢ mark_at n) → at ≢ overflow_counter_at → (IsOfBucket at → ⊥) → word_at now at ≡ word_at words at
