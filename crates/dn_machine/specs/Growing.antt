use Rattle.std.specs.Prelude.{◌≡◌, ◌≤◌, ◌<◌, ℕ, true, List}
use Rattle.dn_word.specs.Regions.{segment_counter_at, overflow_counter_at}
use Rattle.dn_act.specs.Words.{word_at}
use Rattle.dn_model.specs.Regions.{gate, mark, deed, IsLane}

-- What of the words never falls: a lane's length and stamp, its bit once it is set, how much of it is merged, the epoch
-- and the floor of a slot, and the counters of what was asked for.
pub record HaveGrown (words now : List ℕ) : Type 0 where
  pub len : (n : ℕ) → IsLane n → (gate words n).len ≤ (gate now n).len
  pub stamp : (n : ℕ) → IsLane n → (gate words n).stamp ≤ (gate now n).stamp
  pub bit : (n : ℕ) → IsLane n → (gate words n).fenced ≡ true → (gate now n).fenced ≡ true
  pub mark : (n : ℕ) → IsLane n → mark words n ≤ mark now n
  pub epoch : (t : ℕ) → t < 64 → (deed words t).epoch ≤ (deed now t).epoch
  pub floor : (t : ℕ) → t < 64 → (deed words t).floor ≤ (deed now t).floor
  pub segments : word_at words segment_counter_at ≤ word_at now segment_counter_at
  pub buckets : word_at words overflow_counter_at ≤ word_at now overflow_counter_at
