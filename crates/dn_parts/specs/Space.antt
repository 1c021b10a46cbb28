use Rattle.std.specs.Prelude.{◌≡◌, ◌⊎◌, ◌<◌, ◌≤◌, ℕ, ◌+◌, List, length, Some}
use Rattle.dn_word.specs.Format.{format_word}
use Rattle.dn_word.specs.Regions.{format_at, segment_counter_at, overflow_counter_at}
use Rattle.dn_act.specs.Words.{word_at, pool_size}
use Rattle.dn_model.specs.Regions.{directory, IsLane}
use Rattle.dn_lane.specs.State.{LaneState}
use Rattle.dn_turns.specs.Claims.{asking}
use Rattle.dn_machine.specs.State.{Machine}
use Rattle.dn_machine.specs.Sound.{claiming}

-- Segments: no two lanes have the same.

-- lane n's directory names segment g, as the lane's segment q
pub record Names (words : List ℕ) (n q g : ℕ) : Type 0 where
  pub lane : IsLane n
  pub low : q < 256
  pub word : directory words n q ≡ g + 1

-- segment g is the spare of lane n, which runs: its segment q, once it is used
pub record Spares (m : Machine) (n q g : ℕ) : Type 0 where
  pub l : LaneState
  pub runs : m.lanes n ≡ Some l
  pub spare : l.base.known.log.spare ≡ Some g
  pub next : length l.base.known.log.segments ≡ q

-- A spare may stand in the directory already, in its own place.
abbrev pub Has : Machine → ℕ → ℕ → ℕ → Type 0
Has m n q g = Names m.words n q g ⊎ Spares m n q g

-- In a pool of so many segments:
pub record HasSpace (segments : ℕ) (m : Machine) : Type 0 where
  pub few : segments ≤ 8192
  pub size : pool_size segments ≤ length m.words
  pub format : word_at m.words format_at ≡ format_word (record { segments = segments; number = 1 })
  -- each segment that a lane has is one of the pool's, and was claimed
  pub claimed : (n q g : ℕ) → Has m n q g → (g < word_at m.words segment_counter_at) × (g < segments)
  -- by that lane, for that place
  pub once : (n q k r g : ℕ) → Has m n q g → Has m k r g → (n ≡ k) × (q ≡ r)
  -- counters come little past their limits, also when all have added that have read them below
  pub segment_count : word_at m.words segment_counter_at + claiming m.lanes ≤ segments + 63
  pub bucket_count : word_at m.words overflow_counter_at + asking m.mergers ≤ 4096 + 63
