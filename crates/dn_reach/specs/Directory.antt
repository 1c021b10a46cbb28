use Rattle.std.specs.Prelude.{◌≡◌, ◌<◌, ℕ, ◌+◌, List, length, slice_index}
use Rattle.dn_log.specs.Log.{Log, reach_of}
use Rattle.dn_model.specs.Regions.{directory}

-- A lane's directory names the segments of its log, in their order. Beyond them it names nothing but the spare, whose
-- word may have reached the pool before the log does.
pub record NamesSegments (words : List ℕ) (log : Log) : Type 0 where
  pub named : (q : ℕ) → q < length log.segments → directory words log.lane q ≡ slice_index log.segments q + 1
  pub no_more : (q : ℕ) → q < 256 → 0 < directory words log.lane q
      → (q < length (reach_of log)) × (directory words log.lane q ≡ slice_index (reach_of log) q + 1)
