use Rattle.std.specs.Prelude.{ℕ, List, Option, None}
use Rattle.dn_merge.specs.Merge.{Merging}
use Rattle.dn_monitor.specs.Monitor.{Monitoring}
use Rattle.dn_lane.specs.State.{LaneState}
use Rattle.dn_callers.specs.Callers.{Callers, fresh_callers}

-- The words of a pool and all who act on them.
pub record Machine : Type 0 where
  pub words : List ℕ
  -- by its number each lane that runs, and the merger of each that was made
  pub lanes : ℕ → Option LaneState
  pub mergers : ℕ → Option Merging
  -- the monitor's order, while one is under way
  pub monitor : Option Monitoring
  -- sessions, what they were told, and the receipts that stand
  pub callers : Callers
  -- by its number each session that loads the deed of a slot next
  pub loads : ℕ → Option ℕ

-- nobody acts yet
abbrev pub resting : List ℕ → Machine
resting words = record {
  words = words;
  lanes = λ n. None;
  mergers = λ n. None;
  monitor = None;
  callers = fresh_callers;
  loads = λ s. None;
}
