use Rattle.std.specs.Prelude.{◌≡◌, ◌≤◌, ◌<◌, ℕ, zero, suc, ◌+◌, List, [], ◌++◌, Option, Some, None, replicate}
use Rattle.dn_hist.specs.Calls.{Bytes}
use Rattle.dn_model.specs.PoolMap.{HoldsMap}
use Rattle.dn_word.specs.Gate.{gate_of}
use Rattle.dn_act.specs.Words.{word_at}
use Rattle.dn_model.specs.Regions.{gate_at, mark_at}
use Rattle.dn_cluster.specs.State.{numbered}
use Rattle.dn_drain.specs.All.{IsLaneFault}
use Rattle.dn_drain.specs.Drained.{IsFull}
use Rattle.dn_drain.specs.declared.drains.DrainFault.{DrainFault}
use Rattle.dn_drain.specs.declared.drains.DrainFault.TheVariants as drain
use Rattle.dn_drain.specs.declared.drains.Merged.{Merged}
use Rattle.dn_route.specs.CallersOrder.{Told}
use Rattle.dn_outcomes.specs.Runs.{after}
use Rattle.dn_outcomes.specs.Sound.{IsWorld}
use Rattle.dn_outcomes.specs.declared.events.Event.{Event}
use Rattle.dn_outcomes.specs.declared.events.Event.TheVariants as event
use Rattle.dn_world.specs.State.{WorldState, world_of}
use Rattle.dn_world.specs.declared.finishes.FinishFault.{FinishFault}
use Rattle.dn_world.specs.declared.finishes.FinishFault.TheVariants as fault

-- A world is finished: each lane's merger acts until all is merged that the lane has sealed.

-- ---- events of mergers alone
-- Each of them is of a lane's merger: those of lane 1 come first, and those of lane n last.
abbrev pub AreMerges : ℕ → List (Event × List ℕ) → Type 0
AreMerges zero es = es ≡ []
AreMerges (suc n) es = (before : List (Event × List ℕ)) × (count : ℕ) × AreMerges n before
    × (es ≡ before ++ replicate count (event.Merge (n + 1), []))

-- Whatever was told, the world after them is this one, with the receipts that stood, and is sound.
pub record IsFinished (words : List ℕ) (w : WorldState) (now : List ℕ) (v : WorldState) (es : List (Event × List ℕ)) (told : List Told) : Type 0 where
  pub world : world_of now v.crew told v.history ≡ after (world_of words w.crew told w.history) es
  pub sound : IsWorld (world_of now v.crew told v.history)

-- The mergers of lanes 1 to n have acted, and the words hold the map that they held.
pub record Finishes (words : List ℕ) (w : WorldState) (now : List ℕ) (v : WorldState) (n : ℕ) : Type 0 where
  pub es : List (Event × List ℕ)
  pub merges : AreMerges n es
  pub is : (told : List Told) → IsWorld (world_of words w.crew told w.history) → IsFinished words w now v es told
  pub map : (held : Bytes) → HoldsMap words held → HoldsMap now held

-- ---- faults
-- this lane isn't drained, and all before it are
abbrev pub IsAt : List ℕ → WorldState → List ℕ → WorldState → ℕ → DrainFault → Type 0
IsAt words w now v lane why = IsLaneFault words w.crew.cluster now v.crew.cluster (record { lane = lane; fault = why })

-- the access of an action of its merger failed
pub record IsPoolAt (words : List ℕ) (w : WorldState) (now : List ℕ) (v : WorldState) : Type 0 where
  pub lane : ℕ
  pub at : IsAt words w now v lane drain.Pool

-- the index is full, by the last action of its merger
pub record IsFullAt (words : List ℕ) (w : WorldState) (now : List ℕ) (v : WorldState) (counter : ℕ) : Type 0 where
  pub lane : ℕ
  pub at : IsAt words w now v lane (drain.IndexFull counter)
  pub finishes : Finishes words w now v lane
  pub full : IsFull now lane counter

abbrev pub IsFinishFault : List ℕ → WorldState → List ℕ → WorldState → FinishFault → Type 0
IsFinishFault words w now v fault.Pool = IsPoolAt words w now v
IsFinishFault words w now v (fault.IndexFull counter) = IsFullAt words w now v counter
IsFinishFault words w now v fault.OutOfMemory = (now ≡ words) × (v ≡ w)

-- the count of failed accesses rose exactly at a fault of the pool
abbrev pub CountsFinish : ℕ → ℕ → FinishFault → Type 0
CountsFinish old new fault.Pool = old < new
CountsFinish old new (fault.IndexFull counter) = new ≡ old
CountsFinish old new fault.OutOfMemory = new ≡ old

abbrev pub fault_by : DrainFault → FinishFault
fault_by drain.Pool = fault.Pool
fault_by (drain.IndexFull counter) = fault.IndexFull counter

-- ---- what a lane has ended with: the words of its gate and its mark
abbrev pub ended_by : Option Merged → ℕ × ℕ
ended_by None = (0, 0)
ended_by (Some merged) = (merged.gate, merged.mark)

abbrev pub ended_at : List Merged → ℕ → ℕ × ℕ
ended_at ended n = ended_by (numbered ended n)

-- The pool has these words for lane n, and they name one length: all that the lane has sealed is merged.
pub record HasEnded (words : List ℕ) (n : ℕ) (ended : ℕ × ℕ) : Type 0 where
  pub gate_is : word_at words (gate_at n) ≡ ended.0
  pub mark_is : word_at words (mark_at n) ≡ ended.1
  pub all : (gate_of ended.0).len ≡ ended.1

-- so it is of lanes 1 to n
pub record HaveEnded (words : List ℕ) (n : ℕ) (ended : List Merged) : Type 0 where
  pub each : (k : ℕ) → 1 ≤ k → k ≤ n → HasEnded words k (ended_at ended k)
