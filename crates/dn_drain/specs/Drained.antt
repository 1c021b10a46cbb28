use Rattle.std.specs.Prelude.{◌≡◌, ◌⊎◌, ◌<◌, ◌≤◌, ℕ, ◌+◌, List}
use Rattle.dn_word.specs.Gate.{gate_of}
use Rattle.dn_word.specs.Regions.{overflow_counter_at}
use Rattle.dn_act.specs.Words.{word_at}
use Rattle.dn_model.specs.Regions.{gate, mark, gate_at, mark_at}
use Rattle.dn_merge.specs.declared.mergers.MergeTurn.{MergeTurn}
use Rattle.dn_merge.specs.declared.mergers.MergeTurn.TheVariants as turn
use Rattle.dn_machine.specs.Events.{Merger, Fails}
use Rattle.dn_cluster.specs.State.{ClusterState}
use Rattle.dn_cluster.specs.Does.{FailsAs}
use Rattle.dn_drain.specs.Alone.{alone_in}
use Rattle.dn_drain.specs.Ends.{GoesOn, Drains}
use Rattle.dn_drain.specs.Acted.{HasActed}
use Rattle.dn_drain.specs.declared.drains.Merged.{Merged}
use Rattle.dn_drain.specs.declared.drains.DrainFault.{DrainFault}
use Rattle.dn_drain.specs.declared.drains.DrainFault.TheVariants.{Pool, IndexFull}

-- What comes of a drain of lane n.

-- The merger has acted up to the first action that ends the drain, which had this answer.
pub record IsDrained (words : List ℕ) (c : ClusterState) (now : List ℕ) (d : ClusterState) (n : ℕ) (end : MergeTurn) : Type 0 where
  pub count : ℕ
  pub drains : Drains (alone_in words c n) count end
  pub acted : HasActed words c now d n count

-- The access of an action failed, which was done or not done, before any action had ended the drain.
pub record IsCutOff (words : List ℕ) (c : ClusterState) (now : List ℕ) (d : ClusterState) (n : ℕ) : Type 0 where
  pub count : ℕ
  pub goes_on : GoesOn (alone_in words c n) count
  -- the words before that action
  pub left : List ℕ
  pub acted : HasActed words c left d n count
  pub fails : FailsAs left d now (Fails (Merger n))

abbrev pub idle_of : Merged → MergeTurn
idle_of merged = turn.Idle merged.gate merged.mark

abbrev pub IsDrainFault : List ℕ → ClusterState → List ℕ → ClusterState → ℕ → DrainFault → Type 0
IsDrainFault words c now d n Pool = IsCutOff words c now d n
IsDrainFault words c now d n (IndexFull counter) = IsDrained words c now d n (turn.IndexFull counter)

-- ---- what that says of the words
-- these are the words of lane n's gate and mark, which name one length: all that the lane has sealed is merged
pub record IsMerged (words : List ℕ) (n : ℕ) (merged : Merged) : Type 0 where
  pub gate_is : word_at words (gate_at n) ≡ merged.gate
  pub mark_is : word_at words (mark_at n) ≡ merged.mark
  pub all : (gate_of merged.gate).len ≡ merged.mark

-- All 4,096 overflow buckets are claimed: the counter is the word that the last action found, and may have raised by 1. The
-- record at lane n's mark isn't merged.
pub record IsFull (words : List ℕ) (n counter : ℕ) : Type 0 where
  pub left : mark words n < (gate words n).len
  pub least : 4096 ≤ counter
  pub found : (word_at words overflow_counter_at ≡ counter) ⊎ (word_at words overflow_counter_at ≡ counter + 1)

abbrev pub IsFullFault : List ℕ → ℕ → DrainFault → Type 0
IsFullFault words n Pool = Unit {0}
IsFullFault words n (IndexFull counter) = IsFull words n counter

-- the count of failed accesses rose exactly at a fault of the pool
abbrev pub CountsPool : ℕ → ℕ → DrainFault → Type 0
CountsPool old new Pool = old < new
CountsPool old new (IndexFull counter) = new ≡ old
