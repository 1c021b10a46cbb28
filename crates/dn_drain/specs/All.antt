use Rattle.std.specs.Prelude.{◌≡◌, ◌<◌, ℕ, suc, zero, ◌+◌, List, Some, slice_get}
use Rattle.dn_route.specs.CallersOrder.{Told}
use Rattle.dn_callers.specs.Callers.{Standing}
use Rattle.dn_machine.specs.Sound.{IsSound}
use Rattle.dn_cluster.specs.State.{ClusterState}
use Rattle.dn_cluster.specs.Machine.{machine_of, IsMade}
use Rattle.dn_drain.specs.Drained.{IsDrained, idle_of, IsDrainFault, IsMerged}
use Rattle.dn_drain.specs.declared.drains.Merged.{Merged}
use Rattle.dn_drain.specs.declared.every.LaneFault.{LaneFault}

-- Lanes are drained one after the other.

-- lanes 1 to n were, each over the words and the cluster that the one before has left
abbrev pub AreDrained : List ℕ → ClusterState → ℕ → List ℕ → ClusterState → Type 0
AreDrained words c zero now d = (now ≡ words) × (d ≡ c)
AreDrained words c (suc n) now d = (left : List ℕ) × (b : ClusterState) × (merged : Merged)
    × AreDrained words c n left b × IsDrained left b now d (n + 1) (idle_of merged)

-- a fault ends it at a lane that was made
pub record IsLaneFault (words : List ℕ) (c : ClusterState) (now : List ℕ) (d : ClusterState) (at : LaneFault) : Type 0 where
  pub before : ℕ
  pub next : before + 1 ≡ at.lane
  pub made : IsMade d at.lane
  pub left : List ℕ
  pub cluster : ClusterState
  pub drained : AreDrained words c before left cluster
  pub fault : IsDrainFault left cluster now d at.lane at.fault

-- All that lanes 1 to n have sealed is merged: of each in its turn, these are the words of its gate and its mark.
pub record AreMerged (words : List ℕ) (n : ℕ) (ended : List Merged) : Type 0 where
  pub each : (k : ℕ) (merged : Merged) → k < n → slice_get ended k ≡ Some merged → IsMerged words (k + 1) merged

-- With the receipts and told positions with which the machine was sound before, it is sound after.
pub record StaysSound (words : List ℕ) (c : ClusterState) (now : List ℕ) (d : ClusterState) : Type 0 where
  pub is : (told : List Told) (receipts : List Standing) → IsSound c.segments (machine_of words c told receipts)
      → IsSound d.segments (machine_of now d told receipts)
