use Rattle.std.specs.Prelude.{◌≡◌, ◌<◌, ℕ, List, Option, Some, None}
use Rattle.dn_merge.specs.declared.mergers.MergeTurn.{MergeTurn}
use Rattle.dn_merge.specs.declared.mergers.MergeTurn.TheVariants as turn
use Rattle.dn_machine.specs.Events.{Merger, Fails}
use Rattle.dn_cluster.specs.State.{ClusterState}
use Rattle.dn_cluster.specs.Does.{FailsAs}
use Rattle.dn_drain.specs.Alone.{alone_in, answer_by, step_by}
use Rattle.dn_drain.specs.Acted.{HasActed}
use Rattle.dn_drain.specs.Drained.{idle_of}
use Rattle.dn_drain.specs.declared.drains.Merged.{Merged}
use Rattle.dn_drain.specs.declared.drains.DrainFault.{DrainFault}
use Rattle.dn_drain.specs.declared.drains.DrainFault.TheVariants.{Pool, IndexFull}

-- What comes of one action of lane n's merger.

abbrev pub turn_in : Option Merged → MergeTurn
turn_in None = turn.More
turn_in (Some merged) = idle_of merged

pub record IsStepped (words : List ℕ) (c : ClusterState) (now : List ℕ) (d : ClusterState) (n : ℕ) (answer : MergeTurn) : Type 0 where
  pub answer_is : answer_by (alone_in words c n) ≡ answer
  pub after : alone_in now d n ≡ step_by (alone_in words c n)
  pub acted : HasActed words c now d n 1

abbrev pub IsStepFault : List ℕ → ClusterState → List ℕ → ClusterState → ℕ → DrainFault → Type 0
IsStepFault words c now d n Pool = (d ≡ c) × FailsAs words c now (Fails (Merger n))
IsStepFault words c now d n (IndexFull counter) = IsStepped words c now d n (turn.IndexFull counter)

-- an action behind which the turn or the next one goes on leaves fewer
abbrev pub Falls : ℕ → ℕ → Option Merged → Type 0
Falls old new None = new < old
Falls old new (Some merged) = Unit {0}
