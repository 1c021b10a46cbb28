use Rattle.std.specs.Prelude.{ℕ, List, length}
use Rattle.dn_route.specs.CallersOrder.{Told}
use Rattle.dn_callers.specs.Callers.{Standing}
use Rattle.dn_cluster.specs.Machine.{machine_of}
use Rattle.dn_cluster.specs.State.{ClusterState}
use Rattle.dn_drain.specs.declared.drains.Merged.{Merged}
use Rattle.dn_waiting.specs.State.{WaitingState}
use Rattle.dn_outcomes.specs.State.{World}

-- A cluster with what waits for its lanes, and the lanes that are live.
pub record CrewState : Type 0 where
  pub cluster : ClusterState
  pub waiting : WaitingState
  pub live : List ℕ

-- the world that it is over given words, with these told positions and these receipts that stand
abbrev pub world_of : List ℕ → CrewState → List Told → List Standing → World
world_of words x told receipts = record {
  segments = x.cluster.segments;
  made = length x.cluster.nodes;
  machine = machine_of words x.cluster told receipts;
  waiting = x.waiting;
  live = x.live;
}

-- a crew, the receipts that stand, and what the last drain of each lane ended with, by their numbers
pub record WorldState : Type 0 where
  pub crew : CrewState
  pub history : List Standing
  pub ended : List Merged
