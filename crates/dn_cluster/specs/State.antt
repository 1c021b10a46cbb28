use Rattle.std.specs.Prelude.{ℕ, ◌-◌, List, Option, None, slice_get, nat_lt, if◌then◌else◌}
use Rattle.dn_monitor.specs.Monitor.{Monitoring}
use Rattle.dn_cluster.specs.declared.nodes.Node.{Node}
use Rattle.dn_cluster.specs.declared.clients.Client.{Client}

-- A cluster, which has no words: lanes with their mergers, the monitor's order if one is under way, and sessions, in a
-- pool of so many segments. Lanes and sessions stand in the order of their numbers, which begin with 1.
pub record ClusterState : Type 0 where
  pub segments : ℕ
  pub nodes : List Node
  pub monitor : Option Monitoring
  pub clients : List Client

-- that with a number, from 1
abbrev pub numbered : {A : Type 0} → List A → ℕ → Option A
numbered xs n = if nat_lt 0 n then slice_get xs (n - 1) else None
