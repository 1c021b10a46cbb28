use Rattle.std.specs.Prelude.{◌≡◌, ◌≢◌, ◌<◌, ◌≤◌, ◌+◌, ◌^◌, ℕ, Some, length, slice_get}
use Rattle.dn_monitor.specs.Monitor.{Monitoring}
use Rattle.dn_monitor.specs.declared.places.MonitorPlace.TheVariants.{Done}
use Rattle.dn_lane.specs.declared.asked.Asked.{Asked}
use Rattle.dn_lane.specs.declared.asked.Asked.TheVariants as asked
use Rattle.dn_callers.specs.Sessions.{IsSession}
use Rattle.dn_cluster.specs.State.{ClusterState}
use Rattle.dn_cluster.specs.declared.nodes.Node.{Node}
use Rattle.dn_cluster.specs.declared.clients.Client.{Client}
use Rattle.dn_cluster.specs.declared.clusters.Cluster.TheInside.{Inside}

abbrev pub state_of : Inside → ClusterState
state_of i = record { segments = i.segments; nodes = i.nodes.items; monitor = i.monitor; clients = i.clients.items }

-- a call is one of a session
abbrev pub IsCaller : Asked → Type 0
IsCaller asked.Nothing = Unit {0}
IsCaller (asked.Call call view room) = IsSession view.session
IsCaller asked.Task = Unit {0}

-- a lane with its merger, and a session, at a place from 0 in a cluster for so many segments
pub record IsNode (segments at : ℕ) (x : Node) : Type 0 where
  pub number : x.lane.base.known.log.lane ≡ at + 1
  pub pool : x.lane.base.known.log.pool ≡ segments
  pub caller : IsCaller x.lane.asked

pub record IsClient (x : Client) : Type 0 where
  pub load : (slot : ℕ) → x.load ≡ Some slot → slot < 64
  pub stamp : x.session.last.stamp < 2 ^ 31

-- What is so of each cluster, whatever the words of its pool.
pub record IsCluster (c : ClusterState) : Type 0 where
  pub segments : c.segments ≤ 8192
  pub lanes : length c.nodes ≤ 63
  pub sessions : length c.clients ≡ 1000
  pub nodes : (k : ℕ) (x : Node) → slice_get c.nodes k ≡ Some x → IsNode c.segments k x
  pub clients : (k : ℕ) (x : Client) → slice_get c.clients k ≡ Some x → IsClient x
  pub order : (x : Monitoring) → c.monitor ≡ Some x → x.place ≢ Done

abbrev pub IsInside : Inside → Type 0
IsInside i = IsCluster (state_of i)
