use Rattle.std.specs.Prelude.{◌≡◌, ◌<◌, ◌+◌, ◌^◌, ℕ, false, List, Option, Some, None, length, slice_get}
use Rattle.dn_word.specs.declared.positions.Position.{Position}
use Rattle.dn_hist.specs.declared.receipts.Receipt.{Receipt}
use Rattle.dn_route.specs.SessionState.{opened}
use Rattle.dn_lane.specs.Refused.{refusal_of}
use Rattle.dn_lane.specs.State.{LaneState}
use Rattle.dn_lane.specs.Turns.{turn_of, ending_of}
use Rattle.dn_lane.specs.declared.answers.Refuse.{Refuse}
use Rattle.dn_callers.specs.Sessions.{IsSession}
use Rattle.dn_cluster.specs.State.{ClusterState, numbered}
use Rattle.dn_cluster.specs.Machine.{lane_in}
use Rattle.dn_cluster.specs.Changed.{made_at}
use Rattle.dn_cluster.specs.declared.nodes.Node.{Node}
use Rattle.dn_cluster.specs.declared.clients.Client.{Client}
use Rattle.dn_cluster.specs.declared.clusters.AddFault.{AddFault}
use Rattle.dn_cluster.specs.declared.clusters.AddFault.TheVariants.{Lanes, OutOfMemory}

-- What calls ask for, and how they refuse.

-- why the lane with a number would begin nothing, if it runs
abbrev pub refused_by : Option LaneState → Option Refuse
refused_by None = None
refused_by (Some l) = refusal_of l

abbrev pub refused_in : ClusterState → ℕ → Option Refuse
refused_in c n = refused_by (lane_in (numbered c.nodes n))

-- the receipt of the put or delete that its next action would end as made
abbrev pub ending_by : Option LaneState → Option Receipt
ending_by None = None
ending_by (Some l) = ending_of l

abbrev pub ending_in : ClusterState → ℕ → Option Receipt
ending_in c n = ending_by (lane_in (numbered c.nodes n))

-- no lane is added to so many
abbrev pub IsAddFault : ℕ → AddFault → Type 0
IsAddFault made (Lanes told) = (told ≡ made) × (made ≡ 63)
IsAddFault made OutOfMemory = made < 63

-- ---- where lanes and sessions stand
-- lane n stands there, and runs
pub record RunsAt (c : ClusterState) (n at : ℕ) : Type 0 where
  pub number : at + 1 ≡ n
  pub node : Node
  pub is : slice_get c.nodes at ≡ Some node
  pub runs : node.stopped ≡ false

-- a lane stands there whose call, if it is made by this word, is a session's, with a stamp in its range
pub record TakesAt (c : ClusterState) (at word : ℕ) : Type 0 where
  pub node : Node
  pub is : slice_get c.nodes at ≡ Some node
  pub session : (to : Position) → made_at (turn_of node.lane word) ≡ Some to → IsSession to.session
  pub stamp : (to : Position) → made_at (turn_of node.lane word) ≡ Some to → to.stamp < 2 ^ 31

-- so many sessions before their first calls
abbrev pub fresh_client : ℕ → Client
fresh_client number = record { session = opened number; closed = false; load = None }

pub record AreFresh (count : ℕ) (clients : List Client) : Type 0 where
  pub all : length clients ≡ count
  pub each : (k : ℕ) → k < count → slice_get clients k ≡ Some (fresh_client (k + 1))
