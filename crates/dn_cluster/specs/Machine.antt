use Rattle.std.specs.Prelude.{◌≡◌, ◌≤◌, ℕ, false, Bool, List, Option, Some, None, if◌then◌else◌, length}
use Rattle.dn_lane.specs.State.{LaneState}
use Rattle.dn_merge.specs.Merge.{Merging}
use Rattle.dn_route.specs.SessionState.{SessionState, opened}
use Rattle.dn_route.specs.CallersOrder.{Told}
use Rattle.dn_callers.specs.Callers.{Standing}
use Rattle.dn_machine.specs.State.{Machine}
use Rattle.dn_cluster.specs.State.{ClusterState, numbered}
use Rattle.dn_cluster.specs.declared.nodes.Node.{Node}
use Rattle.dn_cluster.specs.declared.clients.Client.{Client}

-- The machine that a cluster is over given words. A cluster keeps neither the receipts nor what sessions were told: they
-- are whatever the calls before have led to.

abbrev pub lane_in : Option Node → Option LaneState
lane_in None = None
lane_in (Some x) = if x.stopped then None else Some x.lane

abbrev pub merger_in : Option Node → Option Merging
merger_in None = None
merger_in (Some x) = Some x.merger

abbrev pub session_in : ℕ → Option Client → SessionState
session_in s None = opened s
session_in s (Some x) = x.session

abbrev pub closed_in : Option Client → Bool
closed_in None = false
closed_in (Some x) = x.closed

abbrev pub load_in : Option Client → Option ℕ
load_in None = None
load_in (Some x) = x.load

abbrev pub machine_of : List ℕ → ClusterState → List Told → List Standing → Machine
machine_of words c told receipts = record {
  words = words;
  lanes = λ n. lane_in (numbered c.nodes n);
  mergers = λ n. merger_in (numbered c.nodes n);
  monitor = c.monitor;
  callers = record {
    sessions = λ s. session_in s (numbered c.clients s);
    closed = λ s. closed_in (numbered c.clients s);
    told = told;
    receipts = receipts;
  };
  loads = λ s. load_in (numbered c.clients s);
}

-- ---- what a call may ask of a number
-- a lane with this number was made, and one that runs
abbrev pub IsMade : ClusterState → ℕ → Type 0
IsMade c n = (1 ≤ n) × (n ≤ length c.nodes)

abbrev pub Runs : ClusterState → ℕ → Type 0
Runs c n = (l : LaneState) × (lane_in (numbered c.nodes n) ≡ Some l)

abbrev pub session_at : ClusterState → ℕ → SessionState
session_at c s = session_in s (numbered c.clients s)

abbrev pub IsOpen : ClusterState → ℕ → Type 0
IsOpen c s = closed_in (numbered c.clients s) ≡ false
