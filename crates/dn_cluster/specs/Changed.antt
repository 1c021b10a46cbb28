use Rattle.std.specs.Prelude.{ℕ, ◌-◌, Option, Some, None, slice_set}
use Rattle.dn_word.specs.declared.positions.Position.{Position}
use Rattle.dn_hist.specs.declared.receipts.Receipt.{Receipt}
use Rattle.dn_route.specs.SessionState.{heard}
use Rattle.dn_lane.specs.declared.answers.Turn.{Turn}
use Rattle.dn_lanes.specs.Stepped.{receipt_by}
use Rattle.dn_cluster.specs.State.{ClusterState, numbered}
use Rattle.dn_cluster.specs.declared.nodes.Node.{Node}
use Rattle.dn_cluster.specs.declared.clients.Client.{Client}

-- A cluster in which one node or one client is another.

abbrev pub with_node : ClusterState → ℕ → Node → ClusterState
with_node c at x = record c { nodes = slice_set c.nodes at x }

abbrev pub with_client : ClusterState → ℕ → Client → ClusterState
with_client c at x = record c { clients = slice_set c.clients at x }

-- a session has heard of a position
abbrev pub hears : Client → Position → Client
hears x position = record x { session = heard x.session position }

abbrev pub heard_by : ClusterState → ℕ → Position → Option Client → ClusterState
heard_by c s position None = c
heard_by c s position (Some x) = with_client c (s - 1) (hears x position)

abbrev pub heard_at : ClusterState → ℕ → Position → ClusterState
heard_at c s position = heard_by c s position (numbered c.clients s)

-- the session of a call that is made has heard of its position
abbrev pub position_in : Option Receipt → Option Position
position_in None = None
position_in (Some r) = Some r.position

abbrev pub made_at : Turn → Option Position
made_at turn = position_in (receipt_by turn)

abbrev pub answered_in : ClusterState → Option Position → ClusterState
answered_in c None = c
answered_in c (Some position) = heard_at c position.session position
