use Rattle.std.proofs.Common.{ℕ, ◌≡◌, ◌<◌, ◌^◌, Option, Some, None, length, slice_get, get_or, refl, sym, ◌∙◌, ap}
use Rattle.std.proofs.lemmas.List.{length-set}
use Rattle.std.proofs.lemmas.Option.{same_Some, slice_get_within, slice_get_read}
use Rattle.dn_word.specs.declared.positions.Position.{Position}
use Rattle.dn_lane.specs.State.{LaneState}
use Rattle.dn_lane.specs.Turns.{turn_of, left_of}
use Rattle.dn_lane.specs.declared.answers.Turn.{Turn}
use Rattle.dn_callers.specs.Sessions.{IsSession}
use Rattle.dn_cluster.specs.State.{ClusterState, numbered}
use Rattle.dn_cluster.specs.Asks.{TakesAt}
use Rattle.dn_cluster.specs.Changed.{with_node, heard_by, made_at, answered_in}
use Rattle.dn_cluster.specs.declared.clients.Client.{Client}
use Rattle.dn_cluster.specs.declared.nodes.Node.{Node}
use Rattle.dn_cluster.proofs.Events.{left_node}

-- A lane that stands there has taken a word.

pub record HasTaken (c : ClusterState) (at word : ℕ) (x : Node) (l : LaneState) (turn : Turn) : Type 0 where
  pub takes : TakesAt c at word
  pub is : slice_get c.nodes at ≡ Some x
  pub turn_is : turn ≡ turn_of x.lane word
  pub lane_is : l ≡ left_of x.lane word

pub has_taken : (c : ClusterState) (at word : ℕ) (x : Node) (l : LaneState) (turn : Turn) → TakesAt c at word → x ≡ get_or c.nodes at x → turn ≡ turn_of x.lane word → l ≡ left_of x.lane word → HasTaken c at word x l turn
has_taken c at word x l turn h e t u = record {
  takes = h;
  is = slice_get_read c.nodes (length c.nodes) at x refl (slice_get_within c.nodes at h.node h.is) e;
  turn_is = t;
  lane_is = u;
}

-- it is the lane of which this was asked
pub its_node : (c : ClusterState) (at word : ℕ) (x : Node) (l : LaneState) (turn : Turn) → HasTaken c at word x l turn → (y : Node) → slice_get c.nodes at ≡ Some y → x ≡ y
its_node c at word x l turn h y e = same_Some x y (sym h.is ∙ e)

pub taken_turn : (c : ClusterState) (at word : ℕ) (x : Node) (l : LaneState) (turn : Turn) → HasTaken c at word x l turn → (y : Node) → slice_get c.nodes at ≡ Some y → turn ≡ turn_of y.lane word
taken_turn c at word x l turn h y e = h.turn_is ∙ ap (λ (z : Node). turn_of z.lane word) (its_node c at word x l turn h y e)

pub taken_session : (c : ClusterState) (at word : ℕ) (x : Node) (l : LaneState) (turn : Turn) → HasTaken c at word x l turn → (to : Position) → made_at turn ≡ Some to → IsSession to.session
taken_session c at word x l turn h to e = h.takes.session to (ap made_at (sym (taken_turn c at word x l turn h h.takes.node h.takes.is)) ∙ e)

pub taken_stamp : (c : ClusterState) (at word : ℕ) (x : Node) (l : LaneState) (turn : Turn) → HasTaken c at word x l turn → (to : Position) → made_at turn ≡ Some to → to.stamp < 2 ^ 31
taken_stamp c at word x l turn h to e = h.takes.stamp to (ap made_at (sym (taken_turn c at word x l turn h h.takes.node h.takes.is)) ∙ e)

-- what the cluster is then
pub taken_after : (c d : ClusterState) (at word : ℕ) (x : Node) (l : LaneState) (turn : Turn) (o : Option Position) → HasTaken c at word x l turn → made_at turn ≡ o → d ≡ answered_in (with_node c at (record x { lane = l })) o
    → (y : Node) → slice_get c.nodes at ≡ Some y → d ≡ answered_in (with_node c at (left_node y word)) (made_at turn)
taken_after c d at word x l turn o h is after y e =
    after ∙ ap (λ (p : Option Position). answered_in (with_node c at (record x { lane = l })) p) (sym is)
    ∙ ap (λ (k : LaneState). answered_in (with_node c at (record x { lane = k })) (made_at turn)) h.lane_is
    ∙ ap (λ (z : Node). answered_in (with_node c at (left_node z word)) (made_at turn)) (its_node c at word x l turn h y e)

-- and its pool has as many segments
pub heard_segments : (c : ClusterState) (s : ℕ) (position : Position) (o : Option Client) → (heard_by c s position o).segments ≡ c.segments
heard_segments c s position None = refl
heard_segments c s position (Some x) = refl

answered_segments : (c : ClusterState) (o : Option Position) → (answered_in c o).segments ≡ c.segments
answered_segments c None = refl
answered_segments c (Some to) = heard_segments c to.session to (numbered c.clients to.session)

pub taken_segments : (c d : ClusterState) (at : ℕ) (x : Node) (o : Option Position) → d ≡ answered_in (with_node c at x) o → d.segments ≡ c.segments
taken_segments c d at x o after = ap (λ (y : ClusterState). y.segments) after ∙ answered_segments (with_node c at x) o

-- and as many lanes
pub heard_lanes : (c : ClusterState) (s : ℕ) (position : Position) (o : Option Client) → length (heard_by c s position o).nodes ≡ length c.nodes
heard_lanes c s position None = refl
heard_lanes c s position (Some x) = refl

answered_lanes : (c : ClusterState) (o : Option Position) → length (answered_in c o).nodes ≡ length c.nodes
answered_lanes c None = refl
answered_lanes c (Some to) = heard_lanes c to.session to (numbered c.clients to.session)

pub taken_lanes : (c d : ClusterState) (at : ℕ) (x : Node) (o : Option Position) → d ≡ answered_in (with_node c at x) o → length d.nodes ≡ length c.nodes
taken_lanes c d at x o after = ap (λ (y : ClusterState). length y.nodes) after ∙ answered_lanes (with_node c at x) o ∙ length-set c.nodes at x
