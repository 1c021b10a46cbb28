use Rattle.std.proofs.Common.{ℕ, ◌<◌, ◌^◌, ◌≡◌, ◌≢◌, Bool, true, false, [], ◌∷◌, ◌++◌, Option, Some, Result, Ok, Err, OnOk, OnErr, length, if◌then◌else◌, sym, ◌∙◌, subst, arith}
use Rattle.std.proofs.lemmas.List.{length-set, length-append}
use Rattle.std.specs.Ordering.{is_lt}
use Rattle.dn_word.specs.declared.positions.Position.{Position}
use Rattle.dn_hist.specs.Receipt.{position_cmp}
use Rattle.dn_hist.specs.declared.calls.Call.{Call}
use Rattle.dn_hist.specs.declared.receipts.SessionView.{SessionView}
use Rattle.dn_tend.specs.declared.tasks.Task.{Task}
use Rattle.dn_lane.specs.Fit.{SameLane}
use Rattle.dn_lane.specs.State.{LaneState, begun, begun_task}
use Rattle.dn_lane.specs.Taken.{Taken, taken_by}
use Rattle.dn_lane.specs.Turns.{left_of, left_going}
use Rattle.dn_lane.specs.declared.answers.Refuse.{Refuse}
use Rattle.dn_lane.specs.declared.asked.Asked.{Asked}
use Rattle.dn_lane.specs.declared.asked.Asked.TheVariants as asked
use Rattle.dn_lane.specs.declared.modes.Going.{Going}
use Rattle.dn_lane.specs.declared.modes.Going.TheVariants.{On, End}
use Rattle.dn_callers.specs.Sessions.{IsSession}
use Rattle.dn_machine.proofs.Calls.{SameCall, taken_same}
use Rattle.dn_monitor.specs.Monitor.{Monitoring}
use Rattle.dn_monitor.specs.declared.places.MonitorPlace.TheVariants.{Done}
use Rattle.dn_route.specs.SessionState.{greater_of}
use Rattle.dn_cluster.specs.State.{ClusterState}
use Rattle.dn_cluster.specs.Changed.{with_node, with_client, hears}
use Rattle.dn_cluster.specs.Inside.{IsCaller, IsNode, IsClient, IsCluster}
use Rattle.dn_cluster.specs.declared.nodes.Node.{Node}
use Rattle.dn_cluster.specs.declared.clients.Client.{Client}
use Rattle.dn_cluster.proofs.Numbers.{each_set, each_push}

-- What is so of a cluster stays so where one node, one client or the order is another.

pub node_kept : (c : ClusterState) (at : ℕ) (v : Node) → IsCluster c → IsNode c.segments at v → IsCluster (with_node c at v)
node_kept c at v h own = record {
  segments = h.segments;
  lanes = omega (arith, h.lanes, length-set c.nodes at v);
  sessions = h.sessions;
  nodes = each_set (λ k x. IsNode c.segments k x) c.nodes at v h.nodes own;
  clients = h.clients;
  order = h.order;
}

pub client_kept : (c : ClusterState) (at : ℕ) (y : Client) → IsCluster c → IsClient y → IsCluster (with_client c at y)
client_kept c at y h own = record {
  segments = h.segments;
  lanes = h.lanes;
  sessions = length-set c.clients at y ∙ h.sessions;
  nodes = h.nodes;
  clients = each_set (λ k x. IsClient x) c.clients at y h.clients own;
  order = h.order;
}

pub push_kept : (c : ClusterState) (v : Node) → IsCluster c → length c.nodes < 63 → IsNode c.segments (length c.nodes) v → IsCluster (record c { nodes = c.nodes ++ v ∷ [] })
push_kept c v h few own = record {
  segments = h.segments;
  lanes = omega (arith, few, length-append c.nodes (v ∷ []));
  sessions = h.sessions;
  nodes = each_push (λ k x. IsNode c.segments k x) c.nodes v h.nodes own;
  clients = h.clients;
  order = h.order;
}

-- ---- a session that hears of a position
greater_low : (a b : Position) → a.stamp < 2 ^ 31 → b.stamp < 2 ^ 31 → (greater_of a b).stamp < 2 ^ 31
greater_low a b la lb = by_test (is_lt (position_cmp a b)) where
  by_test : (t : Bool) → (if t then b else a).stamp < 2 ^ 31
  by_test true = lb
  by_test false = la

pub hears_kept : (x : Client) (position : Position) → IsClient x → position.stamp < 2 ^ 31 → IsClient (hears x position)
hears_kept x position h low = record { load = h.load; stamp = greater_low x.session.last position h.stamp low }

-- ---- a lane that begins, goes on, or is stopped
pub node_begun : (r : Result (Unit {0}) Refuse) (segments k : ℕ) (x : Node) (l : LaneState) (view : SessionView) (call : Call) → IsNode segments k x → IsSession view.session
    → OnOk r (l ≡ begun x.lane view call) → OnErr r (l ≡ x.lane) → IsNode segments k (record x { lane = l })
node_begun (Ok u) segments k x l view call h is ok err = subst (λ (y : LaneState). IsNode segments k (record x { lane = y })) (sym ok) (record { number = h.number; pool = h.pool; caller = is })
node_begun (Err e) segments k x l view call h is ok err = subst (λ (y : LaneState). IsNode segments k (record x { lane = y })) (sym err) h

pub node_tends : (r : Result (Unit {0}) Refuse) (segments k : ℕ) (x : Node) (l : LaneState) (task : Task) → IsNode segments k x
    → OnOk r (l ≡ begun_task x.lane task) → OnErr r (l ≡ x.lane) → IsNode segments k (record x { lane = l })
node_tends (Ok u) segments k x l task h ok err = subst (λ (y : LaneState). IsNode segments k (record x { lane = y })) (sym ok) (record { number = h.number; pool = h.pool; caller = tt })
node_tends (Err e) segments k x l task h ok err = subst (λ (y : LaneState). IsNode segments k (record x { lane = y })) (sym err) h

caller_same : (a b : Asked) → SameCall a b → IsCaller a → IsCaller b
caller_same asked.Nothing b h c = subst IsCaller (sym h) tt
caller_same (asked.Call call view room) b h c = subst IsCaller (sym h.1) c
caller_same asked.Task b h c = subst IsCaller (sym h) tt

caller_left : (l : LaneState) (word : ℕ) → IsCaller l.asked → IsCaller (left_of l word).asked
caller_left l word h = by_going t.going where
  t : Taken
  t = taken_by l.base l.asked l.mode word

  by_going : (going : Going) → IsCaller (left_going t.base t.asked going).asked
  by_going (On mode) = caller_same l.asked t.asked (taken_same l.base l.asked l.mode word) h
  by_going (End end) = tt

pub node_takes : (segments k : ℕ) (x : Node) (l : LaneState) (word : ℕ) → IsNode segments k x → l ≡ left_of x.lane word → SameLane x.lane.base l.base → IsNode segments k (record x { lane = l })
node_takes segments k x l word h is same = record {
  number = same.number ∙ h.number;
  pool = same.pool ∙ h.pool;
  caller = subst (λ (y : LaneState). IsCaller y.asked) (sym is) (caller_left x.lane word h.caller);
}
