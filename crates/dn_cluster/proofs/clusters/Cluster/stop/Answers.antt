use Rattle.std.proofs.Common.{length, ℕ, ◌≡◌, ◌<◌, ◌≤◌, slice_get, refl, sym, ◌∙◌, ap, arith}
use Rattle.std.proofs.lemmas.List.{length-set}
use Rattle.dn_lane.specs.Asked.{view_in}
use Rattle.dn_cluster.specs.State.{ClusterState}
use Rattle.dn_cluster.specs.Asks.{RunsAt}
use Rattle.dn_cluster.specs.Changed.{with_node, with_client}
use Rattle.dn_cluster.specs.Inside.{state_of, IsNode, IsClient}
use Rattle.dn_cluster.specs.declared.nodes.Node.{Node}
use Rattle.dn_cluster.specs.declared.clients.Client.{Client}
use Rattle.dn_cluster.proofs.Giving.{stopped_node, closed_client, stops_alone, stops_call}
use Rattle.dn_cluster.proofs.Kept.{client_kept}
use Rattle.dn_cluster.proofs.Places.{now_running, HasClient, now_client}
use Rattle.dn_cluster.proofs.clusters.Cluster.stop.Goals as goal

pub invariant_of-self : goal.invariant_of-self
invariant_of-self c =
    let b : ClusterState = state_of c.self.inside in
    let n : ℕ = c.args.lane in
    let at : ℕ = c.in_ok-at.at in
    let x : Node = c.index.result.now in
    let r : RunsAt c.args.self.now n at = now_running b c.args.self.now n at c.in_ok-at.ensures.some x c.self.view_is c.index.ensures in
    let after : c.halt-receipt.new.self ≡ with_node c.args.self.now at (stopped_node x) = c.halt-receipt.ensures.after x r.is in
    let e : ClusterState = state_of c.self-2.inside in
    let so : e ≡ with_node c.args.self.now at (stopped_node x) = c.self-2.view_is ∙ after in
    let y : Client = c.index_mut.result.now in
    let h : HasClient (with_node c.args.self.now at (stopped_node x)) c.session-session.result c.in-Some.at =
    now_client e (with_node c.args.self.now at (stopped_node x)) c.session-session.result c.in-Some.at y so c.in-Some.ensures.some.0 (omega (arith, c.in-Some.ensures.some.1, c.len.ensures)) c.index_mut.ensures.value in
    let was : IsClient y = c.self-2.invariant.clients c.in-Some.at y (ap (λ (z : ClusterState). slice_get z.clients c.in-Some.at) so ∙ h.is) in
    client_kept e c.in-Some.at (closed_client y) c.self-2.invariant (record { load = was.load; stamp = was.stamp })

pub returns-in-Some-clause-does : goal.returns-in-Some-clause-does
returns-in-Some-clause-does c =
    let b : ClusterState = state_of c.self.inside in
    let n : ℕ = c.args.lane in
    let at : ℕ = c.in_ok-at.at in
    let x : Node = c.index.result.now in
    let r : RunsAt c.args.self.now n at = now_running b c.args.self.now n at c.in_ok-at.ensures.some x c.self.view_is c.index.ensures in
    let after : c.halt-receipt.new.self ≡ with_node c.args.self.now at (stopped_node x) = c.halt-receipt.ensures.after x r.is in
    let e : ClusterState = state_of c.self-2.inside in
    let so : e ≡ with_node c.args.self.now at (stopped_node x) = c.self-2.view_is ∙ after in
    let y : Client = c.index_mut.result.now in
    let h : HasClient (with_node c.args.self.now at (stopped_node x)) c.session-session.result c.in-Some.at =
    now_client e (with_node c.args.self.now at (stopped_node x)) c.session-session.result c.in-Some.at y so c.in-Some.ensures.some.0 (omega (arith, c.in-Some.ensures.some.1, c.len.ensures)) c.index_mut.ensures.value in
    stops_call c.args.self.now _ n at c.session-session.result c.in-Some.at r (record { number = h.number; client = y; is = h.is }) x.lane.asked refl (sym c.session-session.ensures)
    (ap (λ (z : ClusterState). with_client z c.in-Some.at (closed_client y)) so)

pub returns-in-Some-clause-segments : goal.returns-in-Some-clause-segments
returns-in-Some-clause-segments c =
    let b : ClusterState = state_of c.self.inside in
    let n : ℕ = c.args.lane in
    let at : ℕ = c.in_ok-at.at in
    let x : Node = c.index.result.now in
    let r : RunsAt c.args.self.now n at = now_running b c.args.self.now n at c.in_ok-at.ensures.some x c.self.view_is c.index.ensures in
    let after : c.halt-receipt.new.self ≡ with_node c.args.self.now at (stopped_node x) = c.halt-receipt.ensures.after x r.is in
    ap (λ (z : ClusterState). z.segments) (c.self-2.view_is ∙ after)

pub returns-in_default-clause-does : goal.returns-in_default-clause-does
returns-in_default-clause-does c =
    let b : ClusterState = state_of c.self.inside in
    let n : ℕ = c.args.lane in
    let at : ℕ = c.in_ok-at.at in
    let x : Node = c.index.result.now in
    let r : RunsAt c.args.self.now n at = now_running b c.args.self.now n at c.in_ok-at.ensures.some x c.self.view_is c.index.ensures in
    let after : c.halt-receipt.new.self ≡ with_node c.args.self.now at (stopped_node x) = c.halt-receipt.ensures.after x r.is in
    let was : IsNode b.segments at x = c.self.invariant.nodes at x (ap (λ (z : ClusterState). slice_get z.nodes at) c.self.view_is ∙ r.is) in
    let few : 1 ≤ (view_in x.lane.asked).session → 1000 < (view_in x.lane.asked).session = λ pos.
    omega (arith, c.in_default.ensures.none refl (omega (arith, pos, c.session-session.ensures)), c.session-session.ensures, c.len.ensures, c.self-2.invariant.sessions) in
    stops_alone c.args.self.now c.halt-receipt.new.self n at r x.lane.asked refl was.caller few after

pub returns-in_default-clause-segments : goal.returns-in_default-clause-segments
returns-in_default-clause-segments c =
    let b : ClusterState = state_of c.self.inside in
    let n : ℕ = c.args.lane in
    let at : ℕ = c.in_ok-at.at in
    let x : Node = c.index.result.now in
    let r : RunsAt c.args.self.now n at = now_running b c.args.self.now n at c.in_ok-at.ensures.some x c.self.view_is c.index.ensures in
    let after : c.halt-receipt.new.self ≡ with_node c.args.self.now at (stopped_node x) = c.halt-receipt.ensures.after x r.is in
    ap (λ (z : ClusterState). z.segments) after

pub returns-in-Some-clause-lanes : goal.returns-in-Some-clause-lanes
returns-in-Some-clause-lanes c =
    let b : ClusterState = state_of c.self.inside in
    let n : ℕ = c.args.lane in
    let at : ℕ = c.in_ok-at.at in
    let x : Node = c.index.result.now in
    let r : RunsAt c.args.self.now n at = now_running b c.args.self.now n at c.in_ok-at.ensures.some x c.self.view_is c.index.ensures in
    let after : c.halt-receipt.new.self ≡ with_node c.args.self.now at (stopped_node x) = c.halt-receipt.ensures.after x r.is in
    ap (λ (z : ClusterState). length z.nodes) (c.self-2.view_is ∙ after) ∙ length-set c.args.self.now.nodes at (stopped_node x)

pub returns-in_default-clause-lanes : goal.returns-in_default-clause-lanes
returns-in_default-clause-lanes c =
    let b : ClusterState = state_of c.self.inside in
    let n : ℕ = c.args.lane in
    let at : ℕ = c.in_ok-at.at in
    let x : Node = c.index.result.now in
    let r : RunsAt c.args.self.now n at = now_running b c.args.self.now n at c.in_ok-at.ensures.some x c.self.view_is c.index.ensures in
    let after : c.halt-receipt.new.self ≡ with_node c.args.self.now at (stopped_node x) = c.halt-receipt.ensures.after x r.is in
    ap (λ (z : ClusterState). length z.nodes) after ∙ length-set c.args.self.now.nodes at (stopped_node x)
