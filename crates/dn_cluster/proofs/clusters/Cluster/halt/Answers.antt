use Rattle.std.proofs.Common.{◌≡◌, ◌<◌, length, slice_get, true, Some, sym, ◌∙◌, ap, subst}
use Rattle.std.proofs.lemmas.Option.{same_Some}
use Rattle.dn_lane.specs.State.{LaneState}
use Rattle.dn_lane.specs.Turns.{ending_of}
use Rattle.dn_cluster.specs.State.{ClusterState}
use Rattle.dn_cluster.specs.Changed.{with_node}
use Rattle.dn_cluster.specs.Inside.{state_of, IsNode}
use Rattle.dn_cluster.specs.declared.nodes.Node.{Node}
use Rattle.dn_cluster.proofs.Giving.{stopped_node}
use Rattle.dn_cluster.proofs.Kept.{node_kept}
use Rattle.dn_cluster.proofs.Places.{seen_node}
use Rattle.dn_cluster.proofs.clusters.Cluster.halt.Goals as goal

pub invariant_of-self : goal.invariant_of-self
invariant_of-self c =
    let b : ClusterState = state_of c.self.inside in
    let is : slice_get c.args.self.now.nodes c.args.at ≡ Some c.index_mut-node.result.now =
    seen_node b c.args.self.now c.args.at c.index_mut-node.result.now c.self.view_is (subst (λ (y : ClusterState). c.args.at < length y.nodes) (sym c.self.view_is) c.requires) c.index_mut-node.ensures.value in
    let was : IsNode b.segments c.args.at c.index_mut-node.result.now = c.self.invariant.nodes c.args.at c.index_mut-node.result.now (ap (λ (y : ClusterState). slice_get y.nodes c.args.at) c.self.view_is ∙ is) in
    let own : IsNode b.segments c.args.at (stopped_node c.index_mut-node.result.now) = record { number = was.number; pool = was.pool; caller = tt } in
    node_kept b c.args.at (record c.index_mut-node.result.now { lane = c.halt.new.self; stopped = true }) c.self.invariant
    (subst (λ (l : LaneState). IsNode b.segments c.args.at (record c.index_mut-node.result.now { lane = l; stopped = true })) (sym c.halt.ensures.lane) own)

pub returns-clause-receipt : goal.returns-clause-receipt
returns-clause-receipt c = λ x e.
    let b : ClusterState = state_of c.self.inside in
    let is : slice_get c.args.self.now.nodes c.args.at ≡ Some c.index_mut-node.result.now =
    seen_node b c.args.self.now c.args.at c.index_mut-node.result.now c.self.view_is (subst (λ (y : ClusterState). c.args.at < length y.nodes) (sym c.self.view_is) c.requires) c.index_mut-node.ensures.value in
    c.halt.ensures.receipt ∙ ap (λ (y : Node). ending_of y.lane) (same_Some c.index_mut-node.result.now x (sym is ∙ e))

pub returns-clause-after : goal.returns-clause-after
returns-clause-after c = λ x e.
    let b : ClusterState = state_of c.self.inside in
    let is : slice_get c.args.self.now.nodes c.args.at ≡ Some c.index_mut-node.result.now =
    seen_node b c.args.self.now c.args.at c.index_mut-node.result.now c.self.view_is (subst (λ (y : ClusterState). c.args.at < length y.nodes) (sym c.self.view_is) c.requires) c.index_mut-node.ensures.value in
    ap (λ (l : LaneState). with_node b c.args.at (record c.index_mut-node.result.now { lane = l; stopped = true })) c.halt.ensures.lane
    ∙ ap (λ (y : ClusterState). with_node y c.args.at (stopped_node c.index_mut-node.result.now)) c.self.view_is
    ∙ ap (λ (y : Node). with_node c.args.self.now c.args.at (stopped_node y)) (same_Some c.index_mut-node.result.now x (sym is ∙ e))
