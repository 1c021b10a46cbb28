use Rattle.std.proofs.Common.{◌≡◌, ◌<◌, length, slice_get, Some, sym, ◌∙◌, ap, subst}
use Rattle.std.proofs.lemmas.Option.{same_Some}
use Rattle.dn_cluster.specs.State.{ClusterState}
use Rattle.dn_cluster.specs.Changed.{with_node}
use Rattle.dn_cluster.specs.Inside.{state_of, IsNode}
use Rattle.dn_cluster.specs.declared.nodes.Node.{Node}
use Rattle.dn_lane.specs.State.{LaneState}
use Rattle.dn_cluster.proofs.Kept.{node_kept}
use Rattle.dn_cluster.proofs.OtherEvents.{flowed_node}
use Rattle.dn_cluster.proofs.Places.{seen_node}
use Rattle.dn_cluster.proofs.clusters.Cluster.lane_flows.Goals as goal

pub returns : goal.returns
returns c = λ x e.
    let b : ClusterState = state_of c.self.inside in
    let is : slice_get c.args.self.now.nodes c.args.at ≡ Some c.index_mut.result.now =
    seen_node b c.args.self.now c.args.at c.index_mut.result.now c.self.view_is (subst (λ (y : ClusterState). c.args.at < length y.nodes) (sym c.self.view_is) c.requires) c.index_mut.ensures.value in
    ap (λ (l : LaneState). with_node b c.args.at (record c.index_mut.result.now { lane = l })) c.flowed.ensures
    ∙ ap (λ (y : ClusterState). with_node y c.args.at (flowed_node c.index_mut.result.now c.args.index)) c.self.view_is
    ∙ ap (λ (y : Node). with_node c.args.self.now c.args.at (flowed_node y c.args.index)) (same_Some c.index_mut.result.now x (sym is ∙ e))

pub invariant_of-self : goal.invariant_of-self
invariant_of-self c =
    let b : ClusterState = state_of c.self.inside in
    let is : slice_get c.args.self.now.nodes c.args.at ≡ Some c.index_mut.result.now =
    seen_node b c.args.self.now c.args.at c.index_mut.result.now c.self.view_is (subst (λ (y : ClusterState). c.args.at < length y.nodes) (sym c.self.view_is) c.requires) c.index_mut.ensures.value in
    let was : IsNode b.segments c.args.at c.index_mut.result.now = c.self.invariant.nodes c.args.at c.index_mut.result.now (ap (λ (y : ClusterState). slice_get y.nodes c.args.at) c.self.view_is ∙ is) in
    let own : IsNode b.segments c.args.at (flowed_node c.index_mut.result.now c.args.index) = record { number = was.number; pool = was.pool; caller = was.caller } in
    node_kept b c.args.at (record c.index_mut.result.now { lane = c.flowed.new.self }) c.self.invariant
    (subst (λ (l : LaneState). IsNode b.segments c.args.at (record c.index_mut.result.now { lane = l })) (sym c.flowed.ensures) own)
