use Rattle.std.proofs.Common.{ℕ, ◌≡◌, ◌<◌, ◌+◌, ◌++◌, ◌∷◌, [], List, false, length, refl, sym, ◌∙◌, ap, subst, arith}
use Rattle.dn_merge.specs.Merge.{Merging, started}
use Rattle.dn_lane.specs.State.{LaneState, fresh}
use Rattle.dn_machine.specs.Events.{Adds}
use Rattle.dn_cluster.specs.State.{ClusterState}
use Rattle.dn_cluster.specs.Inside.{state_of, IsCluster}
use Rattle.dn_cluster.specs.declared.nodes.Node.{Node}
use Rattle.dn_cluster.proofs.Giving.{from, adds_with, adds_so}
use Rattle.dn_cluster.proofs.Kept.{push_kept}
use Rattle.dn_cluster.proofs.clusters.Cluster.add_lane.Goals as goal

pub invariant_of-self-2 : goal.invariant_of-self-2
invariant_of-self-2 c =
    let at : ClusterState = state_of c.self.inside in
    let n : ℕ = c.lanes-made.result + 1 in
    let v : Node = record { lane = fresh n at.segments; stopped = false; merger = started n } in
    let made : c.lanes-made.result ≡ length at.nodes = c.lanes-made.ensures ∙ ap (λ (x : ClusterState). length x.nodes) (sym c.self.view_is) in
    let lane_is : c.in-Ok.lane ≡ fresh n at.segments = c.in-Ok.ensures in
    let nodes : c.push_reserved.new.self.items ≡ at.nodes ++ v ∷ [] =
    c.push_reserved.ensures.items ∙ ap (λ (xs : List Node). xs ++ (record { lane = c.in-Ok.lane; stopped = false; merger = c.new-2.result }) ∷ []) c.reserve.ensures.items
    ∙ ap (λ (l : LaneState). at.nodes ++ (record { lane = l; stopped = false; merger = c.new-2.result }) ∷ []) lane_is
    ∙ ap (λ (x : Merging). at.nodes ++ (record { lane = fresh n at.segments; stopped = false; merger = x }) ∷ []) c.new-2.ensures.value in
    let few : length at.nodes < 63 = omega (arith, made, c.self.invariant.lanes, c.from.ensures, c.if-from-eq-LANES.false) in
    subst (λ (xs : List Node). IsCluster (record at { nodes = xs })) (sym nodes)
    (push_kept at v c.self.invariant few (record { number = omega (arith, made); pool = refl; caller = tt }))

pub returns-clause-does : goal.returns-clause-does
returns-clause-does c =
    let at : ClusterState = state_of c.self.inside in
    let n : ℕ = c.lanes-made.result + 1 in
    let made : c.lanes-made.result ≡ length at.nodes = c.lanes-made.ensures ∙ ap (λ (x : ClusterState). length x.nodes) (sym c.self.view_is) in
    let lane_is : c.in-Ok.lane ≡ fresh n at.segments = c.in-Ok.ensures in
    let nodes : c.push_reserved.new.self.items ≡ at.nodes ++ (record { lane = fresh n at.segments; stopped = false; merger = started n }) ∷ [] =
    c.push_reserved.ensures.items ∙ ap (λ (xs : List Node). xs ++ (record { lane = c.in-Ok.lane; stopped = false; merger = c.new-2.result }) ∷ []) c.reserve.ensures.items
    ∙ ap (λ (l : LaneState). at.nodes ++ (record { lane = l; stopped = false; merger = c.new-2.result }) ∷ []) lane_is
    ∙ ap (λ (x : Merging). at.nodes ++ (record { lane = fresh n at.segments; stopped = false; merger = x }) ∷ []) c.new-2.ensures.value in
    from at _ _ (Adds n c.args.self.now.segments) c.self.view_is
    (adds_with at _ n c.args.self.now.segments (ap (λ (x : ClusterState). x.segments) c.self.view_is)
    (adds_so at _ n (omega (arith, made)) (ap (λ (xs : List Node). let x : ClusterState = record at { nodes = xs } in x) nodes)))
