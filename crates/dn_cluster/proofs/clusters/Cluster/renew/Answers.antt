use Rattle.std.proofs.Common.{ℕ, ◌-◌, sym, ap, subst, arith}
use Rattle.dn_cluster.specs.State.{ClusterState}
use Rattle.dn_cluster.specs.Machine.{IsMade}
use Rattle.dn_cluster.specs.Inside.{state_of, IsNode}
use Rattle.dn_cluster.specs.Changed.{with_node}
use Rattle.dn_cluster.proofs.Kept.{node_kept}
use Rattle.dn_cluster.proofs.Places.{HasNode, read_node}
use Rattle.dn_merge.specs.Merge.{Merging}
use Rattle.dn_machine.specs.Events.{Renews}
use Rattle.dn_cluster.proofs.Giving.{from, renews_so}
use Rattle.dn_cluster.proofs.clusters.Cluster.renew.Goals as goal

pub invariant_of-self : goal.invariant_of-self
invariant_of-self c =
    let at : ClusterState = state_of c.self.inside in
    let n : ℕ = c.args.lane in
    let j : ℕ = c.from.result - 1 in
    let made : IsMade at n = subst (λ (x : ClusterState). IsMade x n) (sym c.self.view_is) c.requires in
    let h : HasNode at n j = read_node at n j c.index_mut-node.result.now (omega (arith, made.0, c.from.ensures)) made.1 c.index_mut-node.ensures.value in
    let was : IsNode at.segments j h.node = c.self.invariant.nodes j h.node h.is in
    node_kept at j (record h.node { merger = c.new-node.result }) c.self.invariant (record { number = was.number; pool = was.pool; caller = was.caller })

pub returns-clause-does : goal.returns-clause-does
returns-clause-does c =
    let at : ClusterState = state_of c.self.inside in
    let n : ℕ = c.args.lane in
    let j : ℕ = c.from.result - 1 in
    let made : IsMade at n = subst (λ (x : ClusterState). IsMade x n) (sym c.self.view_is) c.requires in
    let h : HasNode at n j = read_node at n j c.index_mut-node.result.now (omega (arith, made.0, c.from.ensures)) made.1 c.index_mut-node.ensures.value in
    from at _ _ (Renews n) c.self.view_is (renews_so at _ n j h
    (ap (λ (x : Merging). with_node at j (record h.node { merger = x })) c.new-node.ensures.value))
