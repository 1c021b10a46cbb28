use Rattle.std.proofs.Common.{◌-◌, sym, ◌∙◌, ap, subst}
use Rattle.dn_cluster.specs.State.{ClusterState}
use Rattle.dn_cluster.specs.Inside.{state_of, IsCluster, IsClient}
use Rattle.dn_cluster.specs.Changed.{with_client, hears, heard_at}
use Rattle.dn_cluster.proofs.Events.{heard_is}
use Rattle.dn_cluster.proofs.Kept.{client_kept, hears_kept}
use Rattle.dn_cluster.proofs.Places.{HasClient, read_client}
use Rattle.dn_route.specs.SessionState.{SessionState}
use Rattle.dn_cluster.proofs.clusters.Cluster.hear.Goals as goal

pub invariant_of-self : goal.invariant_of-self
invariant_of-self c =
    let at : ClusterState = state_of c.self.inside in
    let h : HasClient at c.args.session (c.args.session - 1) =
    read_client at c.args.session c.index_mut.result.now c.self.invariant c.requires.session c.index_mut.ensures.value in
    let was : IsClient h.client = c.self.invariant.clients (c.args.session - 1) h.client h.is in
    let own : IsClient (hears h.client c.args.position) = hears_kept h.client c.args.position was c.requires.stamp in
    let kept : IsCluster (with_client at (c.args.session - 1) (hears h.client c.args.position)) = client_kept at (c.args.session - 1) (hears h.client c.args.position) c.self.invariant own in
    subst IsCluster (ap (λ (x : SessionState). with_client at (c.args.session - 1) (record h.client { session = x })) (sym c.told.ensures)) kept

pub returns-clause-after : goal.returns-clause-after
returns-clause-after c =
    let at : ClusterState = state_of c.self.inside in
    let h : HasClient at c.args.session (c.args.session - 1) =
    read_client at c.args.session c.index_mut.result.now c.self.invariant c.requires.session c.index_mut.ensures.value in
    ap (λ (x : SessionState). with_client at (c.args.session - 1) (record h.client { session = x })) c.told.ensures
    ∙ sym (heard_is at c.args.session (c.args.session - 1) c.args.position h)
    ∙ ap (λ (x : ClusterState). heard_at x c.args.session c.args.position) c.self.view_is
