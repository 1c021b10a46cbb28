use Rattle.std.proofs.Common.{◌≡◌, ◌<◌, length, slice_get, Some, None, sym, ◌∙◌, ap, subst}
use Rattle.std.proofs.lemmas.Option.{none-some, same_Some}
use Rattle.dn_cluster.specs.State.{ClusterState}
use Rattle.dn_cluster.specs.Changed.{with_client}
use Rattle.dn_cluster.specs.Inside.{state_of, IsClient}
use Rattle.dn_cluster.specs.declared.clients.Client.{Client}
use Rattle.dn_route.specs.SessionState.{SessionState}
use Rattle.dn_cluster.proofs.Kept.{client_kept}
use Rattle.dn_cluster.proofs.OtherEvents.{routed_client}
use Rattle.dn_cluster.proofs.Places.{seen_client}
use Rattle.dn_cluster.proofs.clusters.Cluster.session_takes.Goals as goal

pub returns : goal.returns
returns c = λ x e.
    let b : ClusterState = state_of c.self.inside in
    let is : slice_get c.args.self.now.clients c.args.at ≡ Some c.index_mut-client.result.now =
    seen_client b c.args.self.now c.args.at c.index_mut-client.result.now c.self.view_is (subst (λ (y : ClusterState). c.args.at < length y.clients) (sym c.self.view_is) c.requires.at) c.index_mut-client.ensures.value in
    ap (λ (s : SessionState). with_client b c.args.at (record c.index_mut-client.result.now { session = s; load = None })) c.refresh.ensures.after
    ∙ ap (λ (y : ClusterState). with_client y c.args.at (routed_client c.index_mut-client.result.now c.args.slot c.args.word)) c.self.view_is
    ∙ ap (λ (y : Client). with_client c.args.self.now c.args.at (routed_client y c.args.slot c.args.word)) (same_Some c.index_mut-client.result.now x (sym is ∙ e))

pub invariant_of-self : goal.invariant_of-self
invariant_of-self c =
    let b : ClusterState = state_of c.self.inside in
    let is : slice_get c.args.self.now.clients c.args.at ≡ Some c.index_mut-client.result.now =
    seen_client b c.args.self.now c.args.at c.index_mut-client.result.now c.self.view_is (subst (λ (y : ClusterState). c.args.at < length y.clients) (sym c.self.view_is) c.requires.at) c.index_mut-client.ensures.value in
    let was : IsClient c.index_mut-client.result.now = c.self.invariant.clients c.args.at c.index_mut-client.result.now (ap (λ (y : ClusterState). slice_get y.clients c.args.at) c.self.view_is ∙ is) in
    let own : IsClient (routed_client c.index_mut-client.result.now c.args.slot c.args.word) = record { load = λ k e. absurd (none-some k e); stamp = was.stamp } in
    client_kept b c.args.at (record c.index_mut-client.result.now { session = c.refresh.new.self; load = None }) c.self.invariant
    (subst (λ (s : SessionState). IsClient (record c.index_mut-client.result.now { session = s; load = None })) (sym c.refresh.ensures.after) own)
