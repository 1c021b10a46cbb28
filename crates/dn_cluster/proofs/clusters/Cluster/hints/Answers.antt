use Rattle.std.proofs.Common.{◌-◌, ap}
use Rattle.std.proofs.lemmas.Result.{on_ok_weaker}
use Rattle.dn_cluster.specs.State.{ClusterState}
use Rattle.dn_cluster.specs.Inside.{state_of}
use Rattle.dn_cluster.specs.Changed.{with_client}
use Rattle.dn_cluster.proofs.Places.{HasClient, read_client}
use Rattle.dn_route.specs.SessionState.{SessionState}
use Rattle.dn_machine.specs.Events.{Hints}
use Rattle.dn_cluster.proofs.Giving.{from, hints_so}
use Rattle.dn_cluster.proofs.clusters.Cluster.hints.Goals as goal

pub returns-clause-does : goal.returns-clause-does
returns-clause-does c =
    let at : ClusterState = state_of c.self.inside in
    let h : HasClient at c.args.session (c.args.session - 1) =
    read_client at c.args.session c.index_mut.result.now c.self.invariant c.requires c.index_mut.ensures.value in
    on_ok_weaker c.hints.result (λ e. from at _ _ (Hints c.args.session c.args.pairs.now) c.self.view_is (hints_so at _ c.args.session (c.args.session - 1) h c.args.pairs.now
    (ap (λ (x : SessionState). with_client at (c.args.session - 1) (record h.client { session = x })) e))) c.hints.ensures.ok
