use Rattle.std.proofs.Common.{◌-◌, refl}
use Rattle.dn_cluster.specs.State.{ClusterState}
use Rattle.dn_cluster.specs.Inside.{state_of}
use Rattle.dn_cluster.proofs.Places.{HasClient, read_client}
use Rattle.dn_machine.specs.Events.{Loads}
use Rattle.dn_cluster.proofs.Giving.{from, loads_so}
use Rattle.dn_cluster.proofs.clusters.Cluster.give_load.Goals as goal

pub returns-clause-does : goal.returns-clause-does
returns-clause-does c =
    let at : ClusterState = state_of c.self.inside in
    let h : HasClient at c.args.session (c.args.session - 1) =
    read_client at c.args.session c.index_mut.result.now c.self.invariant c.requires.session c.index_mut.ensures.value in
    from at _ _ (Loads c.args.session c.args.slot) c.self.view_is (loads_so at _ c.args.session (c.args.session - 1) c.args.slot h refl)
