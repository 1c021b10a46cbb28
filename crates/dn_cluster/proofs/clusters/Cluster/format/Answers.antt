use Rattle.std.proofs.Common.{◌≡◌, ◌≤◌, ◌∙◌, ap, subst}
use Rattle.dn_monitor.specs.Monitor.{begun}
use Rattle.dn_monitor.specs.declared.orders.Order.TheVariants.{Format}
use Rattle.dn_cluster.specs.State.{ClusterState}
use Rattle.dn_cluster.proofs.Opening.{its_store, stored, formatted}
use Rattle.dn_cluster.proofs.clusters.Cluster.format.Goals as goal

pub returns-in-Ok-clause-sound : goal.returns-in-Ok-clause-sound
returns-in-Ok-clause-sound g c = λ e zeros rests.
    let most : c.args.self.now.segments ≤ 8192 = subst (λ (x : ClusterState). x.segments ≤ 8192) c.self.view_is c.self.invariant.segments in
    let begins : c.new-monitor.result ≡ begun (Format c.args.self.now.segments) c.new-monitor.result.heirs = c.new-monitor.ensures.value ∙ ap (λ (x : ClusterState). begun (Format x.segments) c.new-monitor.result.heirs) c.self.view_is in
    formatted c.args.self.now _ _ c.in-Some.action c.in-Ok.word most c.requires
    (its_store c.args.self.now.segments c.new-monitor.result c.next.result c.in-Some.action begins c.next.ensures.value c.in-Some.is) c.in-Ok.ensures.ok zeros rests

pub returns-in-Ok-clause-words : goal.returns-in-Ok-clause-words
returns-in-Ok-clause-words g c = λ e.
    let begins : c.new-monitor.result ≡ begun (Format c.args.self.now.segments) c.new-monitor.result.heirs = c.new-monitor.ensures.value ∙ ap (λ (x : ClusterState). begun (Format x.segments) c.new-monitor.result.heirs) c.self.view_is in
    stored c.args.self.now.segments _ _ c.in-Some.action c.in-Ok.word
    (its_store c.args.self.now.segments c.new-monitor.result c.next.result c.in-Some.action begins c.next.ensures.value c.in-Some.is) c.in-Ok.ensures.ok
