use Rattle.std.proofs.Common.{rules, List, ℕ, ◌≡◌, true, sym, ◌∙◌, ap, subst}
use Rattle.dn_machine.specs.Events.{Stops}
use Rattle.dn_cluster.specs.Acting.{failed}
use Rattle.dn_cluster.specs.State.{ClusterState}
use Rattle.dn_cluster.specs.Does.{Does, CanBeSound}
use Rattle.dn_cluster.proofs.Failing.{failed_can}
use Rattle.dn_cluster.proofs.tests.plays.Play.fail.Goals as goal

pub invariant_of-self : goal.invariant_of-self
invariant_of-self g c =
    let fault : c.is_fault.result ≡ true = search rules in
    let so : failed c.act-acted.result ≡ true = sym c.is_fault.ensures ∙ fault in
    let same : c.act-acted.new.self ≡ c.self.inside.cluster = c.act-acted.ensures.same so in
    failed_can c.fail.new.self.0 c.act-acted.new.mem.0 c.self.inside.cluster c.stop.new.self c.args.lane (c.act-acted.ensures.fails so)
    (subst (λ (x : ClusterState). Does x c.stop.new.self (Stops c.args.lane)) same c.stop.ensures.does)
    (c.stop.ensures.segments ∙ ap (λ (x : ClusterState). x.segments) same)
    (subst (λ (w : List ℕ). CanBeSound w c.self.inside.cluster) (sym c.fail.ensures) c.self.invariant)
