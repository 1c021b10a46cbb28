use Rattle.std.proofs.Common.{rules, ◌≡◌, false, sym, ◌∙◌}
use Rattle.dn_machine.specs.Events.{Acts}
use Rattle.dn_cluster.specs.Acting.{actor_of, joined}
use Rattle.dn_drain.proofs.Playing.{acted_can}
use Rattle.dn_drain.proofs.tests.plays.Play.act.Goals as goal

pub invariant_of-self : goal.invariant_of-self
invariant_of-self g c =
    let done : c.is_fault.result ≡ false = search rules in
    acted_can c.self.inside.pool.words c.act-acted.new.mem.words c.self.inside.cluster c.act-acted.new.self (joined c.act-acted.result) (Acts (actor_of c.args.actor)) (c.act-acted.ensures.event (sym c.is_fault.ensures ∙ done)) c.self.invariant
