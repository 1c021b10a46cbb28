use Rattle.dn_machine.specs.Events.{Renews}
use Rattle.dn_cluster.proofs.Playing.{given_can}
use Rattle.dn_cluster.proofs.tests.plays.Play.renew.Goals as goal

pub invariant_of-self : goal.invariant_of-self
invariant_of-self g c = given_can c.self.inside.pool.0 c.self.inside.cluster c.renew.new.self (Renews c.args.lane) c.renew.ensures.does c.renew.ensures.segments (λ told receipts. tt) c.self.invariant
