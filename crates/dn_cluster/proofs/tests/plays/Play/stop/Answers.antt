use Rattle.dn_machine.specs.Events.{Stops}
use Rattle.dn_cluster.proofs.Playing.{given_can}
use Rattle.dn_cluster.proofs.tests.plays.Play.stop.Goals as goal

pub invariant_of-self : goal.invariant_of-self
invariant_of-self c = given_can c.self.inside.pool.0 c.self.inside.cluster c.stop.new.self (Stops c.args.lane) c.stop.ensures.does c.stop.ensures.segments (λ told receipts. tt) c.self.invariant
