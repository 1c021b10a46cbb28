use Rattle.dn_machine.specs.Events.{Drops}
use Rattle.dn_cluster.proofs.Playing.{given_can}
use Rattle.dn_cluster.proofs.tests.plays.Play.drop_order.Goals as goal

pub invariant_of-self : goal.invariant_of-self
invariant_of-self c = given_can c.self.inside.pool.0 c.self.inside.cluster c.drop_order.new.self Drops c.drop_order.ensures.does c.drop_order.ensures.segments (λ told receipts. tt) c.self.invariant
