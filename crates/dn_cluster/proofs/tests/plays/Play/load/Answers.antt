use Rattle.dn_machine.specs.Events.{Loads}
use Rattle.dn_cluster.proofs.Playing.{given_can}
use Rattle.std.proofs.Common.{rules}
use Rattle.dn_cluster.proofs.tests.plays.Play.load.Goals as goal

pub invariant_of-self : goal.invariant_of-self
invariant_of-self g c = given_can c.self.inside.pool.0 c.self.inside.cluster c.give_load.new.self (Loads c.args.session c.args.slot) c.give_load.ensures.does c.give_load.ensures.segments (λ told receipts. search rules) c.self.invariant
