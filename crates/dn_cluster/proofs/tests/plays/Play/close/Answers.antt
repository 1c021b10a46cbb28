use Rattle.std.proofs.Common.{rules}
use Rattle.dn_machine.specs.Events.{Closes}
use Rattle.dn_cluster.proofs.Playing.{given_can}
use Rattle.dn_cluster.proofs.tests.plays.Play.close.Goals as goal

pub invariant_of-self : goal.invariant_of-self
invariant_of-self g c = given_can c.self.inside.pool.0 c.self.inside.cluster c.close.new.self (Closes c.args.session) c.close.ensures.does c.close.ensures.segments (λ told receipts. c.has_call.ensures (search rules)) c.self.invariant
