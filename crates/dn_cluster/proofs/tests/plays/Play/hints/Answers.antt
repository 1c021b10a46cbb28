use Rattle.dn_machine.specs.Events.{Hints}
use Rattle.dn_cluster.proofs.Playing.{given_can}
use Rattle.dn_cluster.proofs.tests.plays.Play.hints.Goals as goal

pub invariant_of-self-2 : goal.invariant_of-self-2
invariant_of-self-2 g c = given_can c.self.inside.pool.0 c.self.inside.cluster c.hints.new.self (Hints c.args.session c.args.pairs.now) c.in_ok-hints.ensures.does c.hints.ensures.segments (λ told receipts. tt) c.self.invariant
