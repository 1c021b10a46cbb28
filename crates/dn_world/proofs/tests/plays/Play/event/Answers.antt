use Rattle.dn_world.proofs.Playing.{played}
use Rattle.dn_world.proofs.tests.plays.Play.event.Goals as goal

pub invariant_of-self : goal.invariant_of-self
invariant_of-self g c =
    played c.self.inside.pool c.self.inside.world c.event.new.mem c.event.new.self c.args.event c.event.result c.event.ensures.happens c.event.ensures.count
    c.event.ensures.same c.event.ensures.words c.self.invariant
