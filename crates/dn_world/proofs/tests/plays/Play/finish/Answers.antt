use Rattle.std.proofs.Common.{length}
use Rattle.dn_world.proofs.Playing.{finished_can}
use Rattle.dn_world.proofs.tests.plays.Play.finish.Goals as goal

pub invariant_of-self : goal.invariant_of-self
invariant_of-self g c =
    finished_can c.self.inside.pool c.self.inside.world c.finish.new.mem c.finish.new.self (length c.self.inside.world.crew.cluster.nodes) c.in-Ok.ensures.finishes
    c.self.invariant
