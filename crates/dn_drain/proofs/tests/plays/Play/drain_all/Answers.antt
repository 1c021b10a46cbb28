use Rattle.dn_drain.proofs.Lanes.{can_still}
use Rattle.dn_drain.proofs.Renewing.{lane_renewed}
use Rattle.dn_drain.proofs.tests.plays.Play.drain_all.Goals as goal

pub invariant_of-self : goal.invariant_of-self
invariant_of-self g c = can_still c.self.inside.pool.words c.drain_all.new.mem.words c.self.inside.cluster c.drain_all.new.cluster c.in-Ok.ensures.sound c.self.invariant

pub invariant_of-self-in-Err : goal.invariant_of-self-in-Err
invariant_of-self-in-Err g c =
    can_still c.self.inside.pool.words c.drain_all.new.mem.words c.self.inside.cluster c.renew.new.self
    (lane_renewed c.self.inside.pool.words c.drain_all.new.mem.words c.self.inside.cluster c.drain_all.new.cluster c.renew.new.self c.in-Err.fault c.in-Err.ensures.fault c.renew.ensures.does c.renew.ensures.segments)
    c.self.invariant
