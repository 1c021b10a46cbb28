use Rattle.std.proofs.Common.{rules, ◌≤◌, arith}
use Rattle.dn_cluster.specs.Machine.{IsMade}
use Rattle.dn_drain.proofs.Draining.{still_sound}
use Rattle.dn_drain.proofs.Lanes.{can_still}
use Rattle.dn_drain.proofs.Renewing.{fault_renewed}
use Rattle.dn_drain.proofs.tests.plays.Play.drain.Goals as goal

pub invariant_of-self : goal.invariant_of-self
invariant_of-self g c =
    still_sound c.self.inside.pool.words c.drain.new.mem.words c.self.inside.cluster c.drain.new.cluster c.args.lane c.in-Ok.ensures.drained.count c.in-Ok.ensures.drained.acted c.self.invariant

pub invariant_of-self-in-Err : goal.invariant_of-self-in-Err
invariant_of-self-in-Err g c =
    let was : IsMade c.self.inside.cluster c.args.lane = c.is_made.ensures (search rules) in
    let made : IsMade c.drain.new.cluster c.args.lane = (was.0, omega (arith, was.1, c.drain.ensures.lanes)) in
    can_still c.self.inside.pool.words c.drain.new.mem.words c.self.inside.cluster c.renew.new.self
    (fault_renewed c.self.inside.pool.words c.drain.new.mem.words c.self.inside.cluster c.drain.new.cluster c.renew.new.self c.args.lane c.in-Err.fault c.in-Err.ensures.fault made c.renew.ensures.does c.renew.ensures.segments)
    c.self.invariant
