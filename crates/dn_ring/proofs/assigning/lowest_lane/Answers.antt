use Rattle.dn_ring.proofs.SweepLaws.{lowest_owns, some_first}
use Rattle.dn_ring.proofs.assigning.lowest_lane.Goals as goal
use Rattle.std.proofs.Common.{arith}

pub returns-in-Some-clause-owner : goal.returns-in-Some-clause-owner
returns-in-Some-clause-owner c live some are = lowest_owns live c.loop-arc.arc c.args.firsts.now c.in-Some.first are c.loop-arc.invariant (omega arith) c.in-Some.is

pub returns-clause-owner : goal.returns-clause-owner
returns-clause-owner c live some are = absurd (some_first live c.args.firsts.now some are (λ a h. c.loop-arc.invariant a (omega arith)))
