use Rattle.std.proofs.Common.{◌≤◌, length}
use Rattle.dn_act.specs.Words.{pool_size}
use Rattle.dn_lane.specs.Left.{mode_left}
use Rattle.dn_lane_bench.proofs.plays.Player.drive.Given as goal

-- the lane's actions stay in the pool
abbrev pub invariant-loop-action : goal.invariant-loop-action
invariant-loop-action l = pool_size l.self.lane.base.known.log.pool ≤ length l.self.pool

abbrev pub decreases-loop-action : goal.decreases-loop-action
decreases-loop-action l = mode_left l.self.lane.base l.self.lane.mode
