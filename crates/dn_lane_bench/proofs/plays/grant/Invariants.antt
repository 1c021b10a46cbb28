use Rattle.std.proofs.Common.{◌≡◌, length}
use Rattle.dn_lane_bench.proofs.plays.grant.Given as goal

abbrev pub invariant-loop-slot : goal.invariant-loop-slot
invariant-loop-slot l = length l.pool ≡ length l.fn.pool
