use Rattle.std.proofs.Common.{ℕ, suc, ◌≡◌, length}
use Rattle.dn_drain.specs.Acted.{LeavesOthers}
use Rattle.dn_drain.specs.Alone.{alone_in}
use Rattle.dn_drain.specs.Leaves.{LeavesWords}
use Rattle.dn_drain.specs.Left.{left_by}
use Rattle.dn_drain.proofs.Draining.{IsGoing}
use Rattle.dn_drain.proofs.drains.drain.Given as goal

-- one action at least is done, none of which has ended the drain
abbrev pub invariant-loop-merged : goal.invariant-loop-merged
invariant-loop-merged g l = record {
  count : ℕ;
  going : IsGoing (g.M.Memory.words l.fn.mem) l.fn.cluster (g.M.Memory.words l.mem) l.cluster l.lane (suc count);
  words : LeavesWords l.lane (g.M.Memory.words l.fn.mem) (g.M.Memory.words l.mem);
  others : LeavesOthers l.lane l.fn.cluster l.cluster;
  segments : l.cluster.segments ≡ l.fn.cluster.segments;
  lanes : length l.cluster.nodes ≡ length l.fn.cluster.nodes;
  faults : g.M.Memory.faults l.mem ≡ g.M.Memory.faults l.fn.mem;
}

abbrev pub decreases-loop-merged : goal.decreases-loop-merged
decreases-loop-merged g l = left_by l.lane (alone_in (g.M.Memory.words l.mem) l.cluster l.lane)
