use Rattle.std.proofs.Common.{◌≡◌, length}
use Rattle.dn_drain.specs.Acted.{LeavesActors}
use Rattle.dn_drain.specs.All.{AreDrained, AreMerged, StaysSound}
use Rattle.dn_drain.specs.Leaves.{LeavesLogs}
use Rattle.dn_drain.proofs.every.drain_all.Given as goal

-- so many lanes are drained
abbrev pub invariant-loop-at : goal.invariant-loop-at
invariant-loop-at g l = record {
  drained : AreDrained (g.M.Memory.words l.fn.mem) l.fn.cluster l.at (g.M.Memory.words l.mem) l.cluster;
  merged : AreMerged (g.M.Memory.words l.mem) l.at l.ended;
  sound : StaysSound (g.M.Memory.words l.fn.mem) l.fn.cluster (g.M.Memory.words l.mem) l.cluster;
  words : LeavesLogs (g.M.Memory.words l.fn.mem) (g.M.Memory.words l.mem);
  actors : LeavesActors l.fn.cluster l.cluster;
  segments : l.cluster.segments ≡ l.fn.cluster.segments;
  lanes : length l.cluster.nodes ≡ length l.fn.cluster.nodes;
  faults : g.M.Memory.faults l.mem ≡ g.M.Memory.faults l.fn.mem;
}
