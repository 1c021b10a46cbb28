use Rattle.std.proofs.Common.{◌≡◌, ◌≤◌, ◌-◌, replicate, vec_len, vec_capacity}
use Rattle.dn_waiting.specs.Queues.{idle}
use Rattle.dn_waiting.proofs.waiting.idle_lanes.Given as goal

abbrev pub invariant-loop-alloc : goal.invariant-loop-alloc
invariant-loop-alloc l = record {
  items : l.lanes.items ≡ replicate (vec_len l.lanes) idle;
  most : vec_len l.lanes ≤ l.count;
  room : l.count ≤ vec_capacity l.lanes;
}

abbrev pub decreases-loop-alloc : goal.decreases-loop-alloc
decreases-loop-alloc l = l.count - vec_len l.lanes
