use Rattle.std.proofs.Common.{◌≡◌, ◌≤◌, ◌-◌, replicate, vec_len, vec_capacity, None}
use Rattle.dn_waiting.proofs.waiting.no_calls.Given as goal

abbrev pub invariant-loop-calls : goal.invariant-loop-calls
invariant-loop-calls l = record {
  items : l.calls.items ≡ replicate (vec_len l.calls) None;
  most : vec_len l.calls ≤ l.count;
  room : l.count ≤ vec_capacity l.calls;
}

abbrev pub decreases-loop-calls : goal.decreases-loop-calls
decreases-loop-calls l = l.count - vec_len l.calls
