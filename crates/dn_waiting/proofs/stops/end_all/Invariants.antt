use Rattle.std.proofs.Common.{◌≡◌, ◌+◌, ◌≤◌, ◌++◌, map, length, vec_len, vec_capacity}
use Rattle.dn_waiting.specs.Queues.{attempts_at}
use Rattle.dn_waiting.specs.Stops.{without, named_by, AreBelow}
use Rattle.dn_waiting.proofs.stops.end_all.Given as goal

abbrev pub invariant-loop-view : goal.invariant-loop-view
invariant-loop-view l = record {
  inside : AreBelow (vec_len l.calls) (attempts_at l.at);
  room : vec_len l.ended + length (attempts_at l.at) ≤ vec_capacity l.ended;
  calls : without l.calls.items (attempts_at l.at) ≡ without l.initial.calls.items (attempts_at l.initial.at);
  ended : l.ended.items ++ map named_by (attempts_at l.at) ≡ l.initial.ended.items ++ map named_by (attempts_at l.initial.at);
}

abbrev pub decreases-loop-view : goal.decreases-loop-view
decreases-loop-view l = length (attempts_at l.at)
