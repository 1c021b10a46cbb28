use Rattle.std.proofs.Common.{arith}
use Rattle.dn_waiting.proofs.RoomLaws.{unqueued_most}
use Rattle.dn_waiting.proofs.queues.Queues.new.Goals as goal

pub invariant_of-result : goal.invariant_of-result
invariant_of-result c = (
  omega (arith, c.in_ok-with_capacity.ensures.capacity),
  omega (arith, c.in_ok-with_capacity.ensures.capacity, c.in_ok-with_capacity.ensures.len, unqueued_most c.in_ok-with_capacity.field-0.items 64),
  omega (arith, c.in_ok-with_capacity-2.ensures.capacity),
)
