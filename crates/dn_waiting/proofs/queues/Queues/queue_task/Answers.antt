use Rattle.std.proofs.Common.{arith}
use Rattle.dn_waiting.proofs.RoomLaws.{unqueued_most}
use Rattle.dn_waiting.proofs.queues.Queues.queue_task.Goals as goal

pub invariant_of-self-2 : goal.invariant_of-self-2
invariant_of-self-2 c = (
  omega (arith, c.self.invariant.0, c.reserve.ensures.capacity, c.push_back_reserved.ensures.capacity),
  omega (arith, c.in_ok-reserve.ensures.ok, c.push_back_reserved.ensures.capacity, c.push_back_reserved.ensures.len, unqueued_most c.push_back_reserved.new.self.items 64),
  c.self.invariant.2,
)
