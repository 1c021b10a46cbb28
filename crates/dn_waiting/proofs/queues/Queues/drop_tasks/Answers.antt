use Rattle.std.proofs.Common.{arith}
use Rattle.dn_waiting.proofs.RoomLaws.{unqueued_most}
use Rattle.dn_waiting.proofs.queues.Queues.drop_tasks.Goals as goal

pub invariant_of-self : goal.invariant_of-self
invariant_of-self c = (
  omega (arith, c.self.invariant.0, c.clear.ensures.capacity),
  omega (arith, c.self.invariant.0, c.clear.ensures.capacity, c.clear.ensures.len, unqueued_most c.clear.new.self.items 64),
  c.self.invariant.2,
)
