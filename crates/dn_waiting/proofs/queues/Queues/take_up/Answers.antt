use Rattle.std.proofs.Common.{◌≡◌, ◌∷◌, ap, arith}
use Rattle.dn_waiting.specs.Room.{unqueued_below}
use Rattle.dn_waiting.proofs.RoomLaws.{unqueued_popped}
use Rattle.dn_waiting.proofs.queues.Queues.take_up.Goals as goal

pub invariant_of-self : goal.invariant_of-self
invariant_of-self c =
    let all : c.self.inside.tasks.items ≡ c.in-Some.task ∷ c.pop_front.new.self.items = rw c.in-Some.is at c.pop_front.ensures.items in
    let same : unqueued_below c.self.inside.tasks.items 64 ≡ unqueued_below (c.in-Some.task ∷ c.pop_front.new.self.items) 64 = ap (λ ts. unqueued_below ts 64) all in (
      omega (arith, c.self.invariant.0, c.pop_front.ensures.capacity),
      omega (arith, same, unqueued_popped c.in-Some.task c.pop_front.new.self.items 64, c.self.invariant.1, c.pop_front.ensures.capacity, c.in-Some.ensures.cases),
      c.self.invariant.2,
    )
