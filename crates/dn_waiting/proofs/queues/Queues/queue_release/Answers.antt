use Rattle.std.proofs.Common.{ℕ, ◌≡◌, ◌<◌, ◌≤◌, false, List, [], ◌∷◌, ◌++◌, ap, ◌∙◌, arith}
use Rattle.dn_tend.specs.declared.tasks.Task.{Task}
use Rattle.dn_waiting.specs.Room.{unqueued_below}
use Rattle.dn_tend.specs.declared.tasks.Task.TheVariants.{Release}
use Rattle.dn_waiting.specs.Queues.{AtLane, is_queued}
use Rattle.dn_waiting.proofs.RoomLaws.{unqueued_released}
use Rattle.dn_waiting.proofs.queues.Queues.queue_release.Goals as goal

-- there is room for a release of a slot that doesn't wait
room : (tasks : List Task) (slot : ℕ) → is_queued slot tasks ≡ false → slot < 64 → 1 ≤ unqueued_below tasks 64
room tasks slot none h = omega (arith, unqueued_released tasks slot 64 none h)

unseen : (c : goal.After-push_back_reserved-arg-1) → is_queued c.args.slot c.self.inside.tasks.items ≡ false
unseen c = ap (λ (q : AtLane). is_queued c.args.slot q.tasks) c.self.view_is ∙ c.requires.once

pub push_back_reserved-requires : goal.push_back_reserved-requires
push_back_reserved-requires c = omega (arith, room c.self.inside.tasks.items c.args.slot (unseen c) c.requires.slot, c.self.invariant.1)

pub invariant_of-self : goal.invariant_of-self
invariant_of-self c =
    let none : is_queued c.args.slot c.self.inside.tasks.items ≡ false = ap (λ (q : AtLane). is_queued c.args.slot q.tasks) c.self.view_is ∙ c.requires.once in
    let same : unqueued_below c.push_back_reserved.new.self.items 64 ≡ unqueued_below (c.self.inside.tasks.items ++ Release c.args.slot ∷ []) 64 =
    ap (λ ts. unqueued_below ts 64) c.push_back_reserved.ensures.items in (
      omega (arith, c.self.invariant.0, c.push_back_reserved.ensures.capacity),
      omega (arith, same, unqueued_released c.self.inside.tasks.items c.args.slot 64 none c.requires.slot, c.self.invariant.1, c.push_back_reserved.ensures.capacity, c.push_back_reserved.ensures.len),
      c.self.invariant.2,
    )
