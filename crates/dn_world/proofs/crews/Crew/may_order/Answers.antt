use Rattle.std.proofs.Common.{inl, inr, ap, sym, ◌∙◌}
use Rattle.dn_monitor.specs.declared.orders.Order.{Order}
use Rattle.dn_outcomes.specs.Orders.{may_order}
use Rattle.dn_world.specs.State.{world_of}
use Rattle.dn_world.proofs.crews.Crew.may_order.Goals as goal

pub returns-in-Move : goal.returns-in-Move
returns-in-Move c words told receipts = c.is_live.ensures words told receipts ∙ sym (ap (λ (o : Order). may_order (world_of words c.args.self.now told receipts) o) c.in-Move.is)

pub returns-in-Fence : goal.returns-in-Fence
returns-in-Fence c words told receipts = elim c.in-Fence.is [
  | inl e ↦ c.is_made.ensures words told receipts ∙ sym (ap (λ (o : Order). may_order (world_of words c.args.self.now told receipts) o) e)
  | inr e ↦ c.is_made.ensures words told receipts ∙ sym (ap (λ (o : Order). may_order (world_of words c.args.self.now told receipts) o) e)
]
