use Rattle.std.proofs.Common.{refl}
use Rattle.dn_machine.specs.Events.{Drops}
use Rattle.dn_outcomes.specs.Orders.{drops}
use Rattle.dn_outcomes.specs.State.{with_event}
use Rattle.dn_outcomes.specs.declared.outcomes.Outcome.TheVariants.{Acted}
use Rattle.dn_world.proofs.Changes.{turns_so}
use Rattle.dn_world.proofs.crews.Crew.end_order.Goals as goal

pub returns-clause-came : goal.returns-clause-came
returns-clause-came c words = turns_so words c.args.self.now c.drop_order.new.self Acted drops (λ w. with_event w Drops) c.drop_order.ensures (λ told receipts. refl)
