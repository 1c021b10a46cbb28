use Rattle.dn_machine.proofs.Histories.{callers_order, callers_came}
use Rattle.dn_machine.proofs.laws.callers_order.Goals as goal

pub returns-clause-history : goal.returns-clause-history
returns-clause-history c = callers_order

pub returns-clause-came : goal.returns-clause-came
returns-clause-came c = callers_came
