use Rattle.dn_moves.proofs.Orders.{order_stays, order_ends}
use Rattle.dn_moves.proofs.laws.orders.Goals as goal

pub returns-clause-stays : goal.returns-clause-stays
returns-clause-stays c = order_stays

pub returns-clause-ends : goal.returns-clause-ends
returns-clause-ends c w heirs x is = order_ends w x is
