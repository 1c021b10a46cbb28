use Rattle.dn_route.proofs.CallerLaws.{order_none, order_heard, order_made}
use Rattle.dn_route.proofs.laws.orders.Goals as goal

pub returns-clause-empty : goal.returns-clause-empty
returns-clause-empty c = order_none

pub returns-clause-heard : goal.returns-clause-heard
returns-clause-heard c = order_heard

pub returns-clause-made : goal.returns-clause-made
returns-clause-made c = order_made
