use Rattle.dn_model.proofs.HistoryLaws.{legal_in_order, legal_in_order_from}
use Rattle.dn_model.proofs.laws.histories.legal_in_order.Goals as goal

pub returns-clause-from : goal.returns-clause-from
returns-clause-from c = legal_in_order_from

pub returns-clause-empty : goal.returns-clause-empty
returns-clause-empty c = legal_in_order
