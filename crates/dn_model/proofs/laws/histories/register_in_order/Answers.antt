use Rattle.dn_model.proofs.HistoryLaws.{register_in_order, register_in_order_from}
use Rattle.dn_model.proofs.laws.histories.register_in_order.Goals as goal

pub returns-clause-legal_from : goal.returns-clause-legal_from
returns-clause-legal_from c = λ start held map bound rs hs e g p up. (register_in_order_from start held map bound rs hs e g p up).0

pub returns-clause-left_from : goal.returns-clause-left_from
returns-clause-left_from c = λ start held map bound rs hs e g p up. (register_in_order_from start held map bound rs hs e g p up).1

pub returns-clause-legal : goal.returns-clause-legal
returns-clause-legal c = λ held bound rs hs g p up. (register_in_order held bound rs hs g p up).0

pub returns-clause-left : goal.returns-clause-left
returns-clause-left c = λ held bound rs hs g p up. (register_in_order held bound rs hs g p up).1
