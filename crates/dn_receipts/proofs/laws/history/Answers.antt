use Rattle.dn_receipts.proofs.Histories.{legal_history, history_map, its_map}
use Rattle.dn_receipts.proofs.laws.history.Goals as goal

pub returns-clause-legal : goal.returns-clause-legal
returns-clause-legal c = legal_history

pub returns-clause-map : goal.returns-clause-map
returns-clause-map c = history_map

pub returns-clause-alone : goal.returns-clause-alone
returns-clause-alone c = its_map
