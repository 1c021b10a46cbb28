use Rattle.dn_model.proofs.HistoryLaws.{stood_before}
use Rattle.dn_model.proofs.RegisterSteps.{register_stands, stands_stays}
use Rattle.dn_model.proofs.laws.histories.stood_before.Goals as goal

pub returns-clause-held : goal.returns-clause-held
returns-clause-held c = register_stands

pub returns-clause-stays : goal.returns-clause-stays
returns-clause-stays c = stands_stays

pub returns-clause-left : goal.returns-clause-left
returns-clause-left c = stood_before
