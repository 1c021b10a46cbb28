use Rattle.dn_machine.proofs.Histories.{legal, map_is, map_alone}
use Rattle.dn_machine.proofs.laws.histories.Goals as goal

pub returns-clause-legal : goal.returns-clause-legal
returns-clause-legal c = legal

pub returns-clause-map : goal.returns-clause-map
returns-clause-map c = map_is

pub returns-clause-alone : goal.returns-clause-alone
returns-clause-alone c = map_alone
