use Rattle.dn_machine.proofs.Histories.{words_stand}
use Rattle.dn_machine.proofs.laws.records.Goals as goal

pub returns : goal.returns
returns c = words_stand
