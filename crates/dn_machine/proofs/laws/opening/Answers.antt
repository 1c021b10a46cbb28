use Rattle.dn_machine.proofs.Opening.{opened}
use Rattle.dn_machine.proofs.Formatting.{formats}
use Rattle.dn_machine.proofs.laws.opening.Goals as goal

pub returns-clause-format : goal.returns-clause-format
returns-clause-format c = formats

pub returns-clause-granted : goal.returns-clause-granted
returns-clause-granted c = opened
