use Rattle.dn_beside.proofs.Chained.{step_then, quiet_then}
use Rattle.dn_beside.proofs.laws.chained.Goals as goal

pub returns-clause-step : goal.returns-clause-step
returns-clause-step c = step_then

pub returns-clause-quiet : goal.returns-clause-quiet
returns-clause-quiet c = quiet_then
