use Rattle.dn_reach.proofs.Gates.{raise_step, raise_quiet, raise_log, raise_gate}
use Rattle.dn_reach.proofs.laws.raise.Goals as goal

pub returns-clause-step : goal.returns-clause-step
returns-clause-step c = raise_step

pub returns-clause-quiet : goal.returns-clause-quiet
returns-clause-quiet c = raise_quiet

pub returns-clause-log : goal.returns-clause-log
returns-clause-log c = raise_log

pub returns-clause-gate : goal.returns-clause-gate
returns-clause-gate c = raise_gate
