use Rattle.dn_reach.proofs.Flows.{flow_step, flow_quiet, flow_log, flow_flowing}
use Rattle.dn_reach.proofs.laws.flow.Goals as goal

pub returns-clause-step : goal.returns-clause-step
returns-clause-step c = flow_step

pub returns-clause-quiet : goal.returns-clause-quiet
returns-clause-quiet c = flow_quiet

pub returns-clause-log : goal.returns-clause-log
returns-clause-log c = flow_log

pub returns-clause-flowing : goal.returns-clause-flowing
returns-clause-flowing c = flow_flowing
