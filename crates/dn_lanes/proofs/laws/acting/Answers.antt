use Rattle.dn_lanes.proofs.Steps.{lane_steps, lane_flows}
use Rattle.dn_lanes.proofs.laws.acting.Goals as goal

pub returns-clause-step : goal.returns-clause-step
returns-clause-step c = lane_steps

pub returns-clause-flow : goal.returns-clause-flow
returns-clause-flow c = lane_flows
