use Rattle.dn_drain.proofs.Renewing.{fault_renewed, lane_renewed}
use Rattle.dn_drain.proofs.laws.renewed.Goals as goal

pub returns-clause-lane : goal.returns-clause-lane
returns-clause-lane c = fault_renewed

pub returns-clause-all : goal.returns-clause-all
returns-clause-all c = lane_renewed
