use Rattle.dn_lanes.proofs.Begins.{stopped_after}
use Rattle.dn_lanes.proofs.laws.stopping.Goals as goal

pub returns : goal.returns
returns c = stopped_after
