use Rattle.dn_lanes.proofs.Begins.{lane_begins}
use Rattle.dn_lanes.proofs.Unmade.{unmade_lasts, unmade_fresh}
use Rattle.dn_lanes.proofs.laws.making.Goals as goal

pub returns-clause-lane : goal.returns-clause-lane
returns-clause-lane c = lane_begins

pub returns-clause-lasts : goal.returns-clause-lasts
returns-clause-lasts c = unmade_lasts

pub returns-clause-first : goal.returns-clause-first
returns-clause-first c = unmade_fresh
