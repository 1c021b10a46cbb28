use Rattle.dn_reach.proofs.Gates.{missed}
use Rattle.dn_reach.proofs.laws.missed.Goals as goal

pub returns : goal.returns
returns c = missed
