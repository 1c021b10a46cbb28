use Rattle.dn_reach.proofs.Ready.{ready}
use Rattle.dn_reach.proofs.laws.ready.Goals as goal

pub returns : goal.returns
returns c = ready
