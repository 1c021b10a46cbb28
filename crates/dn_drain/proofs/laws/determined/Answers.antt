use Rattle.dn_drain.proofs.Determined.{one_end}
use Rattle.dn_drain.proofs.laws.determined.Goals as goal

pub returns : goal.returns
returns c = one_end
