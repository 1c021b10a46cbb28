use Rattle.dn_whole.proofs.Determined.{determined}
use Rattle.dn_whole.proofs.laws.determined.Goals as goal

pub returns : goal.returns
returns c = determined
