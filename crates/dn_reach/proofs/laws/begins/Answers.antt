use Rattle.dn_reach.proofs.Lasts.{log_begins}
use Rattle.dn_reach.proofs.laws.begins.Goals as goal

pub returns : goal.returns
returns c = log_begins
