use Rattle.dn_run.proofs.Asked as asked
use Rattle.dn_run.proofs.laws.asked.Goals as goal

pub returns : goal.returns
returns c = asked.asked
