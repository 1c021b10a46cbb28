use Rattle.dn_run.proofs.Heads.{heads}
use Rattle.dn_run.proofs.laws.headline.Goals as goal

pub returns : goal.returns
returns c = heads
