use Rattle.dn_cluster.proofs.Given.{told_sound}
use Rattle.dn_cluster.proofs.laws.told.Goals as goal

pub returns : goal.returns
returns c = told_sound
