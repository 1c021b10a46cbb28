use Rattle.dn_cluster.proofs.Given.{given_sound}
use Rattle.dn_cluster.proofs.laws.given.Goals as goal

pub returns : goal.returns
returns c = given_sound
