use Rattle.dn_outcomes.proofs.Owners.{looked}
use Rattle.dn_outcomes.proofs.laws.owners.Goals as goal

pub returns : goal.returns
returns c = looked
