use Rattle.dn_owners.proofs.Logs.{ordered}
use Rattle.dn_owners.proofs.laws.opening.Goals as goal

pub returns-clause-ordered : goal.returns-clause-ordered
returns-clause-ordered c = ordered
