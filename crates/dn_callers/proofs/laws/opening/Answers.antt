use Rattle.dn_callers.proofs.Keeping.{fresh}
use Rattle.dn_callers.proofs.laws.opening.Goals as goal

pub returns : goal.returns
returns c = fresh
