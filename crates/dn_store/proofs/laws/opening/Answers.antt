use Rattle.dn_store.proofs.Fresh.{fresh_represents}
use Rattle.dn_store.proofs.laws.opening.Goals as goal

pub returns : goal.returns
returns c = fresh_represents
