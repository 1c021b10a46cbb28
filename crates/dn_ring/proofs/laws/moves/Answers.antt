use Rattle.dn_ring.proofs.OwnerLaws.{added_takes}
use Rattle.dn_ring.proofs.laws.moves.Goals as goal

pub returns-clause-added : goal.returns-clause-added
returns-clause-added c = added_takes
