use Rattle.dn_owners.proofs.Grown.{later}
use Rattle.dn_owners.proofs.Tables.{kept}
use Rattle.dn_owners.proofs.laws.events.Goals as goal

pub returns-clause-sound : goal.returns-clause-sound
returns-clause-sound c = kept

pub returns-clause-later : goal.returns-clause-later
returns-clause-later c = later
