use Rattle.dn_reach.proofs.Rooms.{spare_reaches, no_spare}
use Rattle.dn_reach.proofs.laws.room.Goals as goal

pub returns-clause-spare : goal.returns-clause-spare
returns-clause-spare c = spare_reaches

pub returns-clause-none : goal.returns-clause-none
returns-clause-none c = no_spare
