use Rattle.dn_moves.proofs.Owners.{alone, stamps}
use Rattle.dn_moves.proofs.laws.owners.Goals as goal

pub returns-clause-alone : goal.returns-clause-alone
returns-clause-alone c = alone

pub returns-clause-stamps : goal.returns-clause-stamps
returns-clause-stamps c = stamps
