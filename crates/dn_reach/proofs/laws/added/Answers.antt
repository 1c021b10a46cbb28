use Rattle.dn_reach.proofs.Added.{placed_last, placed_none}
use Rattle.dn_reach.proofs.laws.added.Goals as goal

pub returns-clause-own : goal.returns-clause-own
returns-clause-own c = placed_last

pub returns-clause-other : goal.returns-clause-other
returns-clause-other c = placed_none
