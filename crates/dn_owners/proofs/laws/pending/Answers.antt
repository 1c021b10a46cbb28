use Rattle.dn_owners.proofs.Counting.{counting_some, counting_none}
use Rattle.dn_owners.proofs.laws.pending.Goals as goal

pub returns-clause-some : goal.returns-clause-some
returns-clause-some c = counting_some

pub returns-clause-none : goal.returns-clause-none
returns-clause-none c = counting_none
