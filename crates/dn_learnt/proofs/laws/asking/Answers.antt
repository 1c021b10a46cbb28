use Rattle.dn_learnt.proofs.Asks.{pending_is, pending_none}
use Rattle.dn_learnt.proofs.laws.asking.Goals as goal

pub returns-clause-some : goal.returns-clause-some
returns-clause-some c = pending_is

pub returns-clause-none : goal.returns-clause-none
returns-clause-none c = pending_none
