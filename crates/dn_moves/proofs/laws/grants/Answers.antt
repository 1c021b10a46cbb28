use Rattle.dn_moves.proofs.Grants.{by_monitor, granted_so}
use Rattle.dn_moves.proofs.laws.grants.Goals as goal

pub returns-clause-monitor : goal.returns-clause-monitor
returns-clause-monitor c = by_monitor

pub returns-clause-so : goal.returns-clause-so
returns-clause-so c = granted_so
