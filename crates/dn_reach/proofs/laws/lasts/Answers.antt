use Rattle.dn_reach.proofs.Lasts.{log_lasts, flowing_lasts}
use Rattle.dn_reach.proofs.Ready.{may_write_lasts}
use Rattle.dn_reach.proofs.laws.lasts.Goals as goal

pub returns-clause-log : goal.returns-clause-log
returns-clause-log c = log_lasts

pub returns-clause-flowing : goal.returns-clause-flowing
returns-clause-flowing c = flowing_lasts

pub returns-clause-writing : goal.returns-clause-writing
returns-clause-writing c = may_write_lasts
