use Rattle.dn_outcomes.proofs.Refusals.{refusals}
use Rattle.dn_outcomes.proofs.laws.refusals.Goals as goal

pub returns-clause-causes : goal.returns-clause-causes
returns-clause-causes c w e heirs = (refusals w e heirs).is

pub returns-clause-same : goal.returns-clause-same
returns-clause-same c w e heirs o is = (refusals w e heirs).same o is
