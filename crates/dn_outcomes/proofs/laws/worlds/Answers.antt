use Rattle.dn_outcomes.proofs.Kept.{kept, runs}
use Rattle.dn_outcomes.proofs.Opening.{opening}
use Rattle.dn_outcomes.proofs.laws.worlds.Goals as goal

pub returns-clause-opening : goal.returns-clause-opening
returns-clause-opening c = opening

pub returns-clause-kept : goal.returns-clause-kept
returns-clause-kept c = kept

pub returns-clause-runs : goal.returns-clause-runs
returns-clause-runs c = runs
