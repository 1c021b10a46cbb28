use Rattle.dn_learnt.proofs.Lessons.{trims_step, ends, heeds_more}
use Rattle.dn_learnt.proofs.laws.learning.Goals as goal

pub returns-clause-trim : goal.returns-clause-trim
returns-clause-trim c = trims_step

pub returns-clause-end : goal.returns-clause-end
returns-clause-end c = ends

pub returns-clause-seal : goal.returns-clause-seal
returns-clause-seal c = heeds_more
