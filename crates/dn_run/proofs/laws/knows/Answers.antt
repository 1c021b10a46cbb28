use Rattle.dn_run.proofs.Knowledge as knowledge
use Rattle.dn_run.proofs.laws.knows.Goals as goal

pub returns : goal.returns
returns c = knowledge.knows
