use Rattle.dn_plan.proofs.SequenceLaws.{call_runs}
use Rattle.dn_plan.proofs.phases.Brief.begin.Goals as goal

pub returns-clause-sequence : goal.returns-clause-sequence
returns-clause-sequence c = call_runs c.args.self.now
