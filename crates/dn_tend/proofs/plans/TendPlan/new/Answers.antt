use Rattle.std.proofs.Common.{sym, subst}
use Rattle.dn_tend.specs.Plan.{tending}
use Rattle.dn_tend.specs.Program.{CarriesOut}
use Rattle.dn_tend.specs.Sequence.{task_plan}
use Rattle.dn_tend.specs.declared.phases.TendNext.{TendNext}
use Rattle.dn_tend.proofs.SequenceLaws.{task_runs}
use Rattle.dn_tend.proofs.plans.TendPlan.new.Goals as goal

pub returns-clause-sequence : goal.returns-clause-sequence
returns-clause-sequence c =
    let P : TendNext → Type 0 = λ wait. CarriesOut (tending c.args.lane wait) (task_plan c.args.lane c.args.task) in
    subst P (sym c.begin.ensures.value) (task_runs c.args.lane c.args.task)
