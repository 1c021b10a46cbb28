use Rattle.std.proofs.Common.{ap}
use Rattle.dn_outcomes.specs.Going.{ends, told_of}
use Rattle.dn_outcomes.specs.declared.outcomes.CallAnswer.{CallAnswer}
use Rattle.dn_world.specs.Comes.{bare}
use Rattle.dn_world.proofs.Changes.{moves_by}
use Rattle.dn_world.proofs.crews.Crew.answered.Goals as goal

pub returns-clause-came : goal.returns-clause-came
returns-clause-came c words = moves_by words c.args.self.now words c.end.new.self (bare c.end.result) (λ w. ends w c.args.lane c.keep-told.result) (λ w. ends w c.args.lane (told_of c.args.answer))
    (λ w. ap (λ (a : CallAnswer). ends w c.args.lane a) c.keep-told.ensures.told)
    (c.end.ensures.came words)
