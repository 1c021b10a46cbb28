use Rattle.std.proofs.Common.{ap, sym}
use Rattle.dn_lane.specs.declared.answers.Turn.{Turn}
use Rattle.dn_outcomes.specs.Going.{ends, told_of}
use Rattle.dn_outcomes.specs.Steps.{by_turn}
use Rattle.dn_world.specs.Comes.{bare}
use Rattle.dn_world.proofs.Changes.{moves_by}
use Rattle.dn_world.proofs.crews.Crew.turned.Goals as goal

pub returns-in-Done-clause-came : goal.returns-in-Done-clause-came
returns-in-Done-clause-came c words = moves_by words c.args.self.now words c.answered.new.self (bare c.answered.result) (λ w. ends w c.args.lane (told_of c.in-Done.answer)) (λ w. by_turn w c.args.lane c.args.turn)
    (λ w. sym (ap (λ (t : Turn). by_turn w c.args.lane t) c.in-Done.is))
    (c.answered.ensures.came words)
