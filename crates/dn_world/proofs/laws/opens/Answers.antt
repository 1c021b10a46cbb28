use Rattle.std.proofs.Common.{ap}
use Rattle.dn_outcomes.specs.State.{World}
use Rattle.dn_world.proofs.Determined.{one_opening}
use Rattle.dn_world.proofs.laws.opens.Goals as goal

pub returns-clause-world : goal.returns-clause-world
returns-clause-world c = one_opening

pub returns-clause-words : goal.returns-clause-words
returns-clause-words c = λ before other words now w v segments n zeros others size h k.
    ap (λ (x : World). x.machine.words) (one_opening before other words now w v segments n zeros others size h k)
