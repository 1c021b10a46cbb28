use Rattle.dn_outcomes.proofs.EffectEvents.{effect}
use Rattle.dn_outcomes.proofs.laws.effects.Goals as goal

pub returns : goal.returns
returns c = effect
