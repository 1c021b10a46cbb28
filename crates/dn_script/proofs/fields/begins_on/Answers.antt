use Rattle.std.proofs.Common.{◌∙◌, drop}
use Rattle.dn_script.proofs.LeftLemmas.{none_begun}
use Rattle.dn_script.proofs.fields.begins_on.Goals as goal

pub returns-in_default : goal.returns-in_default
returns-in_default c = none_begun (drop c.loop-part.part-index c.args.parts.now) c.loop-part.rest c.in_default.is ∙ c.loop-part.invariant
