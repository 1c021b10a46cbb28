use Rattle.std.proofs.Common.{◌∙◌, drop}
use Rattle.dn_script.specs.Found.{said_by}
use Rattle.dn_script.proofs.LeftLemmas.{none_read}
use Rattle.dn_script.proofs.fields.read_on.Goals as goal

pub returns-in_default : goal.returns-in_default
returns-in_default c = none_read c.args.rules (drop c.loop-part.part-index c.args.parts.now) c.loop-part.rest (said_by c.loop-part.found) c.in_default.is ∙ c.loop-part.invariant
