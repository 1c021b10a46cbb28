use Rattle.std.proofs.Common.{arith}
use Rattle.std.proofs.lemmas.Grind.{common_steps}
use Rattle.dn_model.proofs.HeldLaws.{unmerged_more}
use Rattle.dn_model.proofs.holdings.last_unmerged.Goals as goal

pub loop-placed-preserved : goal.loop-placed-preserved
loop-placed-preserved c = grind (arith, common_steps, unmerged_more)
