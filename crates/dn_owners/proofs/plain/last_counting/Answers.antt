use Rattle.std.proofs.Common.{arith}
use Rattle.std.proofs.lemmas.Grind.{common_steps}
use Rattle.dn_owners.proofs.Counting.{counting_more}
use Rattle.dn_owners.proofs.plain.last_counting.Goals as goal

pub loop-one-preserved : goal.loop-one-preserved
loop-one-preserved c = grind (arith, common_steps, counting_more)
