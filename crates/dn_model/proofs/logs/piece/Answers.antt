use Rattle.std.proofs.Common.{arith}
use Rattle.std.proofs.lemmas.Grind.{common_steps}
use Rattle.dn_model.proofs.PieceLaws.{reads_more}
use Rattle.dn_model.proofs.logs.piece.Goals as goal

pub loop-i-preserved : goal.loop-i-preserved
loop-i-preserved c = grind (arith, common_steps, reads_more)
