use Rattle.std.proofs.Common.{arith}
use Rattle.std.proofs.lemmas.Grind.{common_steps}
use Rattle.dn_io.proofs.StreamLemmas.{front_and_rest}
use Rattle.dn_io.proofs.in_memory.BytesInSource.read.Goals as goal

pub returns-clause-taken : goal.returns-clause-taken
returns-clause-taken c = front_and_rest c.self.inside.bytes.items c.copy_from_slice.new.self _ c.args.self.now.left c.self.inside.start c.min-count.result (grind (arith, common_steps)) (grind (arith, common_steps, c.copy_from_slice.ensures.after)) (grind (arith, common_steps))
