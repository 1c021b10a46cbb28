use Rattle.std.proofs.Common.{arith, ◌++◌, take, length-append}
use Rattle.std.proofs.lemmas.Grind.{common_steps}
use Rattle.std.proofs.KnownBytes.{Consumes-trans}
use Rattle.dn_io.proofs.whole.read_all.Goals as goal

pub returns-then-is_err-clause-refused : goal.returns-then-is_err-clause-refused
returns-then-is_err-clause-refused g c = record {
  bytes = c.loop-piece.bytes.items ++ take c.in-Ok.count c.read.new.into;
  gone = Consumes-trans _ _ _ _ _ c.loop-piece.invariant.read c.in-Ok.ensures.taken;
  fits = grind (arith, common_steps, length-append c.loop-piece.bytes.items (take c.in-Ok.count c.read.new.into));
}
