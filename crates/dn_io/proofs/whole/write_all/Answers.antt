use Rattle.std.proofs.Common.{arith, ◌∙◌, take_all, length-drop}
use Rattle.std.proofs.lemmas.Grind.{common_steps}
use Rattle.dn_io.proofs.StreamLemmas.{more_written}
use Rattle.dn_io.proofs.whole.write_all.Goals as goal

pub loop-done-preserved : goal.loop-done-preserved
loop-done-preserved g c = record {
  front = more_written _ _ _ _ _ _ _ c.loop-done.invariant.front c.in_ok-done.ensures.written (take_all _ _ (omega (arith, length-drop c.loop-done.done c.args.bytes.now)));
  within = grind (arith, common_steps, c.in_ok-done.ensures.within);
  faults = c.in_ok-done.ensures.no_fault ∙ c.loop-done.invariant.faults;
}
