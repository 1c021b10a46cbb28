use Rattle.dn_drain.proofs.Playing.{AreNotBelow}
use Rattle.dn_drain.proofs.tests.plays.has_call.Given as goal

abbrev pub invariant-loop-at : goal.invariant-loop-at
invariant-loop-at l = AreNotBelow l.cluster l.session l.at
