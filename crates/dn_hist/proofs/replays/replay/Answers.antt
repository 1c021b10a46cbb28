use Rattle.std.proofs.Common.{arith, sym, ◌∙◌, ap}
use Rattle.std.proofs.lemmas.Grind.{common_steps}
use Rattle.std.specs.Bool.{IsTrue}
use Rattle.std.specs.FinMap.{empty}
use Rattle.dn_hist.specs.Calls.{reply_of}
use Rattle.dn_hist.proofs.ReplayLemmas.{legal_at, legal_more, map_more}
use Rattle.dn_hist.proofs.replays.replay.Goals as goal

pub loop-place-preserved : goal.loop-place-preserved
loop-place-preserved c = record {
  legal = grind (arith, common_steps, legal_more);
  map = grind (arith, common_steps, map_more);
}

pub returns-then-not-gives-clause-accepts : goal.returns-then-not-gives-clause-accepts
returns-then-not-gives-clause-accepts c = λ legal.
    let r = c.index-receipts-place.result in
    let here = legal_at empty c.args.receipts.now c.loop-place.place r (omega arith) c.index-receipts-place.is legal in
    let given : IsTrue c.gives.result = c.gives.ensures.1 (here ∙ ap (reply_of r.call) (sym c.loop-place.invariant.map)) in
    absurd (grind (arith, common_steps, given))
