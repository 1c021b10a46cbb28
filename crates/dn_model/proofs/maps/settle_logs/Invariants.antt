use Rattle.dn_model.specs.Told.{holds_of, Towards, AreRightFor}
use Rattle.dn_model.proofs.maps.settle_logs.Given as goal

-- what was right stays right, and so far the map is right
abbrev pub invariant-loop-log : goal.invariant-loop-log
invariant-loop-log l = record {
  towards : Towards (holds_of l.words l.logs l.chains) l.fn.map l.map;
  right : AreRightFor (holds_of l.words l.logs l.chains) l.map l.logs l.log-index;
}
