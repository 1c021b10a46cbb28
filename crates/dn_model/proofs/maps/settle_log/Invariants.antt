use Rattle.dn_model.specs.Told.{holds_of, Towards, IsRightFor}
use Rattle.dn_model.proofs.maps.settle_log.Given as goal

-- what was right stays right, and so far the map is right
abbrev pub invariant-loop-placed : goal.invariant-loop-placed
invariant-loop-placed l = record {
  towards : Towards (holds_of l.words l.logs l.chains) l.fn.map l.map;
  right : IsRightFor (holds_of l.words l.logs l.chains) l.map l.log l.placed-index;
}
