use Rattle.dn_model.specs.Told.{holds_of, Towards, IsRightIn}
use Rattle.dn_model.proofs.maps.settle_bucket.Given as goal

-- what was right stays right, and so far the map is right
abbrev pub invariant-loop-i : goal.invariant-loop-i
invariant-loop-i l = record {
  towards : Towards (holds_of l.words l.logs l.chains) l.fn.map l.map;
  right : IsRightIn l.words (holds_of l.words l.logs l.chains) l.map l.number l.i;
}
