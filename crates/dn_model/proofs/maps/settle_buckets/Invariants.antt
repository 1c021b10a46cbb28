use Rattle.dn_model.specs.Told.{holds_of, Towards, IsRightBelow}
use Rattle.dn_model.proofs.maps.settle_buckets.Given as goal

-- what was right stays right, and so far the map is right
abbrev pub invariant-loop-number : goal.invariant-loop-number
invariant-loop-number l = record {
  towards : Towards (holds_of l.words l.logs l.chains) l.fn.map l.map;
  right : IsRightBelow l.words (holds_of l.words l.logs l.chains) l.map l.number;
}
