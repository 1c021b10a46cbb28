use Rattle.std.proofs.Common.{arith}
use Rattle.dn_model.specs.Told.{holds_of}
use Rattle.dn_model.proofs.SettleLaws.{towards_then, right_more}
use Rattle.dn_model.proofs.maps.settle_log.Goals as goal

pub loop-placed-preserved : goal.loop-placed-preserved
loop-placed-preserved c = record {
  towards = towards_then (holds_of c.args.words.now c.args.logs.now c.args.chains.now) c.args.map.now c.loop-placed.map c.settle.new.map c.loop-placed.invariant.towards c.in-Ok.ensures.towards;
  right = right_more (holds_of c.args.words.now c.args.logs.now c.args.chains.now) c.loop-placed.map c.settle.new.map c.args.log.now c.loop-placed.placed-index c.placed-item.result c.authority_key.result c.loop-placed.invariant.right c.in-Ok.ensures.towards c.placed-item.is (omega arith) c.authority_key.ensures c.in-Ok.ensures.right;
}

pub returns-clause-right : goal.returns-clause-right
returns-clause-right c = λ i k p lt e auth. c.loop-placed.invariant.right i k p (omega arith) e auth
