use Rattle.std.proofs.Common.{arith}
use Rattle.dn_model.specs.Told.{holds_of}
use Rattle.dn_model.proofs.SettleLaws.{towards_then, below_more}
use Rattle.dn_model.proofs.maps.settle_buckets.Goals as goal

pub loop-number-preserved : goal.loop-number-preserved
loop-number-preserved c = record {
  towards = towards_then (holds_of c.args.words.now c.args.logs.now c.args.chains.now) c.args.map.now c.loop-number.map c.settle_bucket.new.map c.loop-number.invariant.towards c.in-Ok.ensures.towards;
  right = below_more c.args.words.now (holds_of c.args.words.now c.args.logs.now c.args.chains.now) c.loop-number.map c.settle_bucket.new.map c.loop-number.number c.loop-number.invariant.right c.in-Ok.ensures.towards c.in-Ok.ensures.right;
}

pub returns-clause-right : goal.returns-clause-right
returns-clause-right c = λ b i lt pos il. c.loop-number.invariant.right b i (omega arith) pos il
