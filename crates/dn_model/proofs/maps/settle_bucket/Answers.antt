use Rattle.std.proofs.Common.{arith}
use Rattle.dn_model.specs.Told.{holds_of}
use Rattle.dn_model.proofs.SettleLaws.{towards_then, in_more}
use Rattle.dn_model.proofs.maps.settle_bucket.Goals as goal

pub loop-i-preserved : goal.loop-i-preserved
loop-i-preserved c = record {
  towards = towards_then (holds_of c.args.words.now c.args.logs.now c.args.chains.now) c.args.map.now c.loop-i.map c.settle.new.map c.loop-i.invariant.towards c.in-Ok.ensures.towards;
  right = in_more c.args.words.now (holds_of c.args.words.now c.args.logs.now c.args.chains.now) c.loop-i.map c.settle.new.map c.args.number c.loop-i.i c.bucket_word.result c.loop-i.invariant.right c.in-Ok.ensures.towards c.bucket_word.ensures c.in-Ok.ensures.right;
}

pub returns-clause-right : goal.returns-clause-right
returns-clause-right c = λ i pos lt. c.loop-i.invariant.right i pos (omega arith)
