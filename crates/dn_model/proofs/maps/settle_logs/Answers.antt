use Rattle.std.proofs.Common.{[], sym, ◌∙◌, arith}
use Rattle.dn_model.specs.Told.{holds_of}
use Rattle.std.proofs.lemmas.List.{get_or_default}
use Rattle.dn_model.proofs.SettleLaws.{towards_then, logs_more}
use Rattle.dn_model.proofs.maps.settle_logs.Goals as goal

pub loop-log-preserved : goal.loop-log-preserved
loop-log-preserved c = record {
  towards = towards_then (holds_of c.args.words.now c.args.logs.now c.args.chains.now) c.args.map.now c.loop-log.map c.settle_log.new.map c.loop-log.invariant.towards c.in-Ok.ensures.towards;
  right = logs_more (holds_of c.args.words.now c.args.logs.now c.args.chains.now) c.loop-log.map c.settle_log.new.map c.args.logs.now c.loop-log.log-index c.as_slice.result.now c.loop-log.invariant.right c.in-Ok.ensures.towards
      (get_or_default c.args.logs.now c.loop-log.log-index [] c.log-item.result (omega arith) ∙ sym c.log-item.is ∙ sym c.as_slice.ensures) c.in-Ok.ensures.right;
}

pub returns-clause-right : goal.returns-clause-right
returns-clause-right c = λ n lt. c.loop-log.invariant.right n (omega arith)
