use Rattle.std.proofs.Common.{arith}
use Rattle.dn_record.specs.Record.{head_of}
use Rattle.dn_record.proofs.LookLemmas.{look_record, look_value, look_only}
use Rattle.dn_record.proofs.reading.look.Goals as goal

pub returns-clause-record : goal.returns-clause-record
returns-clause-record c = λ r f. look_record c.args.words.now c.in_ok-first.field-0.now c.in_ok-head.head c.seen.result r (c.in_ok-first.ensures.item.3.1 0) (c.in_ok-head.ensures.spelled (head_of r)) c.seen.ensures.record f

pub returns-clause-value : goal.returns-clause-value
returns-clause-value c = λ r f. look_value c.args.words.now c.in_ok-first.field-0.now c.in_ok-head.head c.seen.result c.seen.new.room c.args.room.now r (c.in_ok-first.ensures.item.3.1 0) (c.in_ok-head.ensures.spelled (head_of r)) c.seen.ensures.record c.seen.ensures.room f

pub returns-clause-only : goal.returns-clause-only
returns-clause-only c = look_only c.args.words.now c.in_ok-first.field-0.now c.in_ok-head.head c.seen.result (c.in_ok-first.ensures.item.3.1 0) c.in_ok-head.ensures.only (omega (arith, c.in_ok-first.ensures.item.3.0)) (λ i. omega (arith, c.type_inv.words i)) c.seen.ensures.record
