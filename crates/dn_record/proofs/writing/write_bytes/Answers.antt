use Rattle.std.proofs.Common.{◌+◌, ◌/◌, length, arith, rules}
use Rattle.dn_record.proofs.ValueLemmas.{one_more, rest_stays}
use Rattle.dn_record.proofs.writing.write_bytes.Goals as goal

pub loop-index-preserved : goal.loop-index-preserved
loop-index-preserved c = record {
  value = one_more c.loop-index.out c.args.bytes.now c.loop-index.index ((length c.args.bytes.now + 7) / 8) c.word.result _ (search rules) (omega arith) (search rules) c.loop-index.invariant.value;
  rest = rest_stays c.loop-index.out c.args.out.now c.loop-index.index ((length c.args.bytes.now + 7) / 8) c.word.result (omega arith) c.loop-index.invariant.rest;
}
