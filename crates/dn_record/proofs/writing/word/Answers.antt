use Rattle.dn_record.proofs.ValueLemmas.{word_filled}
use Rattle.dn_record.proofs.writing.word.Goals as goal

pub returns : goal.returns
returns c = word_filled c.args.bytes.now c.copy_from_slice.new.self c.min-count.result c.from_le_bytes.result c.min-count.ensures c.copy_from_slice.ensures.after c.from_le_bytes.ensures
