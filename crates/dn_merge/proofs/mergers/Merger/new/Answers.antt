use Rattle.dn_merge.proofs.SequenceLaws.{sequence_run}
use Rattle.dn_merge.proofs.mergers.Merger.new.Goals as goal

pub returns-clause-sequence : goal.returns-clause-sequence
returns-clause-sequence c = sequence_run c.args.lane
