use Rattle.dn_find.proofs.SequenceLaws.{fetch_begun, walk_begun}
use Rattle.dn_find.proofs.finds.Find.start.Goals as goal

pub returns-in-Some-clause-sequence : goal.returns-in-Some-clause-sequence
returns-in-Some-clause-sequence c = fetch_begun c.args.fetch.now c.start.new.self c.args.key c.args.wish c.args.pending _ c.in-Some.is c.start.ensures.value

pub returns-in-None-clause-sequence : goal.returns-in-None-clause-sequence
returns-in-None-clause-sequence c = walk_begun c.args.fetch.now c.find.result c.args.key c.args.wish c.args.pending c.in-None.is c.find.ensures.value
