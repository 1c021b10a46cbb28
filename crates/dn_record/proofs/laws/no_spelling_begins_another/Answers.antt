use Rattle.dn_record.proofs.LawLemmas.{no_prefix}
use Rattle.dn_record.proofs.laws.no_spelling_begins_another.Goals as goal

pub returns : goal.returns
returns c = no_prefix
