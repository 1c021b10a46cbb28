use Rattle.dn_record.proofs.LawLemmas.{one_front}
use Rattle.dn_record.proofs.laws.front_spells_one.Goals as goal

pub returns : goal.returns
returns c = one_front
