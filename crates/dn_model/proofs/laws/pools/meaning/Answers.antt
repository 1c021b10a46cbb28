use Rattle.dn_model.proofs.MapLaws.{one_log, one_map}
use Rattle.dn_model.proofs.laws.pools.meaning.Goals as goal

pub returns-clause-log : goal.returns-clause-log
returns-clause-log c = one_log

pub returns-clause-map : goal.returns-clause-map
returns-clause-map c = one_map
