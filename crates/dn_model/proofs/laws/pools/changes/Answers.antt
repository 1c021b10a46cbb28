use Rattle.dn_model.proofs.ChangeLaws.{map_same, map_put, map_gone}
use Rattle.dn_model.proofs.laws.pools.changes.Goals as goal

pub returns-clause-same : goal.returns-clause-same
returns-clause-same c = map_same

pub returns-clause-put : goal.returns-clause-put
returns-clause-put c = map_put

pub returns-clause-gone : goal.returns-clause-gone
returns-clause-gone c = map_gone
