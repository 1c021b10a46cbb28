use Rattle.dn_seek.proofs.Loads.{known_loads, begins_loading, only_loads, still_loads}
use Rattle.dn_seek.proofs.laws.loading.Goals as goal

pub returns-clause-known : goal.returns-clause-known
returns-clause-known c = known_loads

pub returns-clause-begins : goal.returns-clause-begins
returns-clause-begins c = begins_loading

pub returns-clause-loads : goal.returns-clause-loads
returns-clause-loads c = only_loads

pub returns-clause-step : goal.returns-clause-step
returns-clause-step c = still_loads
