use Rattle.dn_model.specs.PoolMap.{IsUnreadable}
use Rattle.dn_model.specs.Told.{SomeLog, SomeChain}
use Rattle.dn_model.proofs.SettleLaws.{says_on, no_map_log, no_map_chain}
use Rattle.dn_model.proofs.maps.pool_map.Goals as goal

pub returns-in-Err-clause-fault : goal.returns-in-Err-clause-fault
returns-in-Err-clause-fault c = says_on (SomeLog c.args.words.now) (IsUnreadable c.args.words.now) c.in-Err.fault (no_map_log c.args.words.now) c.in-Err.ensures.fault

pub returns-in-Err-read_chains-clause-fault : goal.returns-in-Err-read_chains-clause-fault
returns-in-Err-read_chains-clause-fault c = says_on (SomeChain c.args.words.now) (IsUnreadable c.args.words.now) c.in-Err-read_chains.fault (no_map_chain c.args.words.now) c.in-Err-read_chains.ensures.fault
