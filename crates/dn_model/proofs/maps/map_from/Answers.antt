use Rattle.dn_model.specs.PoolMap.{IsUnreadable}
use Rattle.dn_model.specs.Told.{holds_of, Stray}
use Rattle.dn_model.proofs.SettleLaws.{final_map, says_on, no_map_stray}
use Rattle.dn_model.proofs.maps.map_from.Goals as goal

pub returns-in-Err-clause-fault : goal.returns-in-Err-clause-fault
returns-in-Err-clause-fault c = says_on (Stray (holds_of c.args.words.now c.args.logs.now c.args.chains.now)) (IsUnreadable c.args.words.now) c.in-Err.fault (no_map_stray c.args.words.now c.args.logs.now c.args.chains.now c.requires.logs c.requires.chains) c.in-Err.ensures.fault

pub returns-in-Err-settle_buckets-clause-fault : goal.returns-in-Err-settle_buckets-clause-fault
returns-in-Err-settle_buckets-clause-fault c = says_on (Stray (holds_of c.args.words.now c.args.logs.now c.args.chains.now)) (IsUnreadable c.args.words.now) c.in-Err-settle_buckets.fault (no_map_stray c.args.words.now c.args.logs.now c.args.chains.now c.requires.logs c.requires.chains) c.in-Err-settle_buckets.ensures.fault

pub returns-clause-map : goal.returns-clause-map
returns-clause-map c = final_map c.args.words.now c.args.logs.now c.args.chains.now c.new-map.result c.settle_logs.new.map c.settle_buckets.new.map c.requires.logs c.requires.chains c.new-map.ensures
    c.in-Ok.ensures.towards c.in-Ok.ensures.right c.in-Ok-settle_buckets.ensures.towards c.in-Ok-settle_buckets.ensures.right
