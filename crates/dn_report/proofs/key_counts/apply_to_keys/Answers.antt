use Rattle.dn_report.proofs.KeyLemmas.{put_keys, removed_keys}
use Rattle.dn_report.proofs.key_counts.apply_to_keys.Goals as goal

pub returns-in_ok-insert-in-Put : goal.returns-in_ok-insert-in-Put
returns-in_ok-insert-in-Put c = λ of h. put_keys c.args.map.now c.insert.new.self of _ _ _ _ c.in-Put.is c.in_ok-insert-in-Put.ensures.ok h

pub returns-in-Delete : goal.returns-in-Delete
returns-in-Delete c = λ of h. removed_keys c.args.map.now c.remove.new.self of _ _ c.in-Delete.is c.remove.ensures h
