use Rattle.dn_model.proofs.HeldLaws.{one_log_map, left_push}
use Rattle.dn_model.proofs.FrameLaws.{one_log_kept, one_log_sealed}
use Rattle.dn_model.proofs.laws.pools.one_log.Goals as goal

pub returns-clause-map : goal.returns-clause-map
returns-clause-map c = one_log_map

pub returns-clause-push : goal.returns-clause-push
returns-clause-push c = left_push

pub returns-clause-kept : goal.returns-clause-kept
returns-clause-kept c = one_log_kept

pub returns-clause-sealed : goal.returns-clause-sealed
returns-clause-sealed c = one_log_sealed
