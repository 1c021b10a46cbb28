use Rattle.dn_model.proofs.LogLaws.{log_frame}
use Rattle.dn_model.proofs.FrameLaws.{map_frame}
use Rattle.dn_model.proofs.laws.pools.frames.Goals as goal

pub returns-clause-log : goal.returns-clause-log
returns-clause-log c = log_frame

pub returns-clause-map : goal.returns-clause-map
returns-clause-map c = map_frame
