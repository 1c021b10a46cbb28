use Rattle.dn_model.proofs.LogLaws.{log_sealed}
use Rattle.dn_model.proofs.laws.pools.sealing.Goals as goal

pub returns : goal.returns
returns c = log_sealed
