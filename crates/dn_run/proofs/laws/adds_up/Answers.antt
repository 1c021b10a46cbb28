use Rattle.dn_run.proofs.Balance as balance
use Rattle.dn_run.proofs.laws.adds_up.Goals as goal

pub returns : goal.returns
returns c = balance.adds_up
