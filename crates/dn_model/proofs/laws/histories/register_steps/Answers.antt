use Rattle.dn_model.proofs.RegisterSteps.{register_same_from, register_read_from, register_write_from}
use Rattle.dn_model.proofs.laws.histories.register_steps.Goals as goal

pub returns-clause-same : goal.returns-clause-same
returns-clause-same c = register_same_from

pub returns-clause-read : goal.returns-clause-read
returns-clause-read c = register_read_from

pub returns-clause-write : goal.returns-clause-write
returns-clause-write c = register_write_from
