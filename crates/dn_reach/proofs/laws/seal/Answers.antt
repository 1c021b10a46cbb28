use Rattle.dn_reach.proofs.Seals.{seal_step, seal_log, seal_key, seal_others, seal_promised, seal_gate, seal_logs, seal_knows}
use Rattle.dn_reach.proofs.laws.seal.Goals as goal

pub returns-clause-step : goal.returns-clause-step
returns-clause-step c = seal_step

pub returns-clause-log : goal.returns-clause-log
returns-clause-log c = seal_log

pub returns-clause-held : goal.returns-clause-held
returns-clause-held c = seal_key

pub returns-clause-others : goal.returns-clause-others
returns-clause-others c = seal_others

pub returns-clause-promised : goal.returns-clause-promised
returns-clause-promised c = seal_promised

pub returns-clause-gate : goal.returns-clause-gate
returns-clause-gate c = seal_gate

pub returns-clause-logs : goal.returns-clause-logs
returns-clause-logs c = seal_logs

pub returns-clause-knows : goal.returns-clause-knows
returns-clause-knows c = seal_knows
