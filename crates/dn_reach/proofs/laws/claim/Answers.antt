use Rattle.dn_reach.proofs.Claims.{claim_step, claim_quiet, claim_log, miss_step, miss_quiet, miss_log}
use Rattle.dn_reach.proofs.laws.claim.Goals as goal

pub returns-clause-step : goal.returns-clause-step
returns-clause-step c = claim_step

pub returns-clause-quiet : goal.returns-clause-quiet
returns-clause-quiet c = claim_quiet

pub returns-clause-log : goal.returns-clause-log
returns-clause-log c = claim_log

pub returns-clause-miss_step : goal.returns-clause-miss_step
returns-clause-miss_step c = miss_step

pub returns-clause-miss_quiet : goal.returns-clause-miss_quiet
returns-clause-miss_quiet c = miss_quiet

pub returns-clause-miss_log : goal.returns-clause-miss_log
returns-clause-miss_log c = miss_log
