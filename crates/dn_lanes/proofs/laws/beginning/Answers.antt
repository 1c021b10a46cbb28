use Rattle.dn_lanes.proofs.Begins.{call_begins, task_begins}
use Rattle.dn_lanes.proofs.laws.beginning.Goals as goal

pub returns-clause-call : goal.returns-clause-call
returns-clause-call c = λ n l view call p lane idle is low. call_begins n l view call p (record { lane = lane; idle = idle }) is low

pub returns-clause-task : goal.returns-clause-task
returns-clause-task c = λ n l t p lane idle is. task_begins n l t p (record { lane = lane; idle = idle }) is
