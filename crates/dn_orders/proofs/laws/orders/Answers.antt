use Rattle.dn_orders.proofs.Lasting.{begins, lasts}
use Rattle.dn_orders.proofs.Takeovers.{heirs_are}
use Rattle.dn_orders.proofs.Steps.{step, failed}
use Rattle.dn_orders.proofs.laws.orders.Goals as goal

pub returns-clause-begins : goal.returns-clause-begins
returns-clause-begins c = begins

pub returns-clause-heirs : goal.returns-clause-heirs
returns-clause-heirs c = heirs_are

pub returns-clause-step : goal.returns-clause-step
returns-clause-step c = step

pub returns-clause-failed : goal.returns-clause-failed
returns-clause-failed c = failed

pub returns-clause-lasts : goal.returns-clause-lasts
returns-clause-lasts c = lasts
