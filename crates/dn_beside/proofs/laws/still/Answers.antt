use Rattle.std.proofs.Common.{refl, arith}
use Rattle.dn_beside.proofs.Still.{learning_step, quiet_still}
use Rattle.dn_beside.specs.Step.{by_nobody}
use Rattle.dn_beside.proofs.laws.still.Goals as goal

pub returns-clause-step : goal.returns-clause-step
returns-clause-step c = λ p h. learning_step by_nobody p p.owners refl h (λ k. omega arith) (λ n d. refl) (λ f. refl)

pub returns-clause-quiet : goal.returns-clause-quiet
returns-clause-quiet c = λ p. quiet_still p p.owners refl (λ k. refl)
