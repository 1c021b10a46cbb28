use Rattle.dn_outcomes.proofs.RunLaws.{told_calls}
use Rattle.dn_outcomes.proofs.ToldEvents.{receipts_so, calls_so, starts_so, names_so}
use Rattle.dn_outcomes.proofs.laws.outcomes.Goals as goal

pub returns-clause-receipts : goal.returns-clause-receipts
returns-clause-receipts c = receipts_so

pub returns-clause-calls : goal.returns-clause-calls
returns-clause-calls c = λ w e heirs h may s other. calls_so w e heirs s h may other

pub returns-clause-begins : goal.returns-clause-begins
returns-clause-begins c = starts_so

pub returns-clause-numbers : goal.returns-clause-numbers
returns-clause-numbers c = names_so

pub returns-clause-runs : goal.returns-clause-runs
returns-clause-runs c = told_calls
