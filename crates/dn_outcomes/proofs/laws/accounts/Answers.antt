use Rattle.dn_outcomes.proofs.Accounts.{all_accounted}
use Rattle.dn_outcomes.proofs.Counted.{numbers_counted, ends_rise}
use Rattle.dn_outcomes.proofs.Joined.{joined}
use Rattle.dn_outcomes.proofs.Made.{has_receipt_made}
use Rattle.dn_outcomes.proofs.Past.{no_receipt, stands_nowhere}
use Rattle.dn_outcomes.proofs.laws.accounts.Goals as goal

pub returns-clause-all : goal.returns-clause-all
returns-clause-all c = λ w es h run s. all_accounted w es s h run

pub returns-clause-numbers : goal.returns-clause-numbers
returns-clause-numbers c = λ w es h run s. numbers_counted w es s h run

pub returns-clause-once : goal.returns-clause-once
returns-clause-once c = λ w es h run s. ends_rise w es s h run

pub returns-clause-made : goal.returns-clause-made
returns-clause-made c = λ w es h run s x. has_receipt_made w es s x h run

pub returns-clause-given_up : goal.returns-clause-given_up
returns-clause-given_up c = λ w es h run s x. no_receipt w es s x h run

pub returns-clause-asked : goal.returns-clause-asked
returns-clause-asked c = λ w es h run x. joined w es x h run

pub returns-clause-unanswered : goal.returns-clause-unanswered
returns-clause-unanswered c = stands_nowhere
