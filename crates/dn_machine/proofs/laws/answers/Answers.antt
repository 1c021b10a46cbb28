use Rattle.dn_machine.proofs.Histories.{answered, last_call}
use Rattle.dn_machine.proofs.Unanswered.{joins_so}
use Rattle.dn_machine.proofs.laws.answers.Goals as goal

pub returns-clause-given : goal.returns-clause-given
returns-clause-given c = answered

pub returns-clause-last : goal.returns-clause-last
returns-clause-last c = last_call

pub returns-clause-writes : goal.returns-clause-writes
returns-clause-writes c = joins_so
