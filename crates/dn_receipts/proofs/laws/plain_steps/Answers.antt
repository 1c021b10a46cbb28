use Rattle.dn_receipts.proofs.Plain.{none_keeps, its_reply, its_change}
use Rattle.dn_receipts.proofs.laws.plain_steps.Goals as goal

pub returns-clause-none : goal.returns-clause-none
returns-clause-none c = none_keeps

pub returns-clause-reply : goal.returns-clause-reply
returns-clause-reply c = its_reply

pub returns-clause-one : goal.returns-clause-one
returns-clause-one c = its_change
