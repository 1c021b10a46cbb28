use Rattle.dn_receipts.proofs.Opened.{fresh_whole, no_receipts}
use Rattle.dn_receipts.proofs.laws.fresh.Goals as goal

pub returns-clause-whole : goal.returns-clause-whole
returns-clause-whole c = fresh_whole

pub returns-clause-receipts : goal.returns-clause-receipts
returns-clause-receipts c = no_receipts
