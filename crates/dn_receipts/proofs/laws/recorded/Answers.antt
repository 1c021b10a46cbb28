use Rattle.dn_receipts.proofs.Spelled.{recorded_lasts, spelled_by}
use Rattle.dn_receipts.proofs.laws.recorded.Goals as goal

pub returns-clause-lasts : goal.returns-clause-lasts
returns-clause-lasts c = recorded_lasts

pub returns-clause-spelled : goal.returns-clause-spelled
returns-clause-spelled c = spelled_by
