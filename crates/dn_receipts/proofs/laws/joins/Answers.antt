use Rattle.std.proofs.Common.{sym, ◌∙◌, ap}
use Rattle.dn_hist.specs.Calls.{key_of}
use Rattle.dn_receipts.proofs.Joining.{none_joins, one_joins, read_passes}
use Rattle.dn_receipts.proofs.laws.joins.Goals as goal

pub returns-clause-none : goal.returns-clause-none
returns-clause-none c = none_joins

pub returns-clause-one : goal.returns-clause-one
returns-clause-one c = one_joins

pub returns-clause-left_out : goal.returns-clause-left_out
returns-clause-left_out c = λ p q rs r k h g j e d. read_passes p q rs r k e h g j (λ z. d (sym (ap key_of e) ∙ z))
