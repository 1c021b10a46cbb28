use Rattle.dn_receipts.proofs.Plain.{fresh_so_far, none_so_far, one_so_far}
use Rattle.dn_receipts.proofs.laws.so_far.Goals as goal

pub returns-clause-fresh : goal.returns-clause-fresh
returns-clause-fresh c = fresh_so_far

pub returns-clause-none : goal.returns-clause-none
returns-clause-none c = none_so_far

pub returns-clause-one : goal.returns-clause-one
returns-clause-one c = one_so_far
