use Rattle.dn_waiting.proofs.Refusals.{seven, eighth}
use Rattle.dn_waiting.proofs.laws.refusals.Goals as goal

pub returns-clause-seven : goal.returns-clause-seven
returns-clause-seven c = seven

pub returns-clause-eighth : goal.returns-clause-eighth
returns-clause-eighth c = eighth
