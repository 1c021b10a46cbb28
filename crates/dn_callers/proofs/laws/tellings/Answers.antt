use Rattle.dn_callers.proofs.Telling.{told_sessions, told_calls}
use Rattle.dn_callers.proofs.laws.tellings.Goals as goal

pub returns-clause-sessions : goal.returns-clause-sessions
returns-clause-sessions c = told_sessions

pub returns-clause-calls : goal.returns-clause-calls
returns-clause-calls c = told_calls
