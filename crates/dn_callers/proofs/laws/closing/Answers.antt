use Rattle.dn_callers.proofs.Answering.{closed_sessions, closed_calls}
use Rattle.dn_callers.proofs.laws.closing.Goals as goal

pub returns-clause-sessions : goal.returns-clause-sessions
returns-clause-sessions c = closed_sessions

pub returns-clause-calls : goal.returns-clause-calls
returns-clause-calls c = closed_calls
