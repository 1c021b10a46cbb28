use Rattle.dn_callers.proofs.Learning.{numbers_sessions, numbers_first, numbers_further, numbers_calls}
use Rattle.dn_callers.proofs.laws.numbers.Goals as goal

pub returns-clause-sessions : goal.returns-clause-sessions
returns-clause-sessions c = numbers_sessions

pub returns-clause-first : goal.returns-clause-first
returns-clause-first c = numbers_first

pub returns-clause-further : goal.returns-clause-further
returns-clause-further c = numbers_further

pub returns-clause-calls : goal.returns-clause-calls
returns-clause-calls c = numbers_calls
