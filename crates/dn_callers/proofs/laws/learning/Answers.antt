use Rattle.dn_callers.proofs.Learning.{routes_sessions, routes_calls, hints_sessions, hints_calls}
use Rattle.dn_callers.proofs.laws.learning.Goals as goal

pub returns-clause-routes : goal.returns-clause-routes
returns-clause-routes c = routes_sessions

pub returns-clause-routes_calls : goal.returns-clause-routes_calls
returns-clause-routes_calls c = routes_calls

pub returns-clause-hints : goal.returns-clause-hints
returns-clause-hints c = hints_sessions

pub returns-clause-hints_calls : goal.returns-clause-hints_calls
returns-clause-hints_calls c = hints_calls
