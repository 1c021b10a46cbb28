use Rattle.dn_callers.proofs.Answering.{answered_sessions, answered_calls, unanswered_sessions, unanswered_calls}
use Rattle.dn_callers.proofs.laws.receipts.Goals as goal

pub returns-clause-answered : goal.returns-clause-answered
returns-clause-answered c = answered_sessions

pub returns-clause-answered_calls : goal.returns-clause-answered_calls
returns-clause-answered_calls c = answered_calls

pub returns-clause-unanswered : goal.returns-clause-unanswered
returns-clause-unanswered c = unanswered_sessions

pub returns-clause-unanswered_calls : goal.returns-clause-unanswered_calls
returns-clause-unanswered_calls c = unanswered_calls
