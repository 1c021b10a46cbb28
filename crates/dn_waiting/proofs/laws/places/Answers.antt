use Rattle.dn_waiting.proofs.PlaceLaws.{once, one_queue, one_begun, not_both, few_refused}
use Rattle.dn_waiting.proofs.Ranges.{attempt_shows}
use Rattle.dn_waiting.proofs.laws.places.Goals as goal

pub returns-clause-once : goal.returns-clause-once
returns-clause-once c = once

pub returns-clause-one_queue : goal.returns-clause-one_queue
returns-clause-one_queue c = one_queue

pub returns-clause-one_begun : goal.returns-clause-one_begun
returns-clause-one_begun c = one_begun

pub returns-clause-not_both : goal.returns-clause-not_both
returns-clause-not_both c = not_both

pub returns-clause-numbers : goal.returns-clause-numbers
returns-clause-numbers c = attempt_shows

pub returns-clause-refused : goal.returns-clause-refused
returns-clause-refused c = few_refused
