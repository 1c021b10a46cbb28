use Rattle.dn_route.proofs.CallerLaws.{good_view, good_again, good_told}
use Rattle.dn_route.proofs.laws.views.Goals as goal

pub returns-clause-first : goal.returns-clause-first
returns-clause-first c = good_view

pub returns-clause-further : goal.returns-clause-further
returns-clause-further c = good_again

pub returns-clause-waiting : goal.returns-clause-waiting
returns-clause-waiting c = good_told
