use Rattle.dn_cluster.proofs.Given.{first_view, further_view}
use Rattle.dn_cluster.proofs.laws.views.Goals as goal

pub returns-clause-first : goal.returns-clause-first
returns-clause-first c = first_view

pub returns-clause-further : goal.returns-clause-further
returns-clause-further c = further_view
