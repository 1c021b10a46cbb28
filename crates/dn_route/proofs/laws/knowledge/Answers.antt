use Rattle.dn_route.proofs.CallerLaws.{knows_opened, knows_numbered, knows_heard, knows_made, knows_others}
use Rattle.dn_route.proofs.laws.knowledge.Goals as goal

pub returns-clause-opened : goal.returns-clause-opened
returns-clause-opened c = knows_opened

pub returns-clause-numbered : goal.returns-clause-numbered
returns-clause-numbered c = knows_numbered

pub returns-clause-heard : goal.returns-clause-heard
returns-clause-heard c = knows_heard

pub returns-clause-made : goal.returns-clause-made
returns-clause-made c = knows_made

pub returns-clause-others : goal.returns-clause-others
returns-clause-others c = knows_others
