use Rattle.dn_owners.proofs.Tables.{authority_after, held_after, located}
use Rattle.dn_owners.proofs.laws.keys.Goals as goal

pub returns-clause-authority : goal.returns-clause-authority
returns-clause-authority c = authority_after

pub returns-clause-held : goal.returns-clause-held
returns-clause-held c = held_after

pub returns-clause-located : goal.returns-clause-located
returns-clause-located c = located
