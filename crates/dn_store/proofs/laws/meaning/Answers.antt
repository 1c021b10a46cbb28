use Rattle.dn_store.proofs.Same.{same_store, same_chains, merged_within}
use Rattle.dn_store.proofs.Holding.{authority_is, holder_in_is, held_is}
use Rattle.dn_store.proofs.laws.meaning.Goals as goal

pub returns-clause-store : goal.returns-clause-store
returns-clause-store c = same_store

pub returns-clause-chains : goal.returns-clause-chains
returns-clause-chains c = same_chains

pub returns-clause-authority : goal.returns-clause-authority
returns-clause-authority c = authority_is

pub returns-clause-holder : goal.returns-clause-holder
returns-clause-holder c = holder_in_is

pub returns-clause-held : goal.returns-clause-held
returns-clause-held c = held_is

pub returns-clause-merged : goal.returns-clause-merged
returns-clause-merged c = merged_within
