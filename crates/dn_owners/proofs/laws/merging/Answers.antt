use Rattle.dn_owners.proofs.Merging.{slot_alone, chain_alone, index_after, walk_stays}
use Rattle.dn_owners.proofs.laws.merging.Goals as goal

pub returns-clause-slot : goal.returns-clause-slot
returns-clause-slot c = slot_alone

pub returns-clause-chain : goal.returns-clause-chain
returns-clause-chain c = chain_alone

pub returns-clause-index : goal.returns-clause-index
returns-clause-index c = index_after

pub returns-clause-walk : goal.returns-clause-walk
returns-clause-walk c = walk_stays
