use Rattle.dn_store.proofs.Claims.{segment_claim, segment_miss}
use Rattle.dn_store.proofs.laws.segments.Goals as goal

pub returns-clause-claim : goal.returns-clause-claim
returns-clause-claim c = segment_claim

pub returns-clause-miss : goal.returns-clause-miss
returns-clause-miss c = segment_miss
