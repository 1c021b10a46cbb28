use Rattle.std.specs.Prelude.{◌≡◌, ℕ, ◌<◌}
use Rattle.dn_model.specs.declared.logs.Placed.{Placed}
use Rattle.dn_owners.specs.Merging.{IsWaiting}
use Rattle.dn_beside.specs.Pool.{Pool, store_in}
use Rattle.dn_beside.specs.Chains.{IsChainKept}

-- What a step of another actor leaves to lane n's merger: the mark, and the chain of each key of which the log has an
-- unmerged record.
pub record LeavesMerger (n : ℕ) (p q : Pool) : Type 0 where
  pub mark : (store_in q).marks n ≡ (store_in p).marks n
  pub chains : (k : ℕ) (r : Placed) → 0 < k → IsWaiting p.owners n k r → IsChainKept n k p q
