use Rattle.std.specs.Prelude.{List}
use Rattle.dn_hist.specs.Replay.{IsLegal, map_left}
use Rattle.dn_hist.specs.declared.receipts.Receipt.{Receipt}
use Rattle.dn_model.specs.PoolMap.{HoldsMap}
use Rattle.dn_beside.specs.Pool.{Pool}

-- Receipts in the order in which they came to stand: a plain map that starts empty explains them all, and it is then what
-- the pool holds.
pub record IsLegalSoFar (p : Pool) (rs : List Receipt) : Type 0 where
  pub legal : IsLegal rs
  pub map : HoldsMap p.words (map_left rs)
