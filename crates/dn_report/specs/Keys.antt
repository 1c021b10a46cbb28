use Rattle.std.specs.Prelude.{◌≡◌, ℕ, is_some}
use Rattle.std.specs.FinMap.{get, len}
use Rattle.dn_hist.specs.Calls.{Bytes}

-- two maps have a value at the same keys
pub record HasSameKeys (map of : Bytes) : Type 0 where
  pub keys : (k : ℕ) → is_some (get map k) ≡ is_some (get of k)
  pub count : len map ≡ len of
