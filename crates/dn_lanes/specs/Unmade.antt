use Rattle.std.specs.Prelude.{◌≡◌, ◌<◌, ℕ, []}
use Rattle.dn_model.specs.Regions.{directory}
use Rattle.dn_beside.specs.Pool.{Pool, store_in}

-- Lane n was never made: it has no segment, has sealed nothing, and its log is empty.
pub record IsUnmade (p : Pool) (n : ℕ) : Type 0 where
  pub directory : (i : ℕ) → i < 256 → directory p.words n i ≡ 0
  pub len : ((store_in p).gates n).len ≡ 0
  pub log : (store_in p).logs n ≡ []
