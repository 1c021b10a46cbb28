use Rattle.std.specs.Prelude.{◌≡◌, ℕ, ◌<◌, List, None}
use Rattle.std.specs.FinMap.{get}
use Rattle.dn_hist.specs.Calls.{Bytes}
use Rattle.dn_model.specs.Log.{Placed}
use Rattle.dn_model.specs.Held.{Says, Reads, held}

-- The words hold this map: it has at each key what the pool holds there, and nothing at 0, which is no key.
pub record HoldsMap (words : List ℕ) (map : Bytes) : Type 0 where
  pub logs : ℕ → List Placed
  pub chains : ℕ → List ℕ
  pub reads : Reads words logs chains
  pub holds : (k : ℕ) → 0 < k → held words logs chains k ≡ Says (get map k)
  pub no_key : get map 0 ≡ None

-- the words hold no map
abbrev pub IsUnreadable : List ℕ → Type 0
IsUnreadable words = (map : Bytes) → HoldsMap words map → ⊥
