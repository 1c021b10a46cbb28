use Rattle.std.specs.Prelude.{◌≡◌, ◌≢◌, ◌<◌, ℕ, true, List, Contains}
use Rattle.dn_word.specs.declared.packed.deed.Deed.{Deed}
use Rattle.dn_word.specs.declared.packed.deed.DeedState.TheVariants.{Nobody}
use Rattle.dn_model.specs.Regions.{IsLane}
use Rattle.dn_model.specs.OneLog.{is_plain}
use Rattle.dn_model.specs.declared.logs.Placed.{Placed}
use Rattle.dn_store.specs.State.{StoreState}
use Rattle.dn_store.specs.Represents.{Represents}
use Rattle.dn_owners.specs.Known.{Owners}
use Rattle.dn_owners.specs.Sound.{IsSound}

-- A pool of words: with the overflow buckets behind each home bucket, the store that the words represent, and who owns
-- and knows what of it.
pub record Pool : Type 0 where
  pub words : List ℕ
  pub chains : ℕ → List ℕ
  pub owners : Owners

abbrev pub store_in : Pool → StoreState
store_in p = p.owners.store

-- a deed that isn't nobody's names a lane, and was granted in some epoch
pub record IsDeed (d : Deed) : Type 0 where
  pub names : d.state ≢ Nobody → IsLane d.lane
  pub granted : d.state ≢ Nobody → 0 < d.epoch

-- while no key is shared, all sealed records are Puts, Deletes and pads
abbrev pub ArePlain : (ℕ → List Placed) → Type 0
ArePlain logs = (n : ℕ) (r : Placed) → Contains (logs n) r → is_plain r.entry ≡ true

-- What is sound of a pool, whatever its actors are at.
pub record IsWhole (p : Pool) : Type 0 where
  pub represents : Represents p.words p.chains (store_in p)
  pub sound : IsSound p.owners
  pub deeds : (t : ℕ) → t < 64 → IsDeed ((store_in p).deeds t)
  pub plain : ArePlain (store_in p).logs
