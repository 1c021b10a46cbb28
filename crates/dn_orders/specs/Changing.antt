use Rattle.std.specs.Prelude.{◌≡◌, ℕ, ◌<◌, true}
use Rattle.dn_word.specs.declared.packed.deed.Deed.{Deed}
use Rattle.dn_word.specs.declared.packed.deed.DeedState.TheVariants.{Owned, Leaving}
use Rattle.dn_model.specs.Regions.{IsLane}
use Rattle.dn_store.specs.Changes.{gated, deeded}
use Rattle.dn_owners.specs.Known.{Watch}
use Rattle.dn_owners.specs.Given.{IsStep, IsGrant, IsAdoption}
use Rattle.dn_beside.specs.Pool.{Pool, store_in}

-- What an action of the monitor changes of the store: nothing, one deed, or the bit of one gate.
pub data OrderChange (p q : Pool) : Type 0 where
  Same : store_in q ≡ store_in p → OrderChange p q
  -- the owner of a slot is asked to leave it
  Asks : (t : ℕ) (d : Deed) → t < 64 → IsStep ((store_in p).deeds t) d Owned Leaving
      → store_in q ≡ deeded (store_in p) t d → OrderChange p q
  -- a slot is granted: past the load of its lane's gate, with all that this lane sealed up to then merged
  Grants : (w : Watch) (d : Deed) → w.slot < 64 → IsGrant p.owners w d
      → store_in q ≡ deeded (store_in p) w.slot d → OrderChange p q
  -- or one that was nobody's
  Adopts : (t : ℕ) (d : Deed) → IsAdoption p.owners t d
      → store_in q ≡ deeded (store_in p) t d → OrderChange p q
  -- a gate gets the bit, and keeps the rest
  Fences : (n : ℕ) → IsLane n
      → store_in q ≡ gated (store_in p) n (record ((store_in p).gates n) { fenced = true }) → OrderChange p q
