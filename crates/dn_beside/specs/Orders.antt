use Rattle.std.specs.Prelude.{◌≡◌, ◌⊎◌, ℕ, ◌<◌}
use Rattle.dn_word.specs.declared.packed.deed.DeedState.TheVariants.{Leaving, Released}
use Rattle.dn_owners.specs.Given.{IsStep}
use Rattle.dn_beside.specs.Pool.{Pool, store_in}

-- What a step of another actor leaves to the monitor: what it has read of a gate; and the deeds, but that a lane may
-- give up a slot that it was asked to leave.
pub record LeavesOrder (p q : Pool) : Type 0 where
  pub watch : q.owners.watch ≡ p.owners.watch
  pub deeds : (t : ℕ) → t < 64 → ((store_in q).deeds t ≡ (store_in p).deeds t)
      ⊎ IsStep ((store_in p).deeds t) ((store_in q).deeds t) Leaving Released
