use Rattle.std.specs.Prelude.{◌≡◌, ℕ, List}
use Rattle.dn_monitor.specs.Heirs.{no_heirs}
use Rattle.dn_monitor.specs.declared.orders.Order.{Order}
use Rattle.dn_monitor.specs.declared.orders.Order.TheVariants.{Takeover}
use Rattle.dn_outcomes.specs.Orders.{give}
use Rattle.dn_outcomes.specs.Sound.{IsTake}
use Rattle.dn_outcomes.specs.declared.outcomes.Outcome.{Outcome}
use Rattle.dn_outcomes.specs.declared.outcomes.Outcome.TheVariants.{Acted}
use Rattle.dn_world.specs.Comes.{Moves, bare}
use Rattle.dn_world.specs.State.{CrewState}

-- What the monitor is given.

-- An order is given, or refused. These are the lanes that a takeover gives the slots to; another order has no heirs.
pub record IsGivenBy (words : List ℕ) (x y : CrewState) (outcome : Outcome) (o : Order) : Type 0 where
  pub heirs : List ℕ
  pub takes : outcome ≡ Acted → IsTake x.live o heirs
  pub nobody : ((lane : ℕ) → o ≡ Takeover lane → ⊥) → heirs ≡ no_heirs
  pub is : Moves words x words y (bare outcome) (λ w. give w o heirs)
