use Rattle.dn_beside.specs.Pool.{Pool}
use Rattle.dn_beside.specs.Grown.{Grows}
use Rattle.dn_machine.specs.State.{Machine}
use Rattle.dn_machine.specs.Sound.{IsMachineAt}

-- What an event leaves: a machine that is sound over some pool, which has grown from this one.
pub record IsKept (p : Pool) (m : Machine) : Type 0 where
  pub q : Pool
  pub at : IsMachineAt q m
  pub grows : Grows p q
