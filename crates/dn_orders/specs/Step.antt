use Rattle.std.specs.Prelude.{◌≡◌, ℕ, List}
use Rattle.dn_beside.specs.Pool.{Pool}
use Rattle.dn_beside.specs.Step.{IsStepBy, IsQuiet, by_monitor}
use Rattle.dn_orders.specs.Changing.{OrderChange}

-- A step of the monitor, to these words: what it leaves to all others, and what it changes.
pub record IsOrderStep (p q : Pool) (now : List ℕ) : Type 0 where
  pub words : q.words ≡ now
  pub chains : q.chains ≡ p.chains
  pub step : IsStepBy by_monitor p q
  pub quiet : IsQuiet p q
  pub change : OrderChange p q
