use Rattle.std.specs.Prelude.{◌≡◌, ℕ, [], None}
use Rattle.dn_outcomes.specs.State.{World}
use Rattle.dn_waiting.specs.State.{call_of}

-- a world in which no call was made
pub record IsUncalled (w : World) : Type 0 where
  pub receipts : w.machine.callers.receipts ≡ []
  pub told : w.machine.callers.told ≡ []
  pub numbers : (s : ℕ) → (w.machine.callers.sessions s).number ≡ 0
  pub calls : (s : ℕ) → call_of w.waiting s ≡ None
