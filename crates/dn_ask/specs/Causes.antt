use Rattle.std.specs.Prelude.{◌≡◌, ◌⊎◌, ℕ}
use Rattle.dn_plan.specs.declared.results.Ending.TheVariants as ending
use Rattle.dn_tend.specs.declared.tasks.TaskAnswer.TheVariants as answer
use Rattle.dn_ask.specs.declared.asks.End.TheVariants as end
use Rattle.dn_ask.specs.declared.asks.Then.{Then}
use Rattle.dn_ask.specs.declared.asks.Then.TheVariants as thence

-- the plan ends for want of room
abbrev pub IsFull : ℕ → ℕ → Then → Type 0
IsFull counter segments to =
    (to ≡ thence.End (end.Call (ending.Full counter segments))) ⊎ (to ≡ thence.End (end.Task (answer.Full counter segments)))
