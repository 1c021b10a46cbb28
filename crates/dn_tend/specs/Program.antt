use Rattle.std.specs.Prelude.{◌≡◌, ℕ, Option, Some, None}
use Rattle.dn_act.specs.declared.actions.Action.{Action}
use Rattle.dn_plan.specs.declared.results.Effect.{Effect}
use Rattle.dn_tend.specs.Plan.{Tending, tending, step_of, turn_of, located_next, roomed_next, sealed_next}
use Rattle.dn_tend.specs.declared.tasks.TaskAnswer.{TaskAnswer}
use Rattle.dn_tend.specs.declared.tasks.TendFound.{TendFound}
use Rattle.dn_tend.specs.declared.tasks.TendSeal.{TendSeal}
use Rattle.dn_tend.specs.declared.tasks.TendStep.TheVariants as step

-- A task to read: an answer, or one action or service after another, each going on by what was found. Where the lane
-- comes to know something, Learn says it.
pub data TaskPlan : Type 0 where
  Return : TaskAnswer → TaskPlan
  Learn : Effect → TaskPlan → TaskPlan
  Do : Action → (ℕ → TaskPlan) → TaskPlan
  Locate : (TendFound → TaskPlan) → TaskPlan
  FindRoom : TaskPlan → TaskPlan
  Seal : TendSeal → TaskPlan → TaskPlan

-- A task under way that has just told its lane this effect follows the plan to its end, whatever is found.
abbrev pub Follows : TaskPlan → Option Effect → Tending → Type 0
Follows (Return answer) effect t = (effect ≡ None) × (step_of t ≡ step.Done answer)
Follows (Learn known behind) effect t = (effect ≡ Some known) × Follows behind None t
Follows (Do action behind) effect t =
    (effect ≡ None) × (step_of t ≡ step.Act action)
    × ((word : ℕ) → Follows (behind word) (turn_of t word).effect (tending t.lane (turn_of t word).next))
Follows (Locate behind) effect t =
    (effect ≡ None) × (step_of t ≡ step.Locate)
    × ((found : TendFound) → Follows (behind found) None (tending t.lane (located_next found t.wait)))
Follows (FindRoom behind) effect t =
    (effect ≡ None) × (step_of t ≡ step.Room) × Follows behind None (tending t.lane (roomed_next t.wait))
Follows (Seal seal behind) effect t =
    (effect ≡ None) × (step_of t ≡ step.Seal seal) × Follows behind None (tending t.lane (sealed_next t.wait))

pub record CarriesOut (t : Tending) (plan : TaskPlan) : Type 0 where
  pub follows : Follows plan None t
