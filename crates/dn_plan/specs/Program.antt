use Rattle.std.specs.Prelude.{◌≡◌, ℕ}
use Rattle.dn_word.specs.declared.packed.place.Ref.{Ref}
use Rattle.dn_act.specs.declared.actions.Action.{Action}
use Rattle.dn_plan.specs.Plan.{action_of, sealing_of, acts, rooms, seals, ends, goes, learns, taken_of, located_of, roomed_of, sealed_of}
use Rattle.dn_plan.specs.declared.phases.Brief.{Brief}
use Rattle.dn_plan.specs.declared.phases.Located.{Located}
use Rattle.dn_plan.specs.declared.phases.Room.{Room}
use Rattle.dn_plan.specs.declared.phases.Sealing.{Sealing}
use Rattle.dn_plan.specs.declared.phases.ActPhase.{ActPhase}
use Rattle.dn_plan.specs.declared.phases.LocatePhase.{LocatePhase}
use Rattle.dn_plan.specs.declared.phases.RoomPhase.{RoomPhase}
use Rattle.dn_plan.specs.declared.phases.SealPhase.{SealPhase}
use Rattle.dn_plan.specs.declared.results.Effect.{Effect}
use Rattle.dn_plan.specs.declared.results.Ending.{Ending}
use Rattle.dn_plan.specs.declared.results.After.TheVariants as after
use Rattle.dn_plan.specs.declared.results.Next.TheVariants as next
use Rattle.dn_plan.specs.declared.results.Step.{Step}

-- A plan to read: an answer, or one action or service after another, each going on by what was found. A seal goes on
-- by the place of its record and by the word that its exchange found. Where the lane comes to know something, Learn
-- says it.
pub data Plan : Type 0 where
  Return : Ending → Plan
  Learn : Effect → Plan → Plan
  Do : Action → (ℕ → Plan) → Plan
  Locate : (Located → Plan) → Plan
  FindRoom : (Room → Plan) → Plan
  Seal : Sealing → (Ref → ℕ → Plan) → Plan

-- A call that comes to this step follows the plan to its end, whatever is found.
abbrev pub Follows : Brief → Plan → Step → Type 0
Follows b (Return ending) step = step ≡ goes (ends ending)
Follows b (Learn effect behind) step = (step ≡ learns effect step.next) × Follows b behind (goes step.next)
Follows b (Do action behind) step =
    (phase : ActPhase) × (step ≡ goes (acts phase)) × (action_of b phase ≡ action)
    × ((word : ℕ) → Follows b (behind word) (taken_of b phase word))
Follows b (Locate behind) step =
    (phase : LocatePhase) × (step ≡ goes (next.Locate phase))
    × ((located : Located) → Follows b (behind located) (goes (next.After (located_of phase located))))
Follows b (FindRoom behind) step =
    (phase : RoomPhase) × (step ≡ goes (rooms phase))
    × ((room : Room) → Follows b (behind room) (goes (next.After (after.Then (roomed_of phase room)))))
Follows b (Seal sealing behind) step =
    (phase : SealPhase) × (step ≡ goes (seals phase)) × (sealing_of phase ≡ sealing)
    × ((place : Ref) (word : ℕ) → Follows b (behind place word) (sealed_of phase place word))

-- from this phase on
pub record Runs (b : Brief) (plan : Plan) (phase : ActPhase) : Type 0 where
  pub follows : Follows b plan (goes (acts phase))
