use Rattle.std.specs.Prelude.{ℕ, List, [], ◌∷◌, ◌++◌, map}
use Rattle.dn_callers.specs.Callers.{Standing}
use Rattle.dn_outcomes.specs.declared.events.Event.{Event}
use Rattle.dn_outcomes.specs.Does.{does}
use Rattle.dn_outcomes.specs.Sound.{MayHappen}
use Rattle.dn_outcomes.specs.State.{World}
use Rattle.dn_outcomes.specs.declared.outcomes.CallAnswer.{CallAnswer}
use Rattle.dn_outcomes.specs.declared.outcomes.CallAnswer.TheVariants as answer
use Rattle.dn_outcomes.specs.declared.outcomes.Outcome.{Outcome}
use Rattle.dn_outcomes.specs.declared.outcomes.Outcome.TheVariants as outcome

-- Events one after the other, each with the lanes that a takeover would give slots to, and each given where the ones before
-- it have led.
abbrev pub after : World → List (Event × List ℕ) → World
after w [] = w
after w (x ∷ xs) = after (does w x.0 x.1).world xs

abbrev pub IsRun : World → List (Event × List ℕ) → Type 0
IsRun w [] = Unit {0}
IsRun w (x ∷ xs) = MayHappen w x.0 x.1 × IsRun (does w x.0 x.1).world xs

-- ---- the calls that are told as made, each by its session and its number there
abbrev pub made_as : ℕ → ℕ → CallAnswer → List (ℕ × ℕ)
made_as s number (answer.Made way) = (s, number) ∷ []
made_as s number (answer.NotOwner look cell) = []
made_as s number (answer.Fenced word) = []
made_as s number (answer.Full counter segments) = []
made_as s number (answer.Worn stamp) = []

abbrev pub made_in : Outcome → List (ℕ × ℕ)
made_in outcome.Nothing = []
made_in outcome.Acted = []
made_in (outcome.Numbered number) = []
made_in outcome.Busy = []
made_in outcome.Closed = []
made_in (outcome.Answered s number answer given) = made_as s number answer
made_in (outcome.GivenUp s number) = []
made_in (outcome.Ordered answer) = []
made_in outcome.MonitorBusy = []
made_in (outcome.Tended answer) = []
made_in (outcome.Added lane) = []
made_in outcome.LanesFull = []
made_in outcome.NoLane = []
made_in (outcome.Merged turn) = []
made_in (outcome.Fault actor) = []

abbrev pub told_in : World → List (Event × List ℕ) → List (ℕ × ℕ)
told_in w [] = []
told_in w (x ∷ xs) = made_in (does w x.0 x.1).outcome ++ told_in (does w x.0 x.1).world xs

-- and those whose receipts stand, as they came
abbrev pub calls_of : List Standing → List (ℕ × ℕ)
calls_of xs = map (λ (x : Standing). (x.receipt.position.session, x.receipt.number)) xs
