use Rattle.std.specs.Prelude.{ℕ, List}
use Rattle.dn_outcomes.specs.declared.events.Event.{Event}
use Rattle.dn_outcomes.specs.Runs.{IsRun}
use Rattle.dn_outcomes.specs.Sound.{IsWorld, MayHappen}
use Rattle.dn_outcomes.specs.State.{World}

-- What is so of every sound world and whatever may be given there.

-- an event, with the lanes that a takeover would give slots to
abbrev pub AtEvents : (World → Event → List ℕ → Type 0) → Type 0
AtEvents So = (w : World) (e : Event) (heirs : List ℕ) → IsWorld w → MayHappen w e heirs → So w e heirs

-- a run of events
abbrev pub OverRuns : (World → List (Event × List ℕ) → Type 0) → Type 0
OverRuns So = (w : World) (es : List (Event × List ℕ)) → IsWorld w → IsRun w es → So w es
