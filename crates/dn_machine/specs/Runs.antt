use Rattle.std.specs.Prelude.{ℕ, List, [], ◌∷◌}
use Rattle.dn_machine.specs.State.{Machine}
use Rattle.dn_machine.specs.Events.{Event, happens}
use Rattle.dn_machine.specs.Given.{IsGiven}

-- Events one after the other, each given where the ones before it have led.
abbrev pub after : Machine → List Event → Machine
after m [] = m
after m (e ∷ es) = after (happens m e) es

abbrev pub IsRun : ℕ → Machine → List Event → Type 0
IsRun segments m [] = Unit {0}
IsRun segments m (e ∷ es) = IsGiven segments m e × IsRun segments (happens m e) es
