use Rattle.std.specs.Prelude.{List, [], ◌∷◌}
use Rattle.dn_owners.specs.Known.{Owners}
use Rattle.dn_owners.specs.Sound.{IsOrdered}
use Rattle.dn_owners.specs.Events.{Event, happens}
use Rattle.dn_owners.specs.Given.{IsGiven}

-- Events one after the other.

-- the owners after them
abbrev pub after : Owners → List Event → Owners
after o [] = o
after o (e ∷ es) = after (happens o e) es

-- each may happen where the ones before it have led, and logs are in order there
abbrev pub IsRun : Owners → List Event → Type 0
IsRun o [] = Unit {0}
IsRun o (e ∷ es) = IsOrdered o.store.logs o.store.gates o.store.marks × IsGiven o e × IsRun (happens o e) es
