use Rattle.std.specs.Prelude.{◌≡◌, ℕ}
use Rattle.dn_index.specs.Walk.{walk_turn}
use Rattle.dn_index.specs.declared.places.WalkTurn.{WalkTurn}
use Rattle.dn_index.specs.declared.places.WalkTurn.TheVariants as turned
use Rattle.dn_locate.specs.Fetch.{Fetching, IsAstray}
use Rattle.dn_plan.specs.declared.phases.Way.{Way}
use Rattle.dn_plan.specs.declared.phases.Way.TheVariants.{Index}
use Rattle.dn_find.specs.declared.finds.Find.{Find}
use Rattle.dn_find.specs.declared.finds.Find.TheVariants.{Walk, Fetch}

-- Why a key is located without a record, by the word that ended the location.

-- the walk through the index ended, and gave no place
abbrev pub GivesNone : WalkTurn → Type 0
GivesNone turned.More = ⊥
GivesNone (turned.Found at) = ⊥
GivesNone turned.Absent = Unit {0}
GivesNone turned.Written = Unit {0}
GivesNone (turned.IndexFull counter) = Unit {0}

-- it did so, or what the fetch met is no record of the key
abbrev pub IsWithout : Fetching → ℕ → Way → Find → Type 0
IsWithout f word way (Walk w) = (way ≡ Index) × GivesNone (walk_turn w word)
IsWithout f word way (Fetch from) = (way ≡ from) × IsAstray f word f.place
