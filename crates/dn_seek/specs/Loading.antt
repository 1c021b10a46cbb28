use Rattle.std.specs.Prelude.{◌≡◌}
use Rattle.dn_index.specs.Footprint.{purpose, Finds}
use Rattle.dn_find.specs.declared.finds.Find.{Find}
use Rattle.dn_find.specs.declared.finds.Find.TheVariants.{Walk, Fetch}
use Rattle.dn_find.specs.declared.finds.Found.{Found}
use Rattle.dn_find.specs.declared.finds.Found.TheVariants.{More, Here}

-- What is so of a location even where nothing is known of its key any more, as behind a fence: it only loads.
abbrev pub OnlyLoads : Find → Type 0
OnlyLoads (Walk w) = purpose w ≡ Finds
OnlyLoads (Fetch way) = Unit {0}

abbrev pub StillLoads : Found → Type 0
StillLoads (More find) = OnlyLoads find
StillLoads (Here way fetched) = Unit {0}
