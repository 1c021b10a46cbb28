use Rattle.std.specs.Prelude.{◌≡◌, ◌⊎◌, ◌<◌}
use Rattle.dn_word.specs.declared.packed.deed.Deed.{Deed}
use Rattle.dn_word.specs.declared.packed.deed.DeedState.TheVariants.{Owned, Leaving, Released}
use Rattle.dn_owners.specs.Given.{IsStep}
use Rattle.dn_outcomes.specs.declared.events.Event.{Event}
use Rattle.dn_outcomes.specs.declared.events.Event.TheVariants as event

-- What an event does to the deed of a slot.

-- a lane gives up a slot that it was asked to leave
abbrev pub GivesUp : Deed → Deed → Type 0
GivesUp old new = (new ≡ old) ⊎ IsStep old new Leaving Released

-- the monitor asks a lane to leave a slot, or grants it
pub data Moves (old new : Deed) : Type 0 where
  Same : new ≡ old → Moves old new
  Asks : IsStep old new Owned Leaving → Moves old new
  Grants : old.epoch < new.epoch → Moves old new

abbrev pub Changes : Event → Deed → Deed → Type 0
Changes (event.Start s lane call) old new = new ≡ old
Changes (event.Step n) old new = GivesUp old new
Changes (event.Flow n index) old new = GivesUp old new
Changes (event.Merge n) old new = new ≡ old
Changes event.Monitor old new = Moves old new
Changes (event.Refresh s) old new = new ≡ old
Changes (event.Give o) old new = new ≡ old
Changes event.DropOrder old new = new ≡ old
Changes (event.Queue n t) old new = new ≡ old
Changes event.Add old new = new ≡ old
Changes (event.Tell s t) old new = new ≡ old
