use Rattle.std.specs.Prelude.{ℕ, true, false, Option, Some, None}
use Rattle.dn_word.specs.declared.packed.place.Ref.{Ref}
use Rattle.dn_act.specs.declared.actions.Action.{Action}
use Rattle.dn_model.specs.Regions.{home_of}
use Rattle.dn_index.specs.Walk.{Walking, begun, walk_next, walk_turn, walk_after}
use Rattle.dn_index.specs.declared.places.Errand.TheVariants as errand
use Rattle.dn_index.specs.declared.places.WalkTurn.{WalkTurn}
use Rattle.dn_index.specs.declared.places.WalkTurn.TheVariants as turned
use Rattle.dn_locate.specs.Fetch.{Fetching, started as fetch_started, fetch_next, fetch_turn, fetch_after}
use Rattle.dn_locate.specs.declared.fetches.FetchTurn.{FetchTurn}
use Rattle.dn_locate.specs.declared.fetches.FetchTurn.TheVariants as loaded
use Rattle.dn_locate.specs.declared.fetches.Wish.{Wish}
use Rattle.dn_plan.specs.declared.phases.Way.{Way}
use Rattle.dn_plan.specs.declared.phases.Way.TheVariants.{Pending, Index}
use Rattle.dn_find.specs.declared.finds.Find.{Find}
use Rattle.dn_find.specs.declared.finds.Find.TheVariants.{Walk, Fetch}
use Rattle.dn_find.specs.declared.finds.Found.{Found}
use Rattle.dn_find.specs.declared.finds.Found.TheVariants.{More, Here}

-- The location of a key, a load at a time.

-- how far it has come, and the lane's fetch
pub record Locating : Type 0 where
  pub find : Find
  pub fetch : Fetching

abbrev pub locating : Find → Fetching → Locating
locating find f = record { find = find; fetch = f }

-- it begins with the fetch of the pending record where that counts, and else with a walk through the index
abbrev pub started : Fetching → ℕ → Wish → Option Ref → Locating
started f key wish (Some at) = locating (Fetch Pending) (fetch_started f key at wish)
started f key wish None = locating (Walk (begun key (home_of key) errand.Find)) f

-- ---- its loads
abbrev pub find_next : Fetching → Find → Action
find_next f (Walk w) = walk_next w
find_next f (Fetch way) = fetch_next f

-- ---- a word
-- how it goes on, and the lane's fetch then
pub record Sought : Type 0 where
  pub found : Found
  pub fetch : Fetching

abbrev pub goes_on : Find → Fetching → Sought
goes_on find f = record { found = More find; fetch = f }

-- no record of the key
abbrev pub without : Way → Fetching → Sought
without way f = record { found = Here way false; fetch = f }

-- a walk that found a place goes on with the fetch of the record there; one that found none ends the location
abbrev pub walked_by : Fetching → ℕ → Wish → Walking → WalkTurn → Sought
walked_by f key wish w turned.More = goes_on (Walk w) f
walked_by f key wish w (turned.Found at) = goes_on (Fetch Index) (fetch_started f key at wish)
walked_by f key wish w turned.Absent = without Index f
walked_by f key wish w turned.Written = without Index f
walked_by f key wish w (turned.IndexFull counter) = without Index f

abbrev pub walked : Fetching → ℕ → Wish → Walking → ℕ → Sought
walked f key wish w word = walked_by f key wish (walk_after w word) (walk_turn w word)

abbrev pub fetched_by : Way → Fetching → FetchTurn → Sought
fetched_by way f loaded.More = goes_on (Fetch way) f
fetched_by way f loaded.Done = record { found = Here way true; fetch = f }
fetched_by way f loaded.Absent = without way f

abbrev pub fetched : Fetching → Way → ℕ → Sought
fetched f way word = fetched_by way (fetch_after f word) (fetch_turn f word)

abbrev pub found_of : Fetching → ℕ → Wish → Find → ℕ → Sought
found_of f key wish (Walk w) word = walked f key wish w word
found_of f key wish (Fetch way) word = fetched f way word
