use Rattle.std.specs.Prelude.{◌≡◌, ℕ, ◌+◌, ◌<◌, ◌^◌, true, Option, Some, None}
use Rattle.dn_word.specs.declared.packed.place.Ref.{Ref}
use Rattle.dn_index.specs.Walk.{actions_left}
use Rattle.dn_index.specs.Footprint.{purpose, Finds}
use Rattle.dn_locate.specs.Fetch.{Fetching, is_under_way, fetch_left}
use Rattle.dn_find.specs.declared.finds.Find.{Find}
use Rattle.dn_find.specs.declared.finds.Find.TheVariants.{Walk, Fetch}
use Rattle.dn_find.specs.declared.finds.Found.{Found}
use Rattle.dn_find.specs.declared.finds.Found.TheVariants.{More, Here}

-- What a location under way keeps to.

-- the place of a pending record has its 24 bits
abbrev pub IsNear : Option Ref → Type 0
IsNear None = Unit {0}
IsNear (Some at) = at.offset < 2 ^ 24

-- the walk is one that finds a key, and a record is fetched by a fetch under way
abbrev pub IsReady : Fetching → Find → Type 0
IsReady f (Walk w) = purpose w ≡ Finds
IsReady f (Fetch way) = is_under_way f ≡ true

pub record FitsFind (f : Fetching) (find : Find) : Type 0 where
  pub ready : IsReady f find

abbrev pub FitsFound : Fetching → Found → Type 0
FitsFound f (More find) = FitsFind f find
FitsFound f (Here way held) = Unit {0}

-- a bound on the loads that are left; a fetch that begins has at most 140 * 4096 + 140
abbrev pub find_left : Fetching → Find → ℕ
find_left f (Walk w) = actions_left w + 573580
find_left f (Fetch way) = fetch_left f

-- the key is located, or fewer loads than so many are left
abbrev pub HasFewer : ℕ → Fetching → Found → Type 0
HasFewer most f (More find) = find_left f find < most
HasFewer most f (Here way held) = Unit {0}
