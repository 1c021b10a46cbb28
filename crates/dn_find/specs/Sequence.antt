use Rattle.std.specs.Prelude.{ℕ, Bool, true, false, List, Option, Some, None}
use Rattle.dn_word.specs.declared.packed.place.Ref.{Ref}
use Rattle.dn_act.specs.declared.actions.Action.{Action}
use Rattle.dn_model.specs.Program.{Program, Return, ◌>>=◌, Turn, Goes, Ends, Runs}
use Rattle.dn_index.specs.Sequence.{find_program}
use Rattle.dn_index.specs.declared.places.WalkTurn.{WalkTurn}
use Rattle.dn_index.specs.declared.places.WalkTurn.TheVariants as turned
use Rattle.dn_locate.specs.Fetch.{Fetching}
use Rattle.dn_locate.specs.Sequence.{sequence}
use Rattle.dn_locate.specs.declared.fetches.FetchTurn.{FetchTurn}
use Rattle.dn_locate.specs.declared.fetches.FetchTurn.TheVariants as loaded
use Rattle.dn_locate.specs.declared.fetches.Wish.{Wish}
use Rattle.dn_plan.specs.declared.phases.Way.{Way}
use Rattle.dn_plan.specs.declared.phases.Way.TheVariants.{Pending, Index}
use Rattle.dn_find.specs.Find.{Locating, find_next, found_of}
use Rattle.dn_find.specs.declared.finds.Found.{Found}
use Rattle.dn_find.specs.declared.finds.Found.TheVariants.{More, Here}

-- The location of a key, as a program that answers what it comes to.

-- the record of the key that was found this way, with its place and the words that were loaded of it; or none
pub data Location : Type 0 where
  Record : Way → Ref → List ℕ → Location
  Nothing : Way → Location

abbrev pub brought : Way → Ref → List ℕ → FetchTurn → Location
brought way at words loaded.More = Nothing way
brought way at words loaded.Done = Record way at words
brought way at words loaded.Absent = Nothing way

-- the record at a place
abbrev pub fetch_at : ℕ → ℕ → Wish → Way → Ref → Program Location
fetch_at segments key wish way at = sequence segments 4096 key wish at >>= λ fetched. Return (brought way fetched.at fetched.words fetched.turn)

-- the record at the place that the index gives, where it gives one
abbrev pub by_index : ℕ → ℕ → Wish → WalkTurn → Program Location
by_index segments key wish turned.More = Return (Nothing Index)
by_index segments key wish (turned.Found at) = fetch_at segments key wish Index at
by_index segments key wish turned.Absent = Return (Nothing Index)
by_index segments key wish turned.Written = Return (Nothing Index)
by_index segments key wish (turned.IndexFull counter) = Return (Nothing Index)

-- the whole location in a pool of so many segments: the pending record is asked for before the index
abbrev pub locate : ℕ → ℕ → Wish → Option Ref → Program Location
locate segments key wish (Some at) = fetch_at segments key wish Pending at
locate segments key wish None = find_program key >>= λ turn. by_index segments key wish turn

-- ---- the location as a machine
abbrev pub located : Way → Bool → Fetching → Location
located way true f = Record way f.at f.words
located way false f = Nothing way

abbrev pub turn_by : Found → Fetching → Turn Locating Location
turn_by (More find) f = Goes (record { find = find; fetch = f })
turn_by (Here way held) f = Ends (located way held f)

abbrev pub locate_next : Locating → Action
locate_next l = find_next l.fetch l.find

abbrev pub locate_taken : ℕ → Wish → Locating → ℕ → Turn Locating Location
locate_taken key wish l word = turn_by (found_of l.fetch key wish l.find word).found (found_of l.fetch key wish l.find word).fetch

-- the location of this key for this wish runs the program to its end
pub record Locates (l : Locating) (key : ℕ) (wish : Wish) (program : Program Location) : Type 0 where
  pub runs : Runs locate_next (locate_taken key wish) program (Goes l)
