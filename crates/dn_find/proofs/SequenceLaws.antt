use Rattle.std.proofs.Common.{◌≡◌, ℕ, Option, Some, None, refl, sym, subst}
use Rattle.dn_word.specs.declared.packed.place.Ref.{Ref}
use Rattle.dn_model.specs.Regions.{home_of}
use Rattle.dn_model.specs.Program.{Program, Return, Turn, Goes, Ends, Runs, lifted}
use Rattle.dn_model.proofs.ProgramLaws.{runs_then}
use Rattle.dn_index.specs.Walk.{Walking, begun, walk_next, walk_turn, walk_after}
use Rattle.dn_index.specs.Sequence.{find_program, turn_by as walk_turned, walk_taken}
use Rattle.dn_index.specs.declared.places.Errand.TheVariants as errand
use Rattle.dn_index.specs.declared.places.WalkTurn.{WalkTurn}
use Rattle.dn_index.specs.declared.places.WalkTurn.TheVariants as turned
use Rattle.dn_index.proofs.SequenceLaws.{find_run}
use Rattle.dn_locate.specs.Fetch.{Fetching, started as fetch_started, fetch_next, fetch_turn, fetch_after}
use Rattle.dn_locate.specs.Sequence.{Fetched, sequence, turn_by as fetch_turned, fetch_taken}
use Rattle.dn_locate.specs.declared.fetches.FetchTurn.{FetchTurn}
use Rattle.dn_locate.specs.declared.fetches.FetchTurn.TheVariants as loaded
use Rattle.dn_locate.specs.declared.fetches.Wish.{Wish}
use Rattle.dn_locate.proofs.SequenceLaws.{sequence_run}
use Rattle.dn_plan.specs.declared.phases.Way.{Way}
use Rattle.dn_plan.specs.declared.phases.Way.TheVariants.{Pending, Index}
use Rattle.dn_find.specs.Find.{Locating, locating, fetched_by, walked_by}
use Rattle.dn_find.specs.Sequence.{Location, Nothing, brought, fetch_at, by_index, locate, turn_by, locate_next, locate_taken, Locates}
use Rattle.dn_find.specs.declared.finds.Find.TheVariants.{Walk, Fetch}

abbrev Ran : ℕ → Wish → Program Location → Turn Locating Location → Type 0
Ran key wish program turn = Runs locate_next (locate_taken key wish) program turn

-- ---- the fetch
abbrev fetch_ended : Way → Fetched → Turn Locating Location
fetch_ended way a = Ends (brought way a.at a.words a.turn)

fetch_step : (way : Way) (turn : FetchTurn) (f : Fetching)
    → turn_by (fetched_by way f turn).found (fetched_by way f turn).fetch ≡ lifted (locating (Fetch way)) (fetch_ended way) (fetch_turned turn f)
fetch_step way loaded.More f = refl
fetch_step way loaded.Done f = refl
fetch_step way loaded.Absent f = refl

fetch_run : (f : Fetching) (key : ℕ) (wish : Wish) (way : Way) (at : Ref) → Ran key wish (fetch_at f.segments key wish way at) (Goes (locating (Fetch way) (fetch_started f key at wish)))
fetch_run f key wish way at =
    runs_then fetch_next fetch_taken locate_next (locate_taken key wish) (locating (Fetch way)) (fetch_ended way) (λ g. refl)
    (λ g word. fetch_step way (fetch_turn g word) (fetch_after g word))
    (sequence f.segments 4096 key wish at) (λ a. Return (brought way a.at a.words a.turn)) (Goes (fetch_started f key at wish))
    (sequence_run f.segments 4096 key wish at).runs (λ a. refl)

-- ---- the walk
abbrev walk_ended : Fetching → ℕ → Wish → WalkTurn → Turn Locating Location
walk_ended f key wish turned.More = Ends (Nothing Index)
walk_ended f key wish (turned.Found at) = Goes (locating (Fetch Index) (fetch_started f key at wish))
walk_ended f key wish turned.Absent = Ends (Nothing Index)
walk_ended f key wish turned.Written = Ends (Nothing Index)
walk_ended f key wish (turned.IndexFull counter) = Ends (Nothing Index)

walk_step : (f : Fetching) (key : ℕ) (wish : Wish) (turn : WalkTurn) (w : Walking)
    → turn_by (walked_by f key wish w turn).found (walked_by f key wish w turn).fetch ≡ lifted (λ v. locating (Walk v) f) (walk_ended f key wish) (walk_turned turn w)
walk_step f key wish turned.More w = refl
walk_step f key wish (turned.Found at) w = refl
walk_step f key wish turned.Absent w = refl
walk_step f key wish turned.Written w = refl
walk_step f key wish (turned.IndexFull counter) w = refl

index_run : (f : Fetching) (key : ℕ) (wish : Wish) (turn : WalkTurn) → Ran key wish (by_index f.segments key wish turn) (walk_ended f key wish turn)
index_run f key wish turned.More = refl
index_run f key wish (turned.Found at) = fetch_run f key wish Index at
index_run f key wish turned.Absent = refl
index_run f key wish turned.Written = refl
index_run f key wish (turned.IndexFull counter) = refl

walk_run : (f : Fetching) (key : ℕ) (wish : Wish) → Ran key wish (locate f.segments key wish None) (Goes (locating (Walk (begun key (home_of key) errand.Find)) f))
walk_run f key wish =
    runs_then walk_next walk_taken locate_next (locate_taken key wish) (λ v. locating (Walk v) f) (walk_ended f key wish) (λ v. refl)
    (λ v word. walk_step f key wish (walk_turn v word) (walk_after v word))
    (find_program key) (λ turn. by_index f.segments key wish turn) (Goes (begun key (home_of key) errand.Find))
    (find_run key).runs (λ turn. index_run f key wish turn)

-- a location that begins runs its program
pub fetch_begun : (f g : Fetching) (key : ℕ) (wish : Wish) (pending : Option Ref) (at : Ref) → pending ≡ Some at → g ≡ fetch_started f key at wish
    → Locates (locating (Fetch Pending) g) key wish (locate g.segments key wish pending)
fetch_begun f g key wish pending at e h =
    let P : Option Ref → Type 0 = λ o. Locates (locating (Fetch Pending) g) key wish (locate g.segments key wish o) in
    let Q : Fetching → Type 0 = λ x. Locates (locating (Fetch Pending) x) key wish (locate x.segments key wish (Some at)) in
    subst P (sym e) (subst Q (sym h) (record { runs = fetch_run f key wish Pending at }))

pub walk_begun : (f : Fetching) (w : Walking) (key : ℕ) (wish : Wish) (pending : Option Ref) → pending ≡ None → w ≡ begun key (home_of key) errand.Find
    → Locates (locating (Walk w) f) key wish (locate f.segments key wish pending)
walk_begun f w key wish pending e h =
    let P : Option Ref → Type 0 = λ o. Locates (locating (Walk w) f) key wish (locate f.segments key wish o) in
    let Q : Walking → Type 0 = λ x. Locates (locating (Walk x) f) key wish (locate f.segments key wish None) in
    subst P (sym e) (subst Q (sym h) (record { runs = walk_run f key wish }))
