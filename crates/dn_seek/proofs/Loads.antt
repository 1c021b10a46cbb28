use Rattle.std.proofs.Common.{ℕ, ◌+◌, ◌≡◌, List, length, Option, Some, None, refl, ◌∙◌, subst}
use Rattle.std.proofs.lemmas.List.{set-get_or}
use Rattle.dn_word.specs.declared.packed.place.Ref.{Ref}
use Rattle.dn_act.specs.Action.{Performs}
use Rattle.dn_index.specs.Footprint.{Finds, purpose_at, StaysOn}
use Rattle.dn_index.specs.Walk.{Walking, next_at as walk_next_at, place_at, walk_step, after_of, turn_of}
use Rattle.dn_index.specs.declared.places.Errand.TheVariants as errand
use Rattle.dn_index.specs.declared.places.Step.{Step}
use Rattle.dn_index.specs.declared.places.Step.TheVariants.{On, End}
use Rattle.dn_index.specs.declared.places.WalkPlace.{WalkPlace}
use Rattle.dn_index.specs.declared.places.WalkPlace.TheVariants as walk
use Rattle.dn_index.specs.declared.places.WalkTurn.TheVariants as turned
use Rattle.dn_index.proofs.PurposeLaws.{purpose_stays}
use Rattle.dn_model.specs.Regions.{bucket_at}
use Rattle.dn_locate.specs.Fetch.{Fetching, directory_of, next_at, fetch_after, fetch_turn}
use Rattle.dn_locate.specs.declared.fetches.FetchPlace.{FetchPlace}
use Rattle.dn_locate.specs.declared.fetches.FetchPlace.TheVariants.{Idle, Directory, Header, Content, Link}
use Rattle.dn_locate.specs.declared.fetches.FetchTurn.{FetchTurn}
use Rattle.dn_locate.specs.declared.fetches.FetchTurn.TheVariants as loaded
use Rattle.dn_locate.specs.declared.fetches.Wish.{Wish}
use Rattle.dn_plan.specs.declared.phases.Way.{Way}
use Rattle.dn_find.specs.Find.{started, find_next, walked_by, fetched_by, found_of}
use Rattle.dn_find.specs.declared.finds.Find.{Find}
use Rattle.dn_find.specs.declared.finds.Find.TheVariants.{Walk, Fetch}
use Rattle.dn_beside.specs.Pool.{Pool}
use Rattle.dn_walks.specs.Finding.{KnowsFind}
use Rattle.dn_seek.specs.Seeking.{KnowsSeek}
use Rattle.dn_seek.specs.Loading.{OnlyLoads, StillLoads}

-- A location only loads.

-- ---- a walk that finds
finds_at : (words : List ℕ) (chains : ℕ → List ℕ) (k : ℕ) (place : WalkPlace) → KnowsFind words chains k place → purpose_at place ≡ Finds
finds_at words chains k (walk.Key errand.Find t number) h = refl
finds_at words chains k (walk.Key (errand.Set at) t number) h = absurd h.0
finds_at words chains k (walk.Key errand.Remove t number) h = absurd h.0
finds_at words chains k (walk.Next errand.Find t) h = refl
finds_at words chains k (walk.Next (errand.Set at) t) h = absurd h.0
finds_at words chains k (walk.Next errand.Remove t) h = absurd h.0
finds_at words chains k (walk.Match errand.Find s) h = refl
finds_at words chains k (walk.Match (errand.Set at) s) h = absurd h.0
finds_at words chains k (walk.Match errand.Remove s) h = absurd h.0
finds_at words chains k (walk.Counter at last) h = absurd h
finds_at words chains k (walk.Claim at last) h = absurd h
finds_at words chains k (walk.FillPlace at s from) h = absurd h
finds_at words chains k (walk.FillKey s from) h = absurd h
finds_at words chains k (walk.Link last new) h = absurd h

pub known_loads : (p : Pool) (n key : ℕ) (wish : Wish) (f : Fetching) (find : Find) → KnowsSeek p n key wish f find → OnlyLoads find
known_loads p n key wish f (Walk w) h = finds_at p.words p.chains key w.place h.finds
known_loads p n key wish f (Fetch way) h = tt

walk_loads : (key : ℕ) (place : WalkPlace) (word : ℕ) (words now : List ℕ) → purpose_at place ≡ Finds → Performs (walk_next_at key place) word words now → now ≡ words
walk_loads key (walk.Key e t number) word words now h a = a.change ∙ set-get_or words (bucket_at t.bucket number) 0
walk_loads key (walk.Next e t) word words now h a = a.change ∙ set-get_or words (bucket_at t.bucket 7) 0
walk_loads key (walk.Match errand.Find s) word words now h a = a.change ∙ set-get_or words (place_at s) 0
walk_loads key (walk.Match (errand.Set at) s) word words now h a = absurd (cc h)
walk_loads key (walk.Match errand.Remove s) word words now h a = absurd (cc h)
walk_loads key (walk.Counter at last) word words now h a = absurd (cc h)
walk_loads key (walk.Claim at last) word words now h a = absurd (cc h)
walk_loads key (walk.FillPlace at s from) word words now h a = absurd (cc h)
walk_loads key (walk.FillKey s from) word words now h a = absurd (cc h)
walk_loads key (walk.Link last new) word words now h a = absurd (cc h)

-- ---- a fetch
fetch_loads : (f : Fetching) (place : FetchPlace) (word : ℕ) (words now : List ℕ) → Performs (next_at f place) word words now → now ≡ words
fetch_loads f Idle word words now a = a.change ∙ set-get_or words 0 0
fetch_loads f Directory word words now a = a.change ∙ set-get_or words (directory_of f.at) 0
fetch_loads f (Header from) word words now a = a.change ∙ set-get_or words from 0
fetch_loads f (Content from count) word words now a = a.change ∙ set-get_or words (from + length f.words) 0
fetch_loads f (Link from) word words now a = a.change ∙ set-get_or words (from + length f.words) 0

pub only_loads : (f : Fetching) (find : Find) (word : ℕ) (words now : List ℕ) → OnlyLoads find → Performs (find_next f find) word words now → now ≡ words
only_loads f (Walk w) word words now h a = walk_loads w.key w.place word words now h a
only_loads f (Fetch way) word words now h a = fetch_loads f f.place word words now a

-- ---- the steps
pub begins_loading : (key : ℕ) (wish : Wish) (f : Fetching) (at : Option Ref) → OnlyLoads (started f key wish at).find
begins_loading key wish f (Some at) = tt
begins_loading key wish f None = refl

walked_loads : (key : ℕ) (wish : Wish) (f : Fetching) (w : Walking) (step : Step) → purpose_at w.place ≡ Finds → StaysOn Finds step → StillLoads (walked_by f key wish (after_of w step) (turn_of step)).found
walked_loads key wish f w (On place) e h = h
walked_loads key wish f w (End turned.More) e h = e
walked_loads key wish f w (End (turned.Found at)) e h = tt
walked_loads key wish f w (End turned.Absent) e h = tt
walked_loads key wish f w (End turned.Written) e h = tt
walked_loads key wish f w (End (turned.IndexFull counter)) e h = tt

fetched_loads : (way : Way) (f : Fetching) (turn : FetchTurn) → StillLoads (fetched_by way f turn).found
fetched_loads way f loaded.More = tt
fetched_loads way f loaded.Done = tt
fetched_loads way f loaded.Absent = tt

pub still_loads : (key : ℕ) (wish : Wish) (f : Fetching) (find : Find) (word : ℕ) → OnlyLoads find → StillLoads (found_of f key wish find word).found
still_loads key wish f (Walk w) word h = walked_loads key wish f w (walk_step w word) h (subst (λ x. StaysOn x (walk_step w word)) h (purpose_stays w.key w.place word))
still_loads key wish f (Fetch way) word h = fetched_loads way (fetch_after f word) (fetch_turn f word)
