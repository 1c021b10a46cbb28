use Rattle.std.specs.Prelude.{◌≡◌, ◌≤◌, ◌<◌, ℕ, List, [], take, length}
use Rattle.dn_record.specs.Record.{spelling, length_in_words}
use Rattle.dn_record.specs.declared.records.Record.{Record}
use Rattle.dn_record.specs.declared.records.Record.TheVariants.{Put}
use Rattle.dn_model.specs.Regions.{place as place_of}
use Rattle.dn_locate.specs.Fetch.{Fetching}
use Rattle.dn_locate.specs.declared.fetches.FetchPlace.{FetchPlace}
use Rattle.dn_locate.specs.declared.fetches.FetchPlace.TheVariants.{Idle, Directory, Header, Content, Link}
use Rattle.dn_locate.specs.declared.fetches.FetchTurn.{FetchTurn}
use Rattle.dn_locate.specs.declared.fetches.FetchTurn.TheVariants.{More, Done, Absent}
use Rattle.dn_locate.specs.declared.fetches.Wish.{Wish}
use Rattle.dn_locate.specs.declared.fetches.Wish.TheVariants.{Value}
use Rattle.dn_beside.specs.Pool.{Pool, store_in}
use Rattle.dn_seek.specs.Sealed.{IsSealed}
use Rattle.dn_seek.specs.Wanted.{wanted}

-- What is known while a sealed record is fetched.

-- the record's header is at this word of the pool
abbrev pub IsAt : Pool → Fetching → ℕ → Type 0
IsAt p f from = from ≡ place_of p.words f.at.lane f.at.offset

-- so many words of a Put are loaded, and the rest of it is left
pub record IsLoaded (p : Pool) (r : Record) (f : Fetching) (from count : ℕ) : Type 0 where
  pub wished : f.wish ≡ Value
  pub put : (key : ℕ) × (value : List ℕ) × (r ≡ Put key value)
  pub begins : IsAt p f from
  pub whole : count ≡ length_in_words r
  pub so_far : f.words ≡ take (length f.words) (spelling r)
  pub some : 1 ≤ length f.words
  pub more : length f.words < count

abbrev pub LoadedAt : Pool → Record → Fetching → FetchPlace → Type 0
LoadedAt p r f Idle = ⊥
LoadedAt p r f Directory = f.words ≡ []
LoadedAt p r f (Header from) = (f.words ≡ []) × IsAt p f from
LoadedAt p r f (Content from count) = IsLoaded p r f from count
LoadedAt p r f (Link from) = ⊥

-- record r of a key is fetched for a wish
pub record KnowsFetch (p : Pool) (key : ℕ) (wish : Wish) (r : Record) (f : Fetching) : Type 0 where
  pub sealed : IsSealed p key r f.at
  pub key_is : f.key ≡ key
  pub wish_is : f.wish ≡ wish
  pub segments_is : f.segments ≡ (store_in p).pool
  pub loaded : LoadedAt p r f f.place

-- and it has been fetched
pub record Brings (p : Pool) (key : ℕ) (wish : Wish) (r : Record) (f : Fetching) : Type 0 where
  pub sealed : IsSealed p key r f.at
  pub words_are : f.words ≡ wanted wish r

-- how a fetch goes on that knows this
abbrev pub Fetched : Pool → ℕ → Wish → Record → Fetching → FetchTurn → Type 0
Fetched p key wish r f More = KnowsFetch p key wish r f
Fetched p key wish r f Done = Brings p key wish r f
Fetched p key wish r f Absent = ⊥
