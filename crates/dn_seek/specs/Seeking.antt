use Rattle.std.specs.Prelude.{◌≡◌, ℕ, None}
use Rattle.dn_record.specs.declared.records.Record.{Record}
use Rattle.dn_index.specs.Walk.{Walking}
use Rattle.dn_locate.specs.Fetch.{Fetching}
use Rattle.dn_locate.specs.declared.fetches.Wish.{Wish}
use Rattle.dn_find.specs.declared.finds.Find.{Find}
use Rattle.dn_find.specs.declared.finds.Find.TheVariants.{Walk, Fetch}
use Rattle.dn_find.specs.declared.finds.Found.{Found}
use Rattle.dn_find.specs.declared.finds.Found.TheVariants.{More, Here}
use Rattle.dn_store.specs.Holding.{owner_in, waiting, authority_in}
use Rattle.dn_owners.specs.Sound.{Agrees}
use Rattle.dn_walks.specs.Finding.{KnowsFind}
use Rattle.dn_beside.specs.Pool.{Pool, store_in}
use Rattle.dn_seek.specs.Fetching.{KnowsFetch}
use Rattle.dn_seek.specs.Located.{IsLocatedAs}

-- What lane n knows while it locates a key of a slot whose deed names it.

-- it searches the index, since none of the key's records waits to be merged
pub record KnowsWalk (p : Pool) (n key : ℕ) (f : Fetching) (w : Walking) : Type 0 where
  pub key_is : w.key ≡ key
  pub owner : owner_in (store_in p) key ≡ n
  pub none : waiting (store_in p) n key ≡ None
  pub finds : KnowsFind p.words p.chains key w.place
  pub segments_is : f.segments ≡ (store_in p).pool

-- it fetches the record that is the key's authority
pub record KnowsRecord (p : Pool) (key : ℕ) (wish : Wish) (f : Fetching) : Type 0 where
  pub of : Record
  pub fetch : KnowsFetch p key wish of f
  pub agrees : Agrees (authority_in (store_in p) key) key of

abbrev pub KnowsSeek : Pool → ℕ → ℕ → Wish → Fetching → Find → Type 0
KnowsSeek p n key wish f (Walk w) = KnowsWalk p n key f w
KnowsSeek p n key wish f (Fetch way) = KnowsRecord p key wish f

-- how a location goes on that knows this
abbrev pub KnowsSought : Pool → ℕ → ℕ → Wish → Fetching → Found → Type 0
KnowsSought p n key wish f (More find) = KnowsSeek p n key wish f find
KnowsSought p n key wish f (Here way fetched) = IsLocatedAs p key wish f way fetched
