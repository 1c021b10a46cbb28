use Rattle.std.specs.Prelude.{ℕ, List, None}
use Rattle.dn_model.specs.Regions.{home_of}
use Rattle.dn_model.specs.Index.{IsChain}
use Rattle.dn_store.specs.Standing.{Stands}
use Rattle.dn_index.specs.Walk.{Walking}
use Rattle.dn_index.specs.declared.places.WalkPlace.{WalkPlace}
use Rattle.dn_index.specs.declared.places.WalkPlace.TheVariants.{Key, Next, Match, Counter, Claim, FillPlace, FillKey, Link}
use Rattle.dn_walks.specs.Trails.{Tracks, IsMet}

-- What an actor knows while it walks along a bucket chain.

-- key k stands at no place behind the walk; or here; or nowhere in its chain, where the walk is to put it
abbrev pub IsBehind : List ℕ → (ℕ → List ℕ) → ℕ → WalkPlace → Type 0
IsBehind words chains k (Key errand t number) = Tracks words chains k t number
IsBehind words chains k (Next errand t) = Tracks words chains k t 4
IsBehind words chains k (Match errand s) = IsMet words chains k s
IsBehind words chains k (Counter at last) = Stands words chains k None
IsBehind words chains k (Claim at last) = Stands words chains k None
IsBehind words chains k (FillPlace at s from) = Stands words chains k None
IsBehind words chains k (FillKey s from) = Stands words chains k None
IsBehind words chains k (Link last new) = Stands words chains k None

pub record HasWalked (words : List ℕ) (w : Walking) : Type 0 where
  pub chains : ℕ → List ℕ
  pub chain : IsChain words (home_of w.key) (chains (home_of w.key))
  pub behind : IsBehind words chains w.key w.place
