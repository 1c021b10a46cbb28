use Rattle.std.specs.Prelude.{◌≡◌, ℕ, ◌+◌, ◌<◌, ◌≤◌, List, Contains, Option, Some, None}
use Rattle.dn_word.specs.Ref.{ref_word}
use Rattle.dn_model.specs.Regions.{bucket, home_of}
use Rattle.dn_index.specs.Walk.{Walking, walk_step}
use Rattle.dn_index.specs.declared.places.Spot.{Spot}
use Rattle.dn_index.specs.declared.places.Errand.{Errand}
use Rattle.dn_index.specs.declared.places.Errand.TheVariants.{Find, Set, Remove}
use Rattle.dn_index.specs.declared.places.WalkPlace.{WalkPlace}
use Rattle.dn_index.specs.declared.places.WalkPlace.TheVariants.{Key, Next, Match, Counter, Claim, FillPlace, FillKey, Link}
use Rattle.dn_index.specs.declared.places.WalkTurn.{WalkTurn}
use Rattle.dn_index.specs.declared.places.WalkTurn.TheVariants.{More, Found, Absent, Written, IndexFull}
use Rattle.dn_index.specs.declared.places.Step.{Step}
use Rattle.dn_index.specs.declared.places.Step.TheVariants.{On, End}
use Rattle.dn_store.specs.Standing.{InChain}
use Rattle.dn_store.specs.Overflow.{IsLinking}
use Rattle.dn_beside.specs.Pool.{Pool, store_in}
use Rattle.dn_walks.specs.Trails.{Tracks, IsMet, IsFree, MayBeFree}
use Rattle.dn_walks.specs.IndexStep.{IsIndexStep, IndexState, with_index}

-- A walk by which lane n's merger sets or removes key k, so that the index gives what is wanted: what it knows at each
-- place, and what comes of each action.

abbrev pub Wants : Option ℕ → Errand → Type 0
Wants want Find = ⊥
Wants want (Set at) = want ≡ Some (ref_word at)
Wants want Remove = want ≡ None

-- the chain's last bucket, and the key stands nowhere
pub record IsLast (k : ℕ) (p : Pool) (b : ℕ) : Type 0 where
  pub has : InChain p.chains (home_of k) b
  pub end : bucket p.words b 7 ≡ 0
  pub absent : (store_in p).index k ≡ None

-- the first place of a bucket that the merger has claimed, after all of the chain
pub record IsClaimed (n k : ℕ) (p : Pool) (s : Spot) : Type 0 where
  pub taker : (store_in p).takers s.bucket ≡ n
  pub first : s.number ≡ 1
  pub later : (c : ℕ) → Contains (p.chains (home_of k)) c → c < s.bucket

-- the place that it fills: a free one of the chain, or that of a bucket to be linked behind the last one
abbrev pub Fills : ℕ → ℕ → Pool → Spot → Option ℕ → Type 0
Fills n k p s None = IsFree p.words p.chains k s × ((store_in p).index k ≡ None)
Fills n k p s (Some last) = IsLast k p last × IsClaimed n k p s

-- the place word that is wanted stands there
pub record IsPlaced (want : Option ℕ) (p : Pool) (b number : ℕ) : Type 0 where
  pub word : ℕ
  pub wants : want ≡ Some word
  pub stands : bucket p.words b number ≡ word

abbrev pub KnowsWalk : ℕ → ℕ → Option ℕ → Pool → WalkPlace → Type 0
KnowsWalk n k want p (Key errand t number) = Wants want errand × (number ≤ 3) × Tracks p.words p.chains k t number
    × MayBeFree p.words p.chains k t.free
KnowsWalk n k want p (Next errand t) = Wants want errand × Tracks p.words p.chains k t 4
    × MayBeFree p.words p.chains k t.free
KnowsWalk n k want p (Match errand s) = Wants want errand × IsMet p.words p.chains k s
KnowsWalk n k want p (Counter at last) = (want ≡ Some (ref_word at)) × IsLast k p last
KnowsWalk n k want p (Claim at last) = (want ≡ Some (ref_word at)) × IsLast k p last
KnowsWalk n k want p (FillPlace at s from) = (want ≡ Some (ref_word at)) × Fills n k p s from
KnowsWalk n k want p (FillKey s from) = IsPlaced want p s.bucket (s.number + 3) × Fills n k p s from
KnowsWalk n k want p (Link last new) = IsPlaced want p new 4 × ((store_in p).takers new ≡ n)
    × IsLinking p.words p.chains (store_in p).index (store_in p).takers k last new

-- it ends when the index gives what is wanted, or gives nothing and no overflow bucket is left
abbrev pub Ends : ℕ → Option ℕ → Pool → WalkTurn → Type 0
Ends k want p More = ⊥
Ends k want p (Found at) = ⊥
Ends k want p Absent = ⊥
Ends k want p Written = (store_in p).index k ≡ want
Ends k want p (IndexFull counter) = (store_in p).index k ≡ None

abbrev pub KnowsStep : ℕ → ℕ → Option ℕ → Pool → Step → Type 0
KnowsStep n k want p (On place) = KnowsWalk n k want p place
KnowsStep n k want p (End turn) = Ends k want p turn

-- how often an action asks for an overflow bucket
abbrev pub asks_at : WalkPlace → ℕ
asks_at (Key errand t number) = 0
asks_at (Next errand t) = 0
asks_at (Match errand s) = 0
asks_at (Counter at last) = 0
asks_at (Claim at last) = 1
asks_at (FillPlace at s from) = 0
asks_at (FillKey s from) = 0
asks_at (Link last new) = 0

-- what comes of an action that found this word and left these words
pub record IsWalked (n : ℕ) (want : Option ℕ) (p : Pool) (w : Walking) (word : ℕ) (now : List ℕ) : Type 0 where
  pub index : IndexState
  pub words : index.words ≡ now
  pub is : IsIndexStep n w.key want p index
  pub knows : KnowsStep n w.key want (with_index p index) (walk_step w word)
  pub count : index.bucket_count ≡ (store_in p).bucket_count + asks_at w.place
