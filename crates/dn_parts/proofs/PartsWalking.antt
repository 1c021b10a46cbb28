use Rattle.std.proofs.Common.{ℕ, ◌<◌, ◌≡◌, List, Option, Some, None, subst}
use Rattle.dn_model.specs.Regions.{home_of}
use Rattle.dn_model.proofs.HashLaws.{home_below}
use Rattle.dn_store.specs.Standing.{Stands}
use Rattle.dn_index.specs.Walk.{Walking}
use Rattle.dn_index.specs.declared.places.Spot.{Spot}
use Rattle.dn_index.specs.declared.places.WalkPlace.{WalkPlace}
use Rattle.dn_index.specs.declared.places.WalkPlace.TheVariants.{Key, Next, Match, Counter, Claim, FillPlace, FillKey, Link}
use Rattle.dn_beside.specs.Pool.{Pool, store_in, IsWhole}
use Rattle.dn_walks.specs.Changing.{Fills, KnowsWalk}
use Rattle.dn_walks.specs.Finding.{KnowsFind}
use Rattle.dn_parts.specs.Walking.{IsBehind, HasWalked}

-- What actors know while they walk along a bucket chain.

pub has_walked : (p : Pool) (w : Walking) → IsWhole p → IsBehind p.words p.chains w.key w.place → HasWalked p.words w
has_walked p w h b = record { chains = p.chains; chain = h.represents.reads.chains_are (home_of w.key) (home_below w.key); behind = b }

-- ---- mergers
missing : (p : Pool) (k : ℕ) → IsWhole p → 0 < k → (store_in p).index k ≡ None → Stands p.words p.chains k None
missing p k h pos e = let P : Option ℕ → Type 0 = λ o. Stands p.words p.chains k o in subst P e (h.represents.indexed.stands k pos)

fills_none : (n k : ℕ) (p : Pool) (s : Spot) (from : Option ℕ) → Fills n k p s from → (store_in p).index k ≡ None
fills_none n k p s None h = h.1
fills_none n k p s (Some last) h = h.0.absent

pub merger_behind : (n k : ℕ) (want : Option ℕ) (p : Pool) (w : WalkPlace) → IsWhole p → 0 < k → KnowsWalk n k want p w → IsBehind p.words p.chains k w
merger_behind n k want p (Key errand t number) h pos x = x.2
merger_behind n k want p (Next errand t) h pos x = x.1
merger_behind n k want p (Match errand s) h pos x = x.1
merger_behind n k want p (Counter at last) h pos x = missing p k h pos x.1.absent
merger_behind n k want p (Claim at last) h pos x = missing p k h pos x.1.absent
merger_behind n k want p (FillPlace at s from) h pos x = missing p k h pos (fills_none n k p s from x.1)
merger_behind n k want p (FillKey s from) h pos x = missing p k h pos (fills_none n k p s from x.1)
merger_behind n k want p (Link last new) h pos x = missing p k h pos x.2.absent

-- ---- lanes
pub lane_behind : (words : List ℕ) (chains : ℕ → List ℕ) (k : ℕ) (w : WalkPlace) → KnowsFind words chains k w → IsBehind words chains k w
lane_behind words chains k (Key errand t number) x = x.2
lane_behind words chains k (Next errand t) x = x.1
lane_behind words chains k (Match errand s) x = x.1
lane_behind words chains k (Counter at last) x = absurd x
lane_behind words chains k (Claim at last) x = absurd x
lane_behind words chains k (FillPlace at s from) x = absurd x
lane_behind words chains k (FillKey s from) x = absurd x
lane_behind words chains k (Link last new) x = absurd x
