use Rattle.std.proofs.Common.{ℕ, ◌+◌, ◌<◌, ◌≤◌, ◌≡◌, ◌⊎◌, inl, inr, Option, Some, None, refl, arith}
use Rattle.dn_word.specs.Regions.{overflow_counter_at}
use Rattle.dn_act.specs.Action.{at_of}
use Rattle.dn_model.specs.Regions.{bucket_at, home_of, IsLane}
use Rattle.dn_model.proofs.HashLaws.{home_below}
use Rattle.dn_index.specs.Footprint.{IsOfBucket}
use Rattle.dn_index.specs.Walk.{met_action, next_at}
use Rattle.dn_index.specs.declared.places.Errand.{Errand}
use Rattle.dn_index.specs.declared.places.Errand.TheVariants.{Find, Set, Remove}
use Rattle.dn_index.specs.declared.places.Spot.{Spot}
use Rattle.dn_index.specs.declared.places.WalkPlace.{WalkPlace}
use Rattle.dn_index.specs.declared.places.WalkPlace.TheVariants.{Key, Next, Match, Counter, Claim, FillPlace, FillKey, Link}
use Rattle.dn_store.specs.Standing.{InChain}
use Rattle.dn_beside.specs.Pool.{Pool, IsWhole}
use Rattle.dn_walks.specs.Changing.{KnowsWalk, Fills}
use Rattle.dn_walks.specs.Trails.{IsSpotOf}
use Rattle.dn_walks.proofs.Trails.{tracks_in}
use Rattle.dn_drain.proofs.Walks.{IsLow}

-- The words on which a merger's walk acts: the overflow counter and words of buckets.

abbrev pub IsOfIndex : ℕ → Type 0
IsOfIndex at = (at ≡ overflow_counter_at) ⊎ IsOfBucket at

record IsInIndex (s : Spot) : Type 0 where
  bucket : s.bucket < 8192
  number : s.number ≤ 3

in_bucket : (b i : ℕ) → b < 8192 → i < 8 → IsOfIndex (bucket_at b i)
in_bucket b i lt few = inr (omega arith, omega (arith, lt, few))

chain_low : (p : Pool) (k b : ℕ) → IsWhole p → InChain p.chains (home_of k) b → b < 8192
chain_low p k b h c = h.represents.indexed.below (home_of k) b (home_below k) c

spot_low : (p : Pool) (k : ℕ) (s : Spot) → IsWhole p → IsSpotOf p.chains k s → IsInIndex s
spot_low p k s h o = record { bucket = chain_low p k s.bucket h o.place.has; number = omega (arith, o.number, o.place.three) }

fills_low : (n k : ℕ) (p : Pool) (s : Spot) (from : Option ℕ) → IsWhole p → IsLane n → Fills n k p s from → IsInIndex s
fills_low n k p s None h l f = spot_low p k s h f.0.spot
fills_low n k p s (Some last) h l f = record {
  bucket = (h.represents.overflow.taken s.bucket (omega (arith, f.1.taker, l.positive))).2;
  number = omega (arith, f.1.first);
}

met_at : (errand : Errand) (s : Spot) → IsInIndex s → IsOfIndex (at_of (met_action errand s))
met_at Find s o = in_bucket s.bucket (s.number + 3) o.bucket (omega (arith, o.number))
met_at (Set at) s o = in_bucket s.bucket (s.number + 3) o.bucket (omega (arith, o.number))
met_at Remove s o = in_bucket s.bucket s.number o.bucket (omega (arith, o.number))

pub walk_at : (n k : ℕ) (want : Option ℕ) (p : Pool) (place : WalkPlace) → IsWhole p → IsLane n → KnowsWalk n k want p place → IsOfIndex (at_of (next_at k place))
walk_at n k want p (Key errand t number) h l w = in_bucket t.bucket number (chain_low p k t.bucket h (tracks_in p.words p.chains k t number w.2)) (omega (arith, w.1))
walk_at n k want p (Next errand t) h l w = in_bucket t.bucket 7 (chain_low p k t.bucket h (tracks_in p.words p.chains k t 4 w.1)) (omega arith)
walk_at n k want p (Match errand s) h l w = met_at errand s (spot_low p k s h w.1.spot)
walk_at n k want p (Counter at last) h l w = inl refl
walk_at n k want p (Claim at last) h l w = inl refl
walk_at n k want p (FillPlace at s from) h l w = let o = fills_low n k p s from h l w.1 in in_bucket s.bucket (s.number + 3) o.bucket (omega (arith, o.number))
walk_at n k want p (FillKey s from) h l w = let o = fills_low n k p s from h l w.1 in in_bucket s.bucket s.number o.bucket (omega (arith, o.number))
walk_at n k want p (Link last new) h l w = in_bucket last 7 (chain_low p k last h w.2.has) (omega arith)

pub walk_low : (n k : ℕ) (want : Option ℕ) (p : Pool) (place : WalkPlace) → KnowsWalk n k want p place → IsLow place
walk_low n k want p (Key errand t number) w = w.1
walk_low n k want p (Next errand t) w = record {}
walk_low n k want p (Match errand s) w = record {}
walk_low n k want p (Counter at last) w = record {}
walk_low n k want p (Claim at last) w = record {}
walk_low n k want p (FillPlace at s from) w = record {}
walk_low n k want p (FillKey s from) w = record {}
walk_low n k want p (Link last new) w = record {}
