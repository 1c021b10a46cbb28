use Rattle.std.proofs.Common.{ℕ, ◌+◌, ◌-◌, ◌/◌, ◌<◌, ◌≤◌, ◌≢◌, inl, inr, List, Option, Some, None, length, sym, ap, subst, arith}
use Rattle.std.proofs.lemmas.Grind.{common_steps}
use Rattle.dn_act.specs.Action.{at_of}
use Rattle.dn_act.specs.Words.{word_at}
use Rattle.dn_act.specs.declared.actions.Action.{Action}
use Rattle.dn_act.specs.declared.actions.Action.TheVariants.{Load, Store, Cas, Or, Add}
use Rattle.dn_model.specs.Regions.{bucket_at, directory, place, home_of, IsLane}
use Rattle.dn_model.proofs.HashLaws.{home_below}
use Rattle.dn_index.specs.Walk.{next_at, met_action}
use Rattle.dn_index.specs.declared.places.Errand.{Errand}
use Rattle.dn_index.specs.declared.places.Errand.TheVariants.{Find, Set, Remove}
use Rattle.dn_index.specs.declared.places.Spot.{Spot}
use Rattle.dn_index.specs.declared.places.WalkPlace.{WalkPlace}
use Rattle.dn_index.specs.declared.places.WalkPlace.TheVariants.{Key, Next, Match, Counter, Claim, FillPlace, FillKey, Link}
use Rattle.dn_store.specs.Standing.{InChain}
use Rattle.dn_beside.specs.Pool.{Pool, store_in, IsWhole}
use Rattle.dn_walks.specs.Changing.{KnowsWalk, Fills}
use Rattle.dn_walks.specs.Trails.{IsSpotOf}
use Rattle.dn_walks.proofs.Trails.{tracks_in}
use Rattle.dn_merge.specs.Merge.{Merging, merge_next, next_in}
use Rattle.dn_merge.specs.declared.places.Change.{Change}
use Rattle.dn_merge.specs.declared.places.MergePlace.{MergePlace}
use Rattle.dn_merge.specs.declared.places.MergePlace.TheVariants as at
use Rattle.dn_monitor.specs.Words.{IsOfMonitor}
use Rattle.dn_turns.specs.Knows.{Works, AtKey, KnowsMerge, IsMergerAt}
use Rattle.dn_turns.proofs.Logs.{spelled, mark_below}
use Rattle.dn_turns.proofs.Loads.{key_in}

-- The words on which mergers and the monitor act lie in the pool.

-- ---- the monitor's
pub monitor_low : (action : Action) → IsOfMonitor action → at_of action < 98304
monitor_low (Load at) h = elim h [ inl g ↦ omega (arith, g.1) | inr o ↦ elim o [ inl m ↦ omega (arith, m.1) | inr d ↦ omega (arith, d.1) ] ]
monitor_low (Store at word) h = omega (arith, h)
monitor_low (Cas at old new) h = omega (arith, h.0.1)
monitor_low (Or at bits) h = omega (arith, h.0.1)
monitor_low (Add at by) h = absurd h

-- ---- a merger's, in the index
in_bucket : (p : Pool) (b i : ℕ) → IsWhole p → b < 8192 → i < 8 → bucket_at b i < length p.words
in_bucket p b i h lt few = omega (arith, h.represents.table.size, lt, few)

chain_low : (p : Pool) (k b : ℕ) → IsWhole p → InChain p.chains (home_of k) b → b < 8192
chain_low p k b h c = h.represents.indexed.below (home_of k) b (home_below k) c

record IsLow (s : Spot) : Type 0 where
  bucket : s.bucket < 8192
  number : s.number ≤ 3

spot_low : (p : Pool) (k : ℕ) (s : Spot) → IsWhole p → IsSpotOf p.chains k s → IsLow s
spot_low p k s h o = record { bucket = chain_low p k s.bucket h o.place.has; number = omega (arith, o.number, o.place.three) }

fills_low : (n k : ℕ) (p : Pool) (s : Spot) (from : Option ℕ) → IsWhole p → IsLane n → Fills n k p s from → IsLow s
fills_low n k p s None h l f = spot_low p k s h f.0.spot
fills_low n k p s (Some last) h l f = record {
  bucket = (h.represents.overflow.taken s.bucket (omega (arith, f.1.taker, l.positive))).2;
  number = omega (arith, f.1.first);
}

met_low : (n k : ℕ) (p : Pool) (errand : Errand) (s : Spot) → IsWhole p → IsLow s → at_of (met_action errand s) < length p.words
met_low n k p Find s h o = in_bucket p s.bucket (s.number + 3) h o.bucket (omega (arith, o.number))
met_low n k p (Set at) s h o = in_bucket p s.bucket (s.number + 3) h o.bucket (omega (arith, o.number))
met_low n k p Remove s h o = in_bucket p s.bucket s.number h o.bucket (omega (arith, o.number))

walk_low : (n k : ℕ) (want : Option ℕ) (p : Pool) (place : WalkPlace) → IsWhole p → IsLane n → KnowsWalk n k want p place → at_of (next_at k place) < length p.words
walk_low n k want p (Key errand t number) h l w = in_bucket p t.bucket number h (chain_low p k t.bucket h (tracks_in p.words p.chains k t number w.2)) (omega (arith, w.1))
walk_low n k want p (Next errand t) h l w = in_bucket p t.bucket 7 h (chain_low p k t.bucket h (tracks_in p.words p.chains k t 4 w.1)) (omega arith)
walk_low n k want p (Match errand s) h l w = met_low n k p errand s h (spot_low p k s h w.1.spot)
walk_low n k want p (Counter at last) h l w = omega (arith, h.represents.table.size)
walk_low n k want p (Claim at last) h l w = omega (arith, h.represents.table.size)
walk_low n k want p (FillPlace at s from) h l w = let o = fills_low n k p s from h l w.1 in in_bucket p s.bucket (s.number + 3) h o.bucket (omega (arith, o.number))
walk_low n k want p (FillKey s from) h l w = let o = fills_low n k p s from h l w.1 in in_bucket p s.bucket s.number h o.bucket (omega (arith, o.number))
walk_low n k want p (Link last new) h l w = in_bucket p last 7 h (chain_low p k last h w.2.has) (omega arith)

-- ---- and in its log
-- the mark is in a segment of the pool
mark_segment : (n : ℕ) (p : Pool) (mark : ℕ) → IsWhole p → IsLane n → Works n p mark → (mark / 1024 < 256) × (0 < directory p.words n (mark / 1024)) × (directory p.words n (mark / 1024) ≤ (store_in p).pool)
mark_segment n p mark h l w =
    let c = (h.represents.reads.logs_are n l).covered mark (omega (arith, mark_below n p mark h w, ap (λ g. g.len) (h.represents.table.gates n l.below))) in
    let d : ℕ = directory p.words n (mark / 1024) in
    let own = h.represents.space.named n (mark / 1024) (d - 1) l c.0 (omega (arith, c.1)) in
    let g = (h.represents.space.claimed (d - 1) (omega (arith, own, l.positive))).1 in
    (c.0, c.1, omega (arith, g))

mark_within : (n : ℕ) (p : Pool) (mark : ℕ) → IsWhole p → IsLane n → Works n p mark → place p.words n mark < length p.words
mark_within n p mark h l w = let s = mark_segment n p mark h l w in omega (arith, s.1, s.2, h.represents.table.size)

past : (words : List ℕ) (at : ℕ) → word_at words at ≢ 0 → at < length words
past words at d = grind (arith, common_steps)

key_within : (n : ℕ) (p : Pool) (mark from to : ℕ) (change : Change) → IsWhole p → IsLane n → AtKey n p mark from to change → from + 1 < length p.words
key_within n p mark from to change h l a =
    let k = key_in p.words n mark change a.works.of.entry (word_at p.words (from + 1)) (spelled n p mark h l a.works).spelled a.change_is (ap (λ x. word_at p.words (x + 1)) a.from_is) in
    past p.words (from + 1) (λ z. absurd (omega (arith, k.positive, z)))

within_at : (n : ℕ) (p : Pool) (place : MergePlace) → IsWhole p → IsLane n → KnowsMerge n p place → at_of (next_in n place) < length p.words
within_at n p at.Gate h l k = omega (arith, h.represents.table.size, l.below)
within_at n p (at.Mark gate) h l k = omega (arith, h.represents.table.size, l.below)
within_at n p (at.Directory mark) h l k = omega (arith, h.represents.table.size, l.below, (mark_segment n p mark h l k).0)
within_at n p (at.Header mark from) h l k = omega (arith, mark_within n p mark h l k.works, k.from_is)
within_at n p (at.Key mark from to change) h l k = key_within n p mark from to change h l k
within_at n p (at.Walk to w) h l k = walk_low n w.key _ p w.place h l k.walk
within_at n p (at.Pass to) h l k = omega (arith, h.represents.table.size, l.below)

pub merger_within : (n : ℕ) (x : Merging) (p : Pool) → IsWhole p → IsLane n → IsMergerAt n x p → at_of (merge_next x) < length p.words
merger_within n x p h l k = let P : ℕ → Type 0 = λ m. at_of (next_in m x.place) < length p.words in subst P (sym k.number) (within_at n p x.place h l k.knows)
