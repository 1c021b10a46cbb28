use Rattle.std.proofs.Common.{ℕ, zero, suc, ◌+◌, ◌-◌, ◌/◌, ◌<◌, ◌≤◌, ◌≡◌, ◌≢◌, List, sym, ◌∙◌, ap, subst, arith}
use Rattle.dn_word.specs.Gate.{gate_of}
use Rattle.dn_word.specs.declared.packed.gate.Gate.{Gate}
use Rattle.dn_act.specs.Action.{Performs}
use Rattle.dn_act.specs.Words.{word_at}
use Rattle.dn_model.specs.Regions.{gate, directory, IsLane}
use Rattle.dn_index.specs.Walk.{next_at, IsFull as NeedsMore}
use Rattle.dn_index.specs.declared.places.WalkPlace.{WalkPlace}
use Rattle.dn_index.specs.declared.places.WalkPlace.TheVariants.{Key, Next, Match, Counter, Claim, FillPlace, FillKey, Link}
use Rattle.dn_store.proofs.Same.{merged_within}
use Rattle.dn_beside.specs.Pool.{Pool, store_in, IsWhole}
use Rattle.dn_merge.specs.Merge.{Merging, merge_next, next_in, Meets, IsIdle, IsFull}
use Rattle.dn_merge.specs.declared.places.Change.{Change}
use Rattle.dn_merge.specs.declared.places.MergePlace.{MergePlace}
use Rattle.dn_merge.specs.declared.places.MergePlace.TheVariants as at
use Rattle.dn_turns.specs.Knows.{Works, AtKey, KnowsMerge, IsMergerAt}
use Rattle.dn_turns.proofs.Logs.{spelled, mark_below}
use Rattle.dn_turns.proofs.Loads.{key_in}

-- The word that a merger's action finds is one that it accepts, and what its answers say of the pool.

len_is : (n : ℕ) (p : Pool) → IsWhole p → IsLane n → (gate p.words n).len ≡ ((store_in p).gates n).len
len_is n p h l = ap (λ (g : Gate). g.len) (h.represents.table.gates n l.below)

-- a log has at most 262,144 words
len_most : (n : ℕ) (p : Pool) → IsWhole p → IsLane n → ((store_in p).gates n).len ≤ 262144
len_most n p h l = by_len (gate p.words n).len (len_is n p h l) (h.represents.reads.logs_are n l).covered where
  by_len : (len : ℕ) → len ≡ ((store_in p).gates n).len → ((o : ℕ) → o < len → (o / 1024 < 256) × (0 < directory p.words n (o / 1024))) → ((store_in p).gates n).len ≤ 262144
  by_len zero e c = omega (arith, e)
  by_len (suc k) e c = let z = (c k (omega arith)).0 in omega (arith, e, z)

-- the directory names a segment of the pool for the mark
directory_fits : (n : ℕ) (p : Pool) (mark : ℕ) → IsWhole p → IsLane n → (store_in p).pool ≤ 8192 → Works n p mark → (0 < directory p.words n (mark / 1024)) × (directory p.words n (mark / 1024) ≤ 8192)
directory_fits n p mark h l few w =
    let c = (h.represents.reads.logs_are n l).covered mark (omega (arith, mark_below n p mark h w, len_is n p h l)) in
    let d : ℕ = directory p.words n (mark / 1024) in
    let own = h.represents.space.named n (mark / 1024) (d - 1) l c.0 (omega (arith, c.1)) in
    let g = (h.represents.space.claimed (d - 1) (omega (arith, own, l.positive))).1 in
    (c.1, omega (arith, g, few))

key_fits : (n : ℕ) (p : Pool) (mark from to : ℕ) (change : Change) (word : ℕ) → IsWhole p → IsLane n → AtKey n p mark from to change → word ≡ word_at p.words (from + 1) → word ≢ 0
key_fits n p mark from to change word h l a w z =
    let k = key_in p.words n mark change a.works.of.entry word (spelled n p mark h l a.works).spelled a.change_is (w ∙ ap (λ x. word_at p.words (x + 1)) a.from_is) in
    absurd (omega (arith, k.positive, z))

fits_at : (n : ℕ) (p : Pool) (place : MergePlace) (word : ℕ) (now : List ℕ) → IsWhole p → IsLane n → (store_in p).pool ≤ 8192 → KnowsMerge n p place → Performs (next_in n place) word p.words now → Meets word place
fits_at n p at.Gate word now h l few k e = record {}
fits_at n p (at.Mark gate) word now h l few k e = omega (arith, e.answer ∙ h.represents.table.marks n l.below, merged_within p.words p.chains (store_in p) n h.represents l, len_most n p h l)
fits_at n p (at.Directory mark) word now h l few k e = let d = directory_fits n p mark h l few k in (omega (arith, d.0, e.answer), omega (arith, d.1, e.answer))
fits_at n p (at.Header mark from) word now h l few k e = record {}
fits_at n p (at.Key mark from to change) word now h l few k e = key_fits n p mark from to change word h l k e.answer
fits_at n p (at.Walk to w) word now h l few k e = record {}
fits_at n p (at.Pass to) word now h l few k e = record {}

pub fits : (n : ℕ) (m : Merging) (p : Pool) (word : ℕ) (now : List ℕ) → IsWhole p → IsLane n → (store_in p).pool ≤ 8192 → IsMergerAt n m p → Performs (merge_next m) word p.words now → Meets word m.place
fits n m p word now h l few a e = let P : ℕ → Type 0 = λ x. Performs (next_in x m.place) word p.words now in fits_at n p m.place word now h l few a.knows (subst P a.number e)

-- ---- Idle: what was sealed when the gate was loaded is merged
idle_at : (n : ℕ) (p : Pool) (place : MergePlace) (word : ℕ) (now : List ℕ) (gate mark : ℕ) → IsWhole p → IsLane n → Performs (next_in n place) word p.words now → IsIdle gate mark word place
    → ((store_in p).marks n ≡ mark) × ((gate_of gate).len ≡ mark)
idle_at n p at.Gate word now gate mark h l e i = absurd i
idle_at n p (at.Mark loaded) word now gate mark h l e i = (sym (e.answer ∙ h.represents.table.marks n l.below) ∙ i.1, i.2)
idle_at n p (at.Directory x) word now gate mark h l e i = absurd i
idle_at n p (at.Header x from) word now gate mark h l e i = absurd i
idle_at n p (at.Key x from to change) word now gate mark h l e i = absurd i
idle_at n p (at.Walk to w) word now gate mark h l e i = absurd i
idle_at n p (at.Pass to) word now gate mark h l e i = absurd i

pub idle : (n : ℕ) (m : Merging) (p : Pool) (word : ℕ) (now : List ℕ) (gate mark : ℕ) → IsWhole p → IsLane n → IsMergerAt n m p → Performs (merge_next m) word p.words now → IsIdle gate mark word m.place
    → ((store_in p).marks n ≡ mark) × ((gate_of gate).len ≡ mark)
idle n m p word now gate mark h l a e i = let P : ℕ → Type 0 = λ x. Performs (next_in x m.place) word p.words now in idle_at n p m.place word now gate mark h l (subst P a.number e) i

-- ---- IndexFull: all overflow buckets are claimed
full_by : (k : ℕ) (p : Pool) (place : WalkPlace) (word : ℕ) (now : List ℕ) → IsWhole p → Performs (next_at k place) word p.words now → NeedsMore place word → (word ≡ (store_in p).bucket_count) × (4096 ≤ word)
full_by k p (Key errand t number) word now h e i = absurd i
full_by k p (Next errand t) word now h e i = absurd i
full_by k p (Match errand s) word now h e i = absurd i
full_by k p (Counter x last) word now h e i = (e.answer ∙ h.represents.table.bucket_count, i)
full_by k p (Claim x last) word now h e i = (e.answer ∙ h.represents.table.bucket_count, i)
full_by k p (FillPlace x s from) word now h e i = absurd i
full_by k p (FillKey s from) word now h e i = absurd i
full_by k p (Link last new) word now h e i = absurd i

full_at : (n : ℕ) (p : Pool) (place : MergePlace) (word : ℕ) (now : List ℕ) (counter : ℕ) → IsWhole p → Performs (next_in n place) word p.words now → IsFull counter word place → (counter ≡ (store_in p).bucket_count) × (4096 ≤ counter)
full_at n p at.Gate word now counter h e i = absurd i
full_at n p (at.Mark loaded) word now counter h e i = absurd i
full_at n p (at.Directory x) word now counter h e i = absurd i
full_at n p (at.Header x from) word now counter h e i = absurd i
full_at n p (at.Key x from to change) word now counter h e i = absurd i
full_at n p (at.Walk to w) word now counter h e i = let f = full_by w.key p w.place word now h e i.1 in (sym i.0 ∙ f.0, omega (arith, f.1, i.0))
full_at n p (at.Pass to) word now counter h e i = absurd i

pub full : (m : Merging) (p : Pool) (word : ℕ) (now : List ℕ) (counter : ℕ) → IsWhole p → Performs (merge_next m) word p.words now → IsFull counter word m.place → (counter ≡ (store_in p).bucket_count) × (4096 ≤ counter)
full m p word now counter h e i = full_at m.lane p m.place word now counter h e i
