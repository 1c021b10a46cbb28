use Rattle.std.proofs.Common.{ℕ, ◌+◌, ◌-◌, ◌*◌, ◌^◌, ◌%◌, ◌==◌, ◌<◌, ◌≤◌, ◌≡◌, ◌⊎◌, inl, inr, Bool, true, false, if◌then◌else◌, List, Option, Some, None, length, sym, ◌∙◌, ap, subst, arith}
use Rattle.std.proofs.lemmas.List.{set-get_or}
use Rattle.dn_word.specs.Gate.{gate_of}
use Rattle.dn_word.specs.Regions.{overflow_counter_at}
use Rattle.dn_word.specs.declared.packed.gate.Gate.{Gate}
use Rattle.dn_act.specs.Action.{Performs}
use Rattle.dn_act.specs.Words.{word_at}
use Rattle.dn_act.proofs.Words.{word_at-set_same}
use Rattle.dn_record.specs.Head.{head_words}
use Rattle.dn_record.specs.Reading.{head_in}
use Rattle.dn_record.specs.declared.heads.Head.{Head}
use Rattle.dn_record.specs.Record.{head_of}
use Rattle.dn_record.specs.declared.records.Record.{Record}
use Rattle.dn_record.proofs.HeadLemmas.{head_spelled}
use Rattle.dn_record.proofs.SpelledLemmas.{is_head}
use Rattle.dn_model.specs.Log.{SpellsAt}
use Rattle.dn_model.specs.Regions.{gate, mark_at, offsets, IsLane}
use Rattle.dn_index.specs.Walk.{Walking, walk_step, next_at, turn_of, after_of, left_at as walk_left, IsFull as NeedsMore}
use Rattle.dn_index.specs.declared.places.Step.{Step}
use Rattle.dn_index.specs.declared.places.Step.TheVariants.{On, End}
use Rattle.dn_index.specs.declared.places.WalkPlace.{WalkPlace}
use Rattle.dn_index.specs.declared.places.WalkPlace.TheVariants.{Key, Next, Match, Counter, Claim, FillPlace, FillKey, Link}
use Rattle.dn_index.specs.declared.places.WalkTurn.TheVariants as turn
use Rattle.dn_beside.specs.Pool.{Pool, store_in, IsWhole}
use Rattle.dn_merge.specs.Left.{left_in}
use Rattle.dn_merge.specs.Merge.{ended, on, change_of, marked, by_change, headed, walked, step_in}
use Rattle.dn_merge.specs.declared.places.Change.{Change}
use Rattle.dn_merge.specs.declared.places.MergePlace.{MergePlace}
use Rattle.dn_merge.specs.declared.places.MergePlace.TheVariants as at
use Rattle.dn_merge.specs.declared.mergers.MergeTurn.{MergeTurn}
use Rattle.dn_merge.specs.declared.mergers.MergeTurn.TheVariants.{More, Idle, IndexFull}
use Rattle.dn_turns.specs.Knows.{AtHeader, AtWalk, AtPass}
use Rattle.dn_turns.proofs.Loads.{Loads, load_leaves}
use Rattle.dn_turns.proofs.Logs.{spelled, mark_below}
use Rattle.dn_drain.specs.Drained.{IsFull}
use Rattle.dn_drain.specs.Left.{unmerged, left_at}
use Rattle.dn_drain.proofs.Leaving.{IsActing, leaves_words, gate_stays, index_still}
use Rattle.dn_drain.proofs.Places.{walk_at, walk_low}
use Rattle.dn_drain.proofs.Walks.{Goes, IsLow, step_goes, has_left}

-- An action behind which the merger goes on leaves fewer until all is merged.

-- ---- within a turn
no_turn : (gate mark : ℕ) → (let t : MergeTurn = Idle gate mark in t) ≡ More → ⊥
no_turn gate mark e = absurd (cc e)

not_full : (counter : ℕ) → (let t : MergeTurn = IndexFull counter in t) ≡ More → ⊥
not_full counter e = absurd (cc e)

marked_falls : (gate mark : ℕ) → (marked gate mark).turn ≡ More → left_in (marked gate mark).place < 16398
marked_falls gate mark = by_len ((gate_of gate).len == mark) where
  by_len : (b : Bool) → (if b then ended (Idle gate mark) else on (at.Directory mark)).turn ≡ More → left_in (if b then ended (Idle gate mark) else on (at.Directory mark)).place < 16398
  by_len true e = absurd (no_turn gate mark e)
  by_len false e = omega arith

change_falls : (mark from to : ℕ) (change : Option Change) → left_in (by_change mark from to change).place < 16396
change_falls mark from to None = omega arith
change_falls mark from to (Some change) = omega arith

walked_falls : (to : ℕ) (w : Walking) (full : Type 0) (word : ℕ) (step : Step) → IsLow w.place → Goes (walk_left w.place) full word step → (walked to (turn_of step) (after_of w step)).turn ≡ More
    → left_in (walked to (turn_of step) (after_of w step)).place < 1 + walk_left w.place
walked_falls to w full word (On place) low h e = omega (arith, h)
walked_falls to w full word (End turn.More) low h e = absurd h
walked_falls to w full word (End (turn.Found at)) low h e = omega (arith, has_left w.place low)
walked_falls to w full word (End turn.Absent) low h e = omega (arith, has_left w.place low)
walked_falls to w full word (End turn.Written) low h e = omega (arith, has_left w.place low)
walked_falls to w full word (End (turn.IndexFull counter)) low h e = absurd (not_full counter e)

-- ---- what is at the mark is a record
head_here : (w : ℕ → ℕ) (o : ℕ) (r : Record) → SpellsAt w o r → head_in (w o) ≡ Some (head_of r)
head_here w o r h = head_spelled (w o) (head_of r) (record { is_head = is_head r h.is_record; is_word = sym h.stands.0 })

header_falls : (n : ℕ) (p : Pool) (mark from word : ℕ) → IsWhole p → IsLane n → AtHeader n p mark from → word ≡ word_at p.words from → left_in (headed mark from (head_in word)).place < 16396
header_falls n p mark from word h l a w =
    let P : Option Head → Type 0 = λ o. left_in (headed mark from o).place < 16396 in
    let r : Record = a.works.of.entry in
    let read : head_in word ≡ Some (head_of r) = ap head_in (w ∙ ap (λ x. word_at p.words x) a.from_is) ∙ head_here (offsets p.words n) mark r (spelled n p mark h l a.works).spelled in
    subst P (sym read) (change_falls mark from (mark + head_words (head_of r)) (change_of (head_of r)))

-- ---- with what isn't merged
fewer : (u v a b : ℕ) → u ≡ v → a < b → u * 16400 + a < v * 16400 + b
fewer u v a b e h = omega (arith, e, h)

passed_fewer : (len mark to : ℕ) → mark < to → to ≤ len → (len - to) * 16400 + 16399 < (len - mark) * 16400 + 1
passed_fewer len mark to h k = omega (arith, h, k)

load_falls : (n : ℕ) (p : Pool) (place : MergePlace) (word : ℕ) (now : List ℕ) → Loads place → IsActing n p place word now → left_in (step_in n word place).place < left_in place
    → left_at now n (step_in n word place).place < left_at p.words n place
load_falls n p place word now o h lt =
    let e : now ≡ p.words = load_leaves p.words now n place o h.does.change in
    fewer (unmerged now n) (unmerged p.words n) (left_in (step_in n word place).place) (left_in place) (ap (λ ws. unmerged ws n) e) lt

walk_falls : (n : ℕ) (p : Pool) (to : ℕ) (w : Walking) (word : ℕ) (now : List ℕ) → IsActing n p (at.Walk to w) word now → (step_in n word (at.Walk to w)).turn ≡ More
    → left_at now n (step_in n word (at.Walk to w)).place < left_at p.words n (at.Walk to w)
walk_falls n p to w word now h e =
    let low : IsLow w.place = walk_low n w.key _ p w.place h.knows.walk in
    fewer (unmerged now n) (unmerged p.words n) _ (1 + walk_left w.place)
    (index_still n p.words now _ _ h.lane (walk_at n w.key _ p w.place h.whole h.lane h.knows.walk) h.does.change (leaves_words n p (at.Walk to w) word now h))
    (walked_falls to w (NeedsMore w.place word) word (walk_step w word) low (step_goes w.key w.place word low) e)

pass_falls : (n : ℕ) (p : Pool) (to word : ℕ) (now : List ℕ) → IsActing n p (at.Pass to) word now → left_at now n at.Gate < left_at p.words n (at.Pass to)
pass_falls n p to word now h =
    let a : AtPass n p to = h.knows in
    let s = spelled n p a.mark h.whole h.lane a.works in
    let len : ℕ = (gate p.words n).len in
    let size : mark_at n < length p.words = omega (arith, h.whole.represents.table.size, h.lane.below) in
    let g : (gate now n).len ≡ len = ap (λ (x : ℕ). (gate_of x).len) (gate_stays n p.words now h.lane (leaves_words n p (at.Pass to) word now h)) in
    let m : word_at now (mark_at n) ≡ to = ap (λ ws. word_at ws (mark_at n)) h.does.change ∙ word_at-set_same p.words (mark_at n) to size in
    let was : word_at p.words (mark_at n) ≡ a.mark = h.whole.represents.table.marks n h.lane.below ∙ a.works.mark_is in
    let is : len ≡ ((store_in p).gates n).len = ap (λ (x : Gate). x.len) (h.whole.represents.table.gates n h.lane.below) in
    let lt : (len - to) * 16400 + 16399 < (len - a.mark) * 16400 + 1 = passed_fewer len a.mark to (omega (arith, s.past, a.to_is, a.works.at)) (omega (arith, s.inside, a.to_is, is)) in
    omega (arith, lt, ap (λ (x : ℕ). x - word_at now (mark_at n)) g, ap (λ (x : ℕ). len - x) m, ap (λ (x : ℕ). len - x) was)

pub falls : (n : ℕ) (p : Pool) (place : MergePlace) (word : ℕ) (now : List ℕ) → IsActing n p place word now → (step_in n word place).turn ≡ More
    → left_at now n (step_in n word place).place < left_at p.words n place
falls n p at.Gate word now h e = load_falls n p at.Gate word now (record {}) h (omega arith)
falls n p (at.Mark gate) word now h e = load_falls n p (at.Mark gate) word now (record {}) h (marked_falls gate word e)
falls n p (at.Directory mark) word now h e = load_falls n p (at.Directory mark) word now (record {}) h (omega arith)
falls n p (at.Header mark from) word now h e = load_falls n p (at.Header mark from) word now (record {}) h (header_falls n p mark from word h.whole h.lane h.knows h.does.answer)
falls n p (at.Key mark from to change) word now h e = load_falls n p (at.Key mark from to change) word now (record {}) h (omega arith)
falls n p (at.Walk to w) word now h e = walk_falls n p to w word now h e
falls n p (at.Pass to) word now h e = pass_falls n p to word now h

-- ---- no bucket is left
-- the counter is that of the words, but for the add that found it
pub record IsCounter (words : List ℕ) (counter : ℕ) : Type 0 where
  pub least : 4096 ≤ counter
  pub found : (word_at words overflow_counter_at ≡ counter) ⊎ (word_at words overflow_counter_at ≡ counter + 1)

counter_by : (p : Pool) (k : ℕ) (place : WalkPlace) (word : ℕ) (now : List ℕ) → IsWhole p → (store_in p).bucket_count + 1 < 2 ^ 64 → NeedsMore place word → Performs (next_at k place) word p.words now → IsCounter now word
counter_by p k (Key errand t number) word now h few i e = absurd i
counter_by p k (Next errand t) word now h few i e = absurd i
counter_by p k (Match errand s) word now h few i e = absurd i
counter_by p k (Counter x last) word now h few i e = record { least = i; found = inl (ap (λ ws. word_at ws overflow_counter_at) (e.change ∙ set-get_or p.words overflow_counter_at 0) ∙ sym e.answer) }
counter_by p k (Claim x last) word now h few i e =
    let size : overflow_counter_at < length p.words = omega (arith, h.represents.table.size) in
    let is : word ≡ (store_in p).bucket_count = e.answer ∙ h.represents.table.bucket_count in
    let next : (word_at p.words overflow_counter_at + 1) % 2 ^ 64 ≡ word + 1 = omega (arith, e.answer, is, few) in
    record { least = i; found = inr (ap (λ ws. word_at ws overflow_counter_at) e.change ∙ word_at-set_same p.words overflow_counter_at _ size ∙ next) }
counter_by p k (FillPlace x s from) word now h few i e = absurd i
counter_by p k (FillKey s from) word now h few i e = absurd i
counter_by p k (Link last new) word now h few i e = absurd i

same_full : (a b : ℕ) → (let t : MergeTurn = IndexFull a in t) ≡ IndexFull b → a ≡ b
same_full a b e = cc

more_full : (b : ℕ) → (let t : MergeTurn = More in t) ≡ IndexFull b → ⊥
more_full b e = absurd (cc e)

walked_full : (to : ℕ) (w : Walking) (most : ℕ) (full : Type 0) (word counter : ℕ) (step : Step) → Goes most full word step → (walked to (turn_of step) (after_of w step)).turn ≡ IndexFull counter → (word ≡ counter) × full
walked_full to w most full word counter (On place) h e = absurd (more_full counter e)
walked_full to w most full word counter (End turn.More) h e = absurd h
walked_full to w most full word counter (End (turn.Found at)) h e = absurd (more_full counter e)
walked_full to w most full word counter (End turn.Absent) h e = absurd (more_full counter e)
walked_full to w most full word counter (End turn.Written) h e = absurd (more_full counter e)
walked_full to w most full word counter (End (turn.IndexFull found)) h e = (h.0 ∙ same_full found counter e, h.1)

marked_full : (gate mark counter : ℕ) → (marked gate mark).turn ≡ IndexFull counter → ⊥
marked_full gate mark counter = by_len ((gate_of gate).len == mark) where
  by_len : (b : Bool) → (if b then ended (Idle gate mark) else on (at.Directory mark)).turn ≡ IndexFull counter → ⊥
  by_len true e = absurd (cc e)
  by_len false e = more_full counter e

headed_full : (mark from counter : ℕ) (head : Option Head) → (headed mark from head).turn ≡ IndexFull counter → ⊥
headed_full mark from counter None e = more_full counter e
headed_full mark from counter (Some found) e = by_kind (change_of found) e where
  by_kind : (change : Option Change) → (by_change mark from (mark + head_words found) change).turn ≡ IndexFull counter → ⊥
  by_kind None f = more_full counter f
  by_kind (Some change) f = more_full counter f

-- and the record on which it works isn't merged
still_left : (n : ℕ) (p : Pool) (to : ℕ) (w : Walking) (word : ℕ) (now : List ℕ) → IsActing n p (at.Walk to w) word now → word_at now (mark_at n) < (gate now n).len
still_left n p to w word now h =
    let a : AtWalk n p to w = h.knows in
    let still : unmerged now n ≡ unmerged p.words n = index_still n p.words now _ _ h.lane (walk_at n w.key _ p w.place h.whole h.lane a.walk) h.does.change (leaves_words n p (at.Walk to w) word now h) in
    let was : word_at p.words (mark_at n) ≡ a.mark = h.whole.represents.table.marks n h.lane.below ∙ a.works.mark_is in
    let is : (gate p.words n).len ≡ ((store_in p).gates n).len = ap (λ (x : Gate). x.len) (h.whole.represents.table.gates n h.lane.below) in
    omega (arith, still, was, is, mark_below n p a.mark h.whole a.works)

pub full : (n : ℕ) (p : Pool) (place : MergePlace) (word : ℕ) (now : List ℕ) (counter : ℕ) → (store_in p).bucket_count + 1 < 2 ^ 64 → IsActing n p place word now → (step_in n word place).turn ≡ IndexFull counter → IsFull now n counter
full n p at.Gate word now counter few h e = absurd (more_full counter e)
full n p (at.Mark gate) word now counter few h e = absurd (marked_full gate word counter e)
full n p (at.Directory mark) word now counter few h e = absurd (more_full counter e)
full n p (at.Header mark from) word now counter few h e = absurd (headed_full mark from counter (head_in word) e)
full n p (at.Key mark from to change) word now counter few h e = absurd (more_full counter e)
full n p (at.Walk to w) word now counter few h e =
    let low : IsLow w.place = walk_low n w.key _ p w.place h.knows.walk in
    let f : (word ≡ counter) × NeedsMore w.place word = walked_full to w (walk_left w.place) (NeedsMore w.place word) word counter (walk_step w word) (step_goes w.key w.place word low) e in
    let c : IsCounter now counter = subst (IsCounter now) f.0 (counter_by p w.key w.place word now h.whole few f.1 h.does) in
    record { left = still_left n p to w word now h; least = c.least; found = c.found }
full n p (at.Pass to) word now counter few h e = absurd (more_full counter e)
