use Rattle.std.proofs.Common.{ℕ, ◌+◌, ◌<◌, ◌≤◌, ◌≡◌, ◌≢◌, inl, inr, List, Contains, refl, ◌∙◌, subst, arith, slice_set, length}
use Rattle.dn_word.specs.Gate.{gate_of}
use Rattle.dn_word.specs.Deed.{deed_of}
use Rattle.dn_word.specs.Regions.{segment_counter_at, cell_counter_at, overflow_counter_at, cell_key_at}
use Rattle.dn_model.specs.Regions.{cell_at, bucket}
use Rattle.dn_store.specs.State.{StoreState, with_at}
use Rattle.dn_store.specs.Changes.{claimed, segment_wanted, celled, cell_keyed, cell_claimed, cell_wanted, bucket_claimed, bucket_wanted}
use Rattle.dn_store.specs.Space.{IsSpace}
use Rattle.dn_store.specs.CellSpace.{IsCellSpace}
use Rattle.dn_store.specs.Overflow.{IsOverflow}
use Rattle.dn_store.specs.Represents.{IsTable, Represents}
use Rattle.dn_store.proofs.At.{at_other, at_by}
use Rattle.dn_store.proofs.Stores.{is_stored, aside, inside}
use Rattle.dn_store.proofs.Unused.{used_counter, used_lane}
use Rattle.dn_store.proofs.Tables.{itself, one_aside, one_inside, table_changed, table_log}

-- The counters of claims, and the words of cells.

within : (words : List ℕ) (s : StoreState) (at : ℕ) → IsTable words s → at < 98304 → at < length words
within words s at h lt = let size = h.size in omega (arith, size, lt)

-- ---- an add to the counter of segments
segments_counted : (words : List ℕ) (chains : ℕ → List ℕ) (s : StoreState) (holders : ℕ → ℕ) → Represents words chains s → IsSpace words s.pool (s.segment_count + 1) holders
    → Represents (slice_set words 1 (s.segment_count + 1)) chains (record s { segment_count = s.segment_count + 1; holders = holders })
segments_counted words chains s holders h space =
    let new : ℕ = s.segment_count + 1 in
    let now : List ℕ = slice_set words 1 new in
    let st = is_stored words 1 new (within words s 1 h.table (omega arith)) in
    table_changed words now chains s (record s { segment_count = new; holders = holders }) 1 new (record {
      stored = st;
      low = omega arith;
      used = used_counter 1 (omega arith);
      turned = record {
        pool = refl;
        format = λ e. absurd (omega (arith, e));
        segment_count = one_inside 1 new s.segment_count;
        cell_count = one_aside 2 1 new s.cell_count (λ e. absurd (omega (arith, e)));
        bucket_count = one_aside 3 1 new s.bucket_count (λ e. absurd (omega (arith, e)));
        gates = aside 64 64 gate_of 1 new s.gates (inl (omega (arith)));
        marks = aside 128 64 itself 1 new s.marks (inl (omega (arith)));
        deeds = aside 192 64 deed_of 1 new s.deeds (inl (omega (arith)));
        cells = aside 256 256 itself 1 new s.cells (inl (omega (arith)));
        keys = aside 512 256 itself 1 new s.keys (inl (omega (arith)));
      };
      logs = λ m k. table_log words now 1 new m s chains h st (omega arith) (λ e. absurd (omega (arith, e))) k;
      no_more = h.reads.no_more;
      merged = h.merged;
      index = refl;
      space = space;
      cell_space = h.cell_space;
      overflow = h.overflow;
    }) h

pub segment_claim : (words : List ℕ) (chains : ℕ → List ℕ) (s : StoreState) (n : ℕ) → Represents words chains s → s.segment_count < s.pool
    → Represents (slice_set words segment_counter_at (s.segment_count + 1)) chains (claimed s n)
segment_claim words chains s n h lt =
    let old = h.space.claimed in
    segments_counted words chains s (with_at s.holders s.segment_count n) h (record {
      claimed = λ g. at_by (λ x. 0 < x → (g < s.segment_count + 1) × (g < s.pool)) s.holders s.segment_count n g
          (λ e pos. (omega (arith, e), omega (arith, e, lt))) (λ d pos. (omega (arith, (old g pos).0), (old g pos).1));
      named = λ m q g l ql e.
          let own = h.space.named m q g l ql e in
          at_other s.holders s.segment_count n g (λ same. absurd (omega (arith, same, (old g (omega (arith, own, l.positive))).0))) ∙ own;
      once = h.space.once;
    })

pub segment_miss : (words : List ℕ) (chains : ℕ → List ℕ) (s : StoreState) → Represents words chains s → Represents (slice_set words segment_counter_at (s.segment_count + 1)) chains (segment_wanted s)
segment_miss words chains s h = segments_counted words chains s s.holders h (record {
  claimed = λ g pos. (omega (arith, (h.space.claimed g pos).0), (h.space.claimed g pos).1);
  named = h.space.named;
  once = h.space.once;
})

-- ---- an add to the counter of cells
cells_counted : (words : List ℕ) (chains : ℕ → List ℕ) (s : StoreState) (holders : ℕ → ℕ) → Represents words chains s → IsCellSpace s.cells s.keys (s.cell_count + 1) holders
    → Represents (slice_set words 2 (s.cell_count + 1)) chains (record s { cell_count = s.cell_count + 1; cell_holders = holders })
cells_counted words chains s holders h space =
    let new : ℕ = s.cell_count + 1 in
    let now : List ℕ = slice_set words 2 new in
    let st = is_stored words 2 new (within words s 2 h.table (omega arith)) in
    table_changed words now chains s (record s { cell_count = new; cell_holders = holders }) 2 new (record {
      stored = st;
      low = omega arith;
      used = used_counter 2 (omega arith);
      turned = record {
        pool = refl;
        format = λ e. absurd (omega (arith, e));
        segment_count = one_aside 1 2 new s.segment_count (λ e. absurd (omega (arith, e)));
        cell_count = one_inside 2 new s.cell_count;
        bucket_count = one_aside 3 2 new s.bucket_count (λ e. absurd (omega (arith, e)));
        gates = aside 64 64 gate_of 2 new s.gates (inl (omega (arith)));
        marks = aside 128 64 itself 2 new s.marks (inl (omega (arith)));
        deeds = aside 192 64 deed_of 2 new s.deeds (inl (omega (arith)));
        cells = aside 256 256 itself 2 new s.cells (inl (omega (arith)));
        keys = aside 512 256 itself 2 new s.keys (inl (omega (arith)));
      };
      logs = λ m k. table_log words now 2 new m s chains h st (omega arith) (λ e. absurd (omega (arith, e))) k;
      no_more = h.reads.no_more;
      merged = h.merged;
      index = refl;
      space = h.space;
      cell_space = space;
      overflow = h.overflow;
    }) h

pub cell_claim : (words : List ℕ) (chains : ℕ → List ℕ) (s : StoreState) (n : ℕ) → Represents words chains s → s.cell_count < 256
    → Represents (slice_set words cell_counter_at (s.cell_count + 1)) chains (cell_claimed s n)
cell_claim words chains s n h lt =
    let old = h.cell_space.claimed in
    cells_counted words chains s (with_at s.cell_holders s.cell_count n) h (record {
      claimed = λ j. at_by (λ x. 0 < x → (j < s.cell_count + 1) × (j < 256)) s.cell_holders s.cell_count n j
          (λ e pos. (omega (arith, e), omega (arith, e, lt))) (λ d pos. (omega (arith, (old j pos).0), (old j pos).1));
      zero = λ j le. h.cell_space.zero j (omega (arith, le));
      no_key = λ j le. h.cell_space.no_key j (omega (arith, le));
    })

pub cell_miss : (words : List ℕ) (chains : ℕ → List ℕ) (s : StoreState) → Represents words chains s → Represents (slice_set words cell_counter_at (s.cell_count + 1)) chains (cell_wanted s)
cell_miss words chains s h = cells_counted words chains s s.cell_holders h (record {
  claimed = λ j pos. (omega (arith, (h.cell_space.claimed j pos).0), (h.cell_space.claimed j pos).1);
  zero = λ j le. h.cell_space.zero j (omega (arith, le));
  no_key = λ j le. h.cell_space.no_key j (omega (arith, le));
})

-- ---- an add to the counter of overflow buckets
buckets_counted : (words : List ℕ) (chains : ℕ → List ℕ) (s : StoreState) (takers : ℕ → ℕ) → Represents words chains s → IsOverflow words chains (s.bucket_count + 1) takers
    → Represents (slice_set words 3 (s.bucket_count + 1)) chains (record s { bucket_count = s.bucket_count + 1; takers = takers })
buckets_counted words chains s takers h over =
    let new : ℕ = s.bucket_count + 1 in
    let now : List ℕ = slice_set words 3 new in
    let st = is_stored words 3 new (within words s 3 h.table (omega arith)) in
    table_changed words now chains s (record s { bucket_count = new; takers = takers }) 3 new (record {
      stored = st;
      low = omega arith;
      used = used_counter 3 (omega arith);
      turned = record {
        pool = refl;
        format = λ e. absurd (omega (arith, e));
        segment_count = one_aside 1 3 new s.segment_count (λ e. absurd (omega (arith, e)));
        cell_count = one_aside 2 3 new s.cell_count (λ e. absurd (omega (arith, e)));
        bucket_count = one_inside 3 new s.bucket_count;
        gates = aside 64 64 gate_of 3 new s.gates (inl (omega (arith)));
        marks = aside 128 64 itself 3 new s.marks (inl (omega (arith)));
        deeds = aside 192 64 deed_of 3 new s.deeds (inl (omega (arith)));
        cells = aside 256 256 itself 3 new s.cells (inl (omega (arith)));
        keys = aside 512 256 itself 3 new s.keys (inl (omega (arith)));
      };
      logs = λ m k. table_log words now 3 new m s chains h st (omega arith) (λ e. absurd (omega (arith, e))) k;
      no_more = h.reads.no_more;
      merged = h.merged;
      index = refl;
      space = h.space;
      cell_space = h.cell_space;
      overflow = over;
    }) h

pub bucket_claim : (words : List ℕ) (chains : ℕ → List ℕ) (s : StoreState) (n : ℕ) → Represents words chains s → s.bucket_count < 4096
    → Represents (slice_set words overflow_counter_at (s.bucket_count + 1)) chains (bucket_claimed s n)
bucket_claim words chains s n h lt =
    let o = h.overflow in
    let next : ℕ = 4096 + s.bucket_count in
    let fresh : (h2 : ℕ) → h2 < 4096 → Contains (chains h2) next → ⊥ = λ h2 l m. (let c = o.claimed h2 next l m in absurd (omega (arith, c))) in
    buckets_counted words chains s (with_at s.takers next n) h (record {
      claimed = λ g c gl m. omega (arith, o.claimed g c gl m);
      rise = o.rise;
      taken = λ c. at_by (λ x. 0 < x → (4096 ≤ c) × (c < 4096 + (s.bucket_count + 1)) × (c < 8192)) s.takers next n c
          (λ e pos. (omega (arith, e), omega (arith, e), omega (arith, e, lt))) (λ d pos. let t = o.taken c pos in (t.0, omega (arith, t.1), t.2));
      loose = λ c g. at_by (λ x. 0 < x → g < 4096 → Contains (chains g) c → ⊥) s.takers next n c
          (λ e pos gl m. let P : ℕ → Type 0 = λ x. Contains (chains g) x in fresh g gl (subst P e m)) (λ d. o.loose c g);
      untouched = λ c i le. o.untouched c i (omega (arith, le));
      new = λ c i. at_by (λ x. 0 < x → i < 8 → i ≢ 1 → i ≢ 4 → bucket words c i ≡ 0) s.takers next n c
          (λ e pos il one four. o.untouched c i (omega (arith, e)) (omega (arith, e, lt)) il) (λ d. o.new c i);
    })

pub bucket_miss : (words : List ℕ) (chains : ℕ → List ℕ) (s : StoreState) → Represents words chains s → Represents (slice_set words overflow_counter_at (s.bucket_count + 1)) chains (bucket_wanted s)
bucket_miss words chains s h =
    let o = h.overflow in
    buckets_counted words chains s s.takers h (record {
      claimed = λ g c gl m. omega (arith, o.claimed g c gl m);
      rise = o.rise;
      taken = λ c pos. let t = o.taken c pos in (t.0, omega (arith, t.1), t.2);
      loose = o.loose;
      untouched = λ c i le. o.untouched c i (omega (arith, le));
      new = o.new;
    })

-- ---- the word and the key word of a cell that was claimed
pub cell_stored : (words : List ℕ) (chains : ℕ → List ℕ) (s : StoreState) (j new : ℕ) → Represents words chains s → j < 256 → j < s.cell_count
    → Represents (slice_set words (cell_at j) new) chains (celled s j new)
cell_stored words chains s j new h lt claimed =
    let now : List ℕ = slice_set words (cell_at j) new in
    let st = is_stored words (cell_at j) new (within words s (cell_at j) h.table (omega (arith, lt))) in
    table_changed words now chains s (celled s j new) (cell_at j) new (record {
      stored = st;
      low = omega (arith, lt);
      used = used_lane (cell_at j) (omega arith) (omega (arith, lt)) (λ e. absurd (omega (arith, e)));
      turned = record {
        pool = refl;
        format = λ e. absurd (omega (arith, e));
        segment_count = one_aside 1 (cell_at j) new s.segment_count (λ e. absurd (omega (arith, e)));
        cell_count = one_aside 2 (cell_at j) new s.cell_count (λ e. absurd (omega (arith, e)));
        bucket_count = one_aside 3 (cell_at j) new s.bucket_count (λ e. absurd (omega (arith, e)));
        gates = aside 64 64 gate_of (cell_at j) new s.gates (inr (omega (arith, lt)));
        marks = aside 128 64 itself (cell_at j) new s.marks (inr (omega (arith, lt)));
        deeds = aside 192 64 deed_of (cell_at j) new s.deeds (inr (omega (arith, lt)));
        cells = inside 256 256 itself j new s.cells;
        keys = aside 512 256 itself (cell_at j) new s.keys (inl (omega (arith, lt)));
      };
      logs = λ m k. table_log words now (cell_at j) new m s chains h st (omega (arith, lt)) (λ e. absurd (omega (arith, e, k.below))) k;
      no_more = h.reads.no_more;
      merged = h.merged;
      index = refl;
      space = h.space;
      cell_space = record {
        claimed = h.cell_space.claimed;
        zero = λ i le il. at_other s.cells j new i (λ e. absurd (omega (arith, e, le, claimed))) ∙ h.cell_space.zero i le il;
        no_key = h.cell_space.no_key;
      };
      overflow = h.overflow;
    }) h

pub key_word_stored : (words : List ℕ) (chains : ℕ → List ℕ) (s : StoreState) (j k : ℕ) → Represents words chains s → j < 256 → j < s.cell_count
    → Represents (slice_set words (cell_key_at j) k) chains (cell_keyed s j k)
key_word_stored words chains s j k h lt claimed =
    let now : List ℕ = slice_set words (cell_key_at j) k in
    let st = is_stored words (cell_key_at j) k (within words s (cell_key_at j) h.table (omega (arith, lt))) in
    table_changed words now chains s (cell_keyed s j k) (cell_key_at j) k (record {
      stored = st;
      low = omega (arith, lt);
      used = used_lane (cell_key_at j) (omega arith) (omega (arith, lt)) (λ e. absurd (omega (arith, e)));
      turned = record {
        pool = refl;
        format = λ e. absurd (omega (arith, e));
        segment_count = one_aside 1 (cell_key_at j) k s.segment_count (λ e. absurd (omega (arith, e)));
        cell_count = one_aside 2 (cell_key_at j) k s.cell_count (λ e. absurd (omega (arith, e)));
        bucket_count = one_aside 3 (cell_key_at j) k s.bucket_count (λ e. absurd (omega (arith, e)));
        gates = aside 64 64 gate_of (cell_key_at j) k s.gates (inr (omega (arith, lt)));
        marks = aside 128 64 itself (cell_key_at j) k s.marks (inr (omega (arith, lt)));
        deeds = aside 192 64 deed_of (cell_key_at j) k s.deeds (inr (omega (arith, lt)));
        cells = aside 256 256 itself (cell_key_at j) k s.cells (inr (omega (arith, lt)));
        keys = inside 512 256 itself j k s.keys;
      };
      logs = λ m l. table_log words now (cell_key_at j) k m s chains h st (omega (arith, lt)) (λ e. absurd (omega (arith, e, l.below))) l;
      no_more = h.reads.no_more;
      merged = h.merged;
      index = refl;
      space = h.space;
      cell_space = record {
        claimed = h.cell_space.claimed;
        zero = h.cell_space.zero;
        no_key = λ i le il. at_other s.keys j k i (λ e. absurd (omega (arith, e, le, claimed))) ∙ h.cell_space.no_key i le il;
      };
      overflow = h.overflow;
    }) h
