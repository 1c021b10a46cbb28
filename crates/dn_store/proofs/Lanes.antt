use Rattle.std.proofs.Common.{ℕ, ◌<◌, ◌≡◌, inl, inr, List, [], ◌++◌, refl, sym, ap, subst, arith, slice_set, length}
use Rattle.std.proofs.Common.{append-nil}
use Rattle.std.proofs.lemmas.Bool.{cases_eq}
use Rattle.dn_word.specs.Gate.{gate_of}
use Rattle.dn_word.specs.Deed.{deed_of}
use Rattle.dn_word.specs.declared.packed.gate.Gate.{Gate}
use Rattle.dn_model.specs.Regions.{gate_at, mark_at, deed_at, offsets, IsLane}
use Rattle.dn_model.specs.declared.logs.Placed.{Placed}
use Rattle.dn_model.specs.Log.{Tiles, IsCovered, IsLog}
use Rattle.dn_model.proofs.LogLaws.{log_sealed}
use Rattle.dn_store.specs.State.{StoreState, with_at}
use Rattle.dn_store.specs.Changes.{sealed, gated, marked, deeded}
use Rattle.dn_store.specs.Cut.{IsCut}
use Rattle.dn_store.specs.Represents.{Represents}
use Rattle.dn_store.proofs.At.{at_by}
use Rattle.dn_store.proofs.Stores.{is_stored, aside, inside}
use Rattle.dn_store.proofs.Frames.{cut_more}
use Rattle.dn_store.proofs.Unused.{used_lane}
use Rattle.dn_store.proofs.Tables.{itself, one_aside, table_changed, table_log}

-- The words of lanes and slots: a gate, a mark, a deed.

within : (words : List ℕ) (chains : ℕ → List ℕ) (s : StoreState) (at : ℕ) → Represents words chains s → at < 98304 → at < length words
within words chains s at h lt = let size = h.table.size in omega (arith, size, lt)

-- ---- a gate is exchanged, and its lane's log is this one then
gate_changes : (words : List ℕ) (chains : ℕ → List ℕ) (s : StoreState) (n new : ℕ) (log : List Placed) → Represents words chains s → IsLane n → IsLog (slice_set words (gate_at n) new) n log → IsCut log (s.marks n)
    → Represents (slice_set words (gate_at n) new) chains (record s { gates = with_at s.gates n (gate_of new); logs = with_at s.logs n log })
gate_changes words chains s n new log h l own cut =
    let now : List ℕ = slice_set words (gate_at n) new in
    let st = is_stored words (gate_at n) new (within words chains s (gate_at n) h (omega (arith, l.below))) in
    table_changed words now chains s (record s { gates = with_at s.gates n (gate_of new); logs = with_at s.logs n log }) (gate_at n) new (record {
      stored = st;
      low = omega (arith, l.below);
      used = used_lane (gate_at n) (omega (arith, l.positive)) (omega (arith, l.below)) (λ e. absurd (omega (arith, e, l.below)));
      turned = record {
        pool = refl;
        format = λ e. absurd (omega (arith, e));
        segment_count = one_aside 1 (gate_at n) new s.segment_count (λ e. absurd (omega (arith, e)));
        cell_count = one_aside 2 (gate_at n) new s.cell_count (λ e. absurd (omega (arith, e)));
        bucket_count = one_aside 3 (gate_at n) new s.bucket_count (λ e. absurd (omega (arith, e)));
        gates = inside 64 64 gate_of n new s.gates;
        marks = aside 128 64 itself (gate_at n) new s.marks (inl (omega (arith, l.below)));
        deeds = aside 192 64 deed_of (gate_at n) new s.deeds (inl (omega (arith, l.below)));
        cells = aside 256 256 itself (gate_at n) new s.cells (inl (omega (arith, l.below)));
        keys = aside 512 256 itself (gate_at n) new s.keys (inl (omega (arith, l.below)));
      };
      logs = λ m k. at_by (λ xs. IsLog now m xs) s.logs n log m
          (λ e. let P : ℕ → Type 0 = λ x. IsLog now x log in subst P (sym e) own)
          (λ d. table_log words now (gate_at n) new m s chains h st (omega (arith, l.below)) (λ e. d (omega (arith, e))) k);
      no_more = λ m k. at_by (λ xs. xs ≡ []) s.logs n log m (λ e. let P : ℕ → Type 0 = λ x. IsLane x in absurd (k (subst P (sym e) l))) (λ d. h.reads.no_more m k);
      merged = λ m. at_by (λ xs. IsCut xs (s.marks m)) s.logs n log m (λ e. let P : ℕ → Type 0 = λ x. IsCut log (s.marks x) in subst P (sym e) cut) (λ d. h.merged m);
      index = refl;
      space = h.space;
      cell_space = h.cell_space;
      overflow = h.overflow;
    }) h

gate_within : (words : List ℕ) (chains : ℕ → List ℕ) (s : StoreState) (n : ℕ) → Represents words chains s → IsLane n → gate_at n < length words
gate_within words chains s n h l = within words chains s (gate_at n) h (omega (arith, l.below))

-- records that stand behind the length are sealed
pub seal : (words : List ℕ) (chains : ℕ → List ℕ) (s : StoreState) (n new : ℕ) (more : List Placed) → Represents words chains s → IsLane n
    → Tiles (offsets words n) (s.gates n).len more (gate_of new).len → IsCovered words n (gate_of new).len → Represents (slice_set words (gate_at n) new) chains (sealed s n (gate_of new) more)
seal words chains s n new more h l tiles covered =
    let P : ℕ → Type 0 = λ x. Tiles (offsets words n) x more (gate_of new).len in
    gate_changes words chains s n new (s.logs n ++ more) h l
    (log_sealed words n new (s.logs n) more (gate_within words chains s n h l) l.below (h.reads.logs_are n l) (subst P (sym (ap (λ (g : Gate). g.len) (h.table.gates n l.below))) tiles) covered)
    (cut_more (s.logs n) more (s.marks n) (h.merged n))

-- or none, and the length stays
pub regate : (words : List ℕ) (chains : ℕ → List ℕ) (s : StoreState) (n new : ℕ) → Represents words chains s → IsLane n → (gate_of new).len ≡ (s.gates n).len
    → Represents (slice_set words (gate_at n) new) chains (gated s n (gate_of new))
regate words chains s n new h l e =
    let was = h.reads.logs_are n l in
    let len = ap (λ (g : Gate). g.len) (h.table.gates n l.below) in
    let now : List ℕ = slice_set words (gate_at n) new in
    let st = is_stored words (gate_at n) new (gate_within words chains s n h l) in
    let P : List Placed → Type 0 = λ x. IsLog now n x in
    let own : IsLog now n (s.logs n) = subst P (append-nil (s.logs n)) (log_sealed words n new (s.logs n) [] (gate_within words chains s n h l) l.below was (omega (arith, len, e)) (λ o lt. was.covered o (omega (arith, len, e, lt)))) in
    table_changed words now chains s (gated s n (gate_of new)) (gate_at n) new (record {
      stored = st;
      low = omega (arith, l.below);
      used = used_lane (gate_at n) (omega (arith, l.positive)) (omega (arith, l.below)) (λ e. absurd (omega (arith, e, l.below)));
      turned = record {
        pool = refl;
        format = λ e. absurd (omega (arith, e));
        segment_count = one_aside 1 (gate_at n) new s.segment_count (λ e. absurd (omega (arith, e)));
        cell_count = one_aside 2 (gate_at n) new s.cell_count (λ e. absurd (omega (arith, e)));
        bucket_count = one_aside 3 (gate_at n) new s.bucket_count (λ e. absurd (omega (arith, e)));
        gates = inside 64 64 gate_of n new s.gates;
        marks = aside 128 64 itself (gate_at n) new s.marks (inl (omega (arith, l.below)));
        deeds = aside 192 64 deed_of (gate_at n) new s.deeds (inl (omega (arith, l.below)));
        cells = aside 256 256 itself (gate_at n) new s.cells (inl (omega (arith, l.below)));
        keys = aside 512 256 itself (gate_at n) new s.keys (inl (omega (arith, l.below)));
      };
      logs = λ m k. elim (cases_eq m n) [
        | inl e ↦ (let Q : ℕ → Type 0 = λ x. IsLog now x (s.logs x) in subst Q (sym e) own)
        | inr d ↦ table_log words now (gate_at n) new m s chains h st (omega (arith, l.below)) (λ e. d (omega (arith, e))) k
      ];
      no_more = h.reads.no_more;
      merged = h.merged;
      index = refl;
      space = h.space;
      cell_space = h.cell_space;
      overflow = h.overflow;
    }) h

-- ---- a mark is stored
pub mark_stored : (words : List ℕ) (chains : ℕ → List ℕ) (s : StoreState) (n new : ℕ) → Represents words chains s → IsLane n → IsCut (s.logs n) new → Represents (slice_set words (mark_at n) new) chains (marked s n new)
mark_stored words chains s n new h l cut =
    let now : List ℕ = slice_set words (mark_at n) new in
    let st = is_stored words (mark_at n) new (within words chains s (mark_at n) h (omega (arith, l.below))) in
    table_changed words now chains s (marked s n new) (mark_at n) new (record {
      stored = st;
      low = omega (arith, l.below);
      used = used_lane (mark_at n) (omega arith) (omega (arith, l.below)) (λ e. absurd (omega (arith, e, l.positive)));
      turned = record {
        pool = refl;
        format = λ e. absurd (omega (arith, e));
        segment_count = one_aside 1 (mark_at n) new s.segment_count (λ e. absurd (omega (arith, e)));
        cell_count = one_aside 2 (mark_at n) new s.cell_count (λ e. absurd (omega (arith, e)));
        bucket_count = one_aside 3 (mark_at n) new s.bucket_count (λ e. absurd (omega (arith, e)));
        gates = aside 64 64 gate_of (mark_at n) new s.gates (inr (omega (arith, l.below)));
        marks = inside 128 64 itself n new s.marks;
        deeds = aside 192 64 deed_of (mark_at n) new s.deeds (inl (omega (arith, l.below)));
        cells = aside 256 256 itself (mark_at n) new s.cells (inl (omega (arith, l.below)));
        keys = aside 512 256 itself (mark_at n) new s.keys (inl (omega (arith, l.below)));
      };
      logs = λ m k. table_log words now (mark_at n) new m s chains h st (omega (arith, l.below)) (λ e. absurd (omega (arith, e, k.below))) k;
      no_more = h.reads.no_more;
      merged = λ m. at_by (λ x. IsCut (s.logs m) x) s.marks n new m (λ e. let P : ℕ → Type 0 = λ x. IsCut (s.logs x) new in subst P (sym e) cut) (λ d. h.merged m);
      index = refl;
      space = h.space;
      cell_space = h.cell_space;
      overflow = h.overflow;
    }) h

-- ---- a deed is exchanged
pub deed_exchanged : (words : List ℕ) (chains : ℕ → List ℕ) (s : StoreState) (t new : ℕ) → Represents words chains s → t < 64 → Represents (slice_set words (deed_at t) new) chains (deeded s t (deed_of new))
deed_exchanged words chains s t new h lt =
    let now : List ℕ = slice_set words (deed_at t) new in
    let st = is_stored words (deed_at t) new (within words chains s (deed_at t) h (omega (arith, lt))) in
    table_changed words now chains s (deeded s t (deed_of new)) (deed_at t) new (record {
      stored = st;
      low = omega (arith, lt);
      used = used_lane (deed_at t) (omega arith) (omega (arith, lt)) (λ e. absurd (omega (arith, e)));
      turned = record {
        pool = refl;
        format = λ e. absurd (omega (arith, e));
        segment_count = one_aside 1 (deed_at t) new s.segment_count (λ e. absurd (omega (arith, e)));
        cell_count = one_aside 2 (deed_at t) new s.cell_count (λ e. absurd (omega (arith, e)));
        bucket_count = one_aside 3 (deed_at t) new s.bucket_count (λ e. absurd (omega (arith, e)));
        gates = aside 64 64 gate_of (deed_at t) new s.gates (inr (omega (arith, lt)));
        marks = aside 128 64 itself (deed_at t) new s.marks (inr (omega (arith, lt)));
        deeds = inside 192 64 deed_of t new s.deeds;
        cells = aside 256 256 itself (deed_at t) new s.cells (inl (omega (arith, lt)));
        keys = aside 512 256 itself (deed_at t) new s.keys (inl (omega (arith, lt)));
      };
      logs = λ m k. table_log words now (deed_at t) new m s chains h st (omega (arith, lt)) (λ e. absurd (omega (arith, e, k.below))) k;
      no_more = h.reads.no_more;
      merged = h.merged;
      index = refl;
      space = h.space;
      cell_space = h.cell_space;
      overflow = h.overflow;
    }) h
