use Rattle.std.proofs.Common.{ℕ, ◌+◌, ◌<◌, ◌≡◌, ◌⊎◌, inl, inr, List, Option, Some, None, refl, sym, ◌∙◌, ap, subst, arith, slice_set}
use Rattle.std.proofs.lemmas.Bool.{cases_eq}
use Rattle.dn_act.specs.Words.{word_at}
use Rattle.dn_model.specs.Regions.{directory_at, bucket, bucket_at, home_of}
use Rattle.dn_model.specs.Index.{IsChain}
use Rattle.dn_model.proofs.HashLaws.{home_below}
use Rattle.dn_store.specs.State.{StoreState, with_at}
use Rattle.dn_store.specs.Changes.{indexed}
use Rattle.dn_store.specs.Standing.{InChain, IsPlaceOf, IsIndexed}
use Rattle.dn_store.specs.Overflow.{IsOverflow}
use Rattle.dn_store.specs.Represents.{Represents}
use Rattle.dn_store.proofs.Stores.{IsStored, is_stored}
use Rattle.dn_store.proofs.Frames.{first_or_behind, log_stays, chain_stays, space_stays, overflow_stays}
use Rattle.dn_store.proofs.Standings.{IsShaped, stored_shape, index_stays, index_changes, key_stays, place_stays, loose_stays, only_place, stands_none}
use Rattle.dn_store.proofs.Unused.{unused_stays, used_bucket}
use Rattle.dn_store.proofs.Tables.{table_beside}

-- A word of a bucket is stored.

-- ---- of the store, index, chains and buckets alone may change
pub bucket_word : (words now : List ℕ) (chains after : ℕ → List ℕ) (s : StoreState) (b w new : ℕ) (index : ℕ → Option ℕ) (takers : ℕ → ℕ) → Represents words chains s → b < 8192 → 0 < w → w < 8
    → IsStored words now (bucket_at b w) new → ((home : ℕ) → home < 4096 → IsChain now home (after home)) → IsIndexed now after index → IsOverflow now after s.bucket_count takers
    → Represents now after (record s { index = index; takers = takers })
bucket_word words now chains after s b w new index takers h bl lo wl st leads i o =
    let at : ℕ = bucket_at b w in
    record {
      table = table_beside words now s index takers at new st (omega arith) h.table;
      unused = unused_stays words now at new st (used_bucket b w lo wl) h.unused;
      reads = record {
        logs_are = λ n l. log_stays words now at new n (s.logs n) st (λ e. absurd (omega (arith, e, l.below))) (λ q lt _ e. absurd (omega (arith, e, lt, l.below)))
            (λ o lt pos e. absurd (omega (arith, e, pos, bl, wl))) (h.reads.logs_are n l);
        no_more = h.reads.no_more;
        chains_are = leads;
      };
      merged = h.merged;
      space = space_stays words now s.pool s.segment_count s.holders (λ n q l lt. st.other (directory_at n q) (λ e. absurd (omega (arith, e, lt, l.below)))) h.space;
      cell_space = h.cell_space;
      indexed = i;
      overflow = o;
    }

pub bucket_stored : (words : List ℕ) (chains : ℕ → List ℕ) (s : StoreState) (b w new : ℕ) → Represents words chains s → b < 8192 → w < 8 → IsStored words (slice_set words (bucket_at b w) new) (bucket_at b w) new
bucket_stored words chains s b w new h bl wl = let size = h.table.size in is_stored words (bucket_at b w) new (omega (arith, size, bl, wl))

-- ---- a key word or a place word: the chains stay
slot_word : (words : List ℕ) (chains : ℕ → List ℕ) (s : StoreState) (b w new : ℕ) (index : ℕ → Option ℕ) → Represents words chains s → b < 8192 → 0 < w → w < 7
    → IsIndexed (slice_set words (bucket_at b w) new) chains index → IsOverflow (slice_set words (bucket_at b w) new) chains s.bucket_count s.takers
    → Represents (slice_set words (bucket_at b w) new) chains (record s { index = index; takers = s.takers })
slot_word words chains s b w new index h bl lo wl =
    let st = bucket_stored words chains s b w new h bl (omega (arith, wl)) in
    bucket_word words (slice_set words (bucket_at b w) new) chains chains s b w new index s.takers h bl lo (omega (arith, wl)) st
    (λ home lt. chain_stays words (slice_set words (bucket_at b w) new) home (chains home) (λ c _. st.other (bucket_at c 7) (λ e. absurd (omega (arith, e, wl)))) (h.reads.chains_are home lt))

-- a bucket of a chain was claimed, and no merger has it as its own
pub in_chain_claimed : (words : List ℕ) (chains : ℕ → List ℕ) (count : ℕ) (takers : ℕ → ℕ) (home b : ℕ) → IsOverflow words chains count takers → home < 4096 → InChain chains home b → b < 4096 + count
in_chain_claimed words chains count takers home b o lt m = elim (first_or_behind home (chains home) b m) [
  | inl e ↦ omega (arith, e, lt)
  | inr n ↦ o.claimed home b lt n
]

pub taken_in_none : (words : List ℕ) (chains : ℕ → List ℕ) (count : ℕ) (takers : ℕ → ℕ) (home b : ℕ) → IsOverflow words chains count takers → 0 < takers b → home < 4096 → InChain chains home b → ⊥
taken_in_none words chains count takers home b o pos lt m = elim (first_or_behind home (chains home) b m) [
  | inl e ↦ (let t = o.taken b pos in absurd (omega (arith, e, lt, t.0)))
  | inr n ↦ o.loose b home pos lt n
]

-- the overflow buckets, where a word of a claimed one is stored: of a merger's own its first key or its place
overflow_stored : (words now : List ℕ) (chains : ℕ → List ℕ) (count : ℕ) (takers : ℕ → ℕ) (b w new : ℕ) → w < 8 → IsStored words now (bucket_at b w) new → b < 4096 + count → (0 < takers b → (w ≡ 1) ⊎ (w ≡ 4))
    → IsOverflow words chains count takers → IsOverflow now chains count takers
overflow_stored words now chains count takers b w new wl st claimed own = overflow_stays words now chains count takers
    (λ c i le lt il. st.other (bucket_at c i) (λ e. absurd (omega (arith, e, il, wl, le, claimed))))
    (λ c i pos il one four. st.other (bucket_at c i) (λ e.
    let same : c ≡ b = omega (arith, e, il, wl) in
    let P : ℕ → Type 0 = λ x. 0 < takers x in
    elim (own (subst P same pos)) [ inl x ↦ one (omega (arith, e, same, x)) | inr x ↦ four (omega (arith, e, same, x)) ]))

place_overflow : (words : List ℕ) (chains : ℕ → List ℕ) (s : StoreState) (k b i w new : ℕ) → Represents words chains s → IsPlaceOf chains k b i → w < 8 → IsOverflow (slice_set words (bucket_at b w) new) chains s.bucket_count s.takers
place_overflow words chains s k b i w new h at wl =
    let hl = home_below k in
    let bl = h.indexed.below (home_of k) b hl at.has in
    overflow_stored words (slice_set words (bucket_at b w) new) chains s.bucket_count s.takers b w new wl (bucket_stored words chains s b w new h bl wl)
    (in_chain_claimed words chains s.bucket_count s.takers (home_of k) b h.overflow hl at.has)
    (λ pos. absurd (taken_in_none words chains s.bucket_count s.takers (home_of k) b h.overflow pos hl at.has)) h.overflow

-- no key is stored with a place word
place_shape : (words now : List ℕ) (chains : ℕ → List ℕ) (index : ℕ → Option ℕ) (b i new : ℕ) → i < 3 → IsIndexed words chains index → IsStored words now (bucket_at b (i + 4)) new → IsShaped now chains
place_shape words now chains index b i new il x st = stored_shape words now chains index (bucket_at b (i + 4)) new x st (λ home c j _ _ jl e _. absurd (omega (arith, e, il, jl)))

-- ---- the place word of a free place: nothing changes
pub place_filled : (words : List ℕ) (chains : ℕ → List ℕ) (s : StoreState) (k b i new : ℕ) → Represents words chains s → IsPlaceOf chains k b i → bucket words b (i + 1) ≡ 0
    → Represents (slice_set words (bucket_at b (i + 4)) new) chains s
place_filled words chains s k b i new h at free =
    let il : i < 3 = at.three in
    let bl = h.indexed.below (home_of k) b (home_below k) at.has in
    let st = bucket_stored words chains s b (i + 4) new h bl (omega (arith, il)) in
    let now : List ℕ = slice_set words (bucket_at b (i + 4)) new in
    slot_word words chains s b (i + 4) new s.index h bl (omega arith) (omega (arith, il))
    (index_stays words now chains chains s.index h.indexed (place_shape words now chains s.index b i new il h.indexed st)
    (λ q pos. place_stays words now chains b i new q il st (λ e. absurd (omega (arith, e, free, pos)))))
    (place_overflow words chains s k b i (i + 4) new h at (omega (arith, il)))

-- ---- the place word beside a key: the index gives it for the key
pub place_replaced : (words : List ℕ) (chains : ℕ → List ℕ) (s : StoreState) (k b i new : ℕ) → Represents words chains s → 0 < k → IsPlaceOf chains k b i → bucket words b (i + 1) ≡ k
    → Represents (slice_set words (bucket_at b (i + 4)) new) chains (indexed s k (Some new))
place_replaced words chains s k b i new h kp at is =
    let il : i < 3 = at.three in
    let bl = h.indexed.below (home_of k) b (home_below k) at.has in
    let st = bucket_stored words chains s b (i + 4) new h bl (omega (arith, il)) in
    let now : List ℕ = slice_set words (bucket_at b (i + 4)) new in
    let key : (c j : ℕ) → j < 3 → bucket now c (j + 1) ≡ bucket words c (j + 1) = λ c j jl. st.other (bucket_at c (j + 1)) (λ e. absurd (omega (arith, e, il, jl))) in
    slot_word words chains s b (i + 4) new (with_at s.index k (Some new)) h bl (omega arith) (omega (arith, il))
    (index_changes words now chains chains s.index k (Some new) h.indexed (place_shape words now chains s.index b i new il h.indexed st)
    (λ q pos d. place_stays words now chains b i new q il st (λ e. d (sym e ∙ is)))
    (record {
      b = b;
      i = i;
      place = at;
      key = key b i il ∙ is;
      word = st.here;
      only = λ c j p e. only_place words chains s.index k b i c j h.indexed kp at is p (sym (key c j p.three) ∙ e);
    }))
    (place_overflow words chains s k b i (i + 4) new h at (omega (arith, il)))

-- ---- the key word of a free place, for a key that stands nowhere: the index gives the place word there
pub key_stored : (words : List ℕ) (chains : ℕ → List ℕ) (s : StoreState) (k b i : ℕ) → Represents words chains s → 0 < k → IsPlaceOf chains k b i → bucket words b (i + 1) ≡ 0 → s.index k ≡ None
    → Represents (slice_set words (bucket_at b (i + 1)) k) chains (indexed s k (Some (bucket words b (i + 4))))
key_stored words chains s k b i h kp at free absent =
    let il : i < 3 = at.three in
    let hl = home_below k in
    let bl = h.indexed.below (home_of k) b hl at.has in
    let st = bucket_stored words chains s b (i + 1) k h bl (omega (arith, il)) in
    let now : List ℕ = slice_set words (bucket_at b (i + 1)) k in
    slot_word words chains s b (i + 1) k (with_at s.index k (Some (bucket words b (i + 4)))) h bl (omega arith) (omega (arith, il))
    (index_changes words now chains chains s.index k (Some (bucket words b (i + 4))) h.indexed
    (stored_shape words now chains s.index (bucket_at b (i + 1)) k h.indexed st (λ home c j lt m jl e _.
    let same : c ≡ b = omega (arith, e, il, jl) in
    let P : ℕ → Type 0 = λ x. InChain chains home x in
    h.indexed.apart (home_of k) home b hl lt at.has (subst P same m)))
    (λ q pos d. key_stays words now chains b i k q il st (λ e. absurd (omega (arith, e, free, pos))) (λ e. d (sym e)))
    (record {
      b = b;
      i = i;
      place = at;
      key = st.here;
      word = st.other (bucket_at b (i + 4)) (λ e. absurd (omega (arith, e)));
      only = λ c j p e. elim (cases_eq (bucket_at c (j + 1)) (bucket_at b (i + 1))) [
        | inl f ↦ (let jl = p.three in (omega (arith, f, il, jl), omega (arith, f, il, jl)))
        | inr d ↦ absurd (stands_none words chains s.index k c j h.indexed kp absent p (sym (st.other (bucket_at c (j + 1)) d) ∙ e))
      ];
    }))
    (place_overflow words chains s k b i (i + 1) k h at (omega (arith, il)))

-- ---- 0 in the key word of a key's place: the index gives nothing for the key
pub key_cleared : (words : List ℕ) (chains : ℕ → List ℕ) (s : StoreState) (k b i : ℕ) → Represents words chains s → 0 < k → IsPlaceOf chains k b i → bucket words b (i + 1) ≡ k
    → Represents (slice_set words (bucket_at b (i + 1)) 0) chains (indexed s k None)
key_cleared words chains s k b i h kp at is =
    let il : i < 3 = at.three in
    let bl = h.indexed.below (home_of k) b (home_below k) at.has in
    let st = bucket_stored words chains s b (i + 1) 0 h bl (omega (arith, il)) in
    let now : List ℕ = slice_set words (bucket_at b (i + 1)) 0 in
    slot_word words chains s b (i + 1) 0 (with_at s.index k None) h bl (omega arith) (omega (arith, il))
    (index_changes words now chains chains s.index k None h.indexed (stored_shape words now chains s.index (bucket_at b (i + 1)) 0 h.indexed st (λ home c j _ _ _ _ pos. absurd (omega (arith, pos))))
    (λ q pos d. key_stays words now chains b i 0 q il st (λ e. d (sym e ∙ is)) (λ e. absurd (omega (arith, e, pos))))
    (λ c j p e. elim (cases_eq (bucket_at c (j + 1)) (bucket_at b (i + 1))) [
      | inl f ↦ absurd (omega (arith, kp, sym e ∙ ap (λ x. word_at now x) f ∙ st.here))
      | inr d ↦ (let one = only_place words chains s.index k b i c j h.indexed kp at is p (sym (st.other (bucket_at c (j + 1)) d) ∙ e) in absurd (d (omega (arith, one.0, one.1))))
    ]))
    (place_overflow words chains s k b i (i + 1) 0 h at (omega (arith, il)))

-- ---- a merger's own bucket, in no chain: its place word and its key word are stored, and nothing changes
own_word : (words : List ℕ) (chains : ℕ → List ℕ) (s : StoreState) (c w new : ℕ) → Represents words chains s → 0 < s.takers c → (w ≡ 1) ⊎ (w ≡ 4) → w < 7 → Represents (slice_set words (bucket_at c w) new) chains s
own_word words chains s c w new h pos either wl =
    let o = h.overflow in
    let t = o.taken c pos in
    let now : List ℕ = slice_set words (bucket_at c w) new in
    let st = bucket_stored words chains s c w new h t.2 (omega (arith, wl)) in
    let loose : (home : ℕ) → home < 4096 → InChain chains home c → ⊥ = λ home lt m. taken_in_none words chains s.bucket_count s.takers home c o pos lt m in
    slot_word words chains s c w new s.index h t.2 (elim either [ inl x ↦ omega (arith, x) | inr x ↦ omega (arith, x) ]) wl
    (index_stays words now chains chains s.index h.indexed
    (stored_shape words now chains s.index (bucket_at c w) new h.indexed st (λ home d j lt m jl e _.
    let same : d ≡ c = omega (arith, e, jl, wl) in
    let P : ℕ → Type 0 = λ x. InChain chains home x in
    absurd (loose home lt (subst P same m))))
    (λ k _. loose_stays words now chains c w new k (omega (arith, wl)) st loose))
    (overflow_stored words now chains s.bucket_count s.takers c w new (omega (arith, wl)) st t.1 (λ _. either) o)

pub own_placed : (words : List ℕ) (chains : ℕ → List ℕ) (s : StoreState) (c new : ℕ) → Represents words chains s → 0 < s.takers c → Represents (slice_set words (bucket_at c 4) new) chains s
own_placed words chains s c new h pos = own_word words chains s c 4 new h pos (inr refl) (omega arith)

pub own_keyed : (words : List ℕ) (chains : ℕ → List ℕ) (s : StoreState) (c new : ℕ) → Represents words chains s → 0 < s.takers c → Represents (slice_set words (bucket_at c 1) new) chains s
own_keyed words chains s c new h pos = own_word words chains s c 1 new h pos (inl refl) (omega arith)
