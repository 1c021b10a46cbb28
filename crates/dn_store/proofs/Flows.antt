use Rattle.std.proofs.Common.{ℕ, ◌+◌, ◌*◌, ◌/◌, ◌%◌, ◌<◌, ◌≤◌, ◌≡◌, ◌≢◌, ◌⊎◌, inl, inr, List, sym, ◌∙◌, ap, subst, arith, slice_set}
use Rattle.std.proofs.lemmas.List.{set-get_or}
use Rattle.std.proofs.lemmas.Nat.{same_from_place, mod_below}
use Rattle.std.proofs.lemmas.Bool.{cases_eq}
use Rattle.dn_word.specs.declared.packed.gate.Gate.{Gate}
use Rattle.dn_act.specs.Words.{word_at}
use Rattle.dn_model.specs.Regions.{gate, directory, directory_at, place_in, bucket_at, home_of, IsLane}
use Rattle.dn_model.specs.Log.{IsLog}
use Rattle.dn_model.proofs.HashLaws.{home_below}
use Rattle.dn_store.specs.State.{StoreState}
use Rattle.dn_store.specs.Space.{IsSpace}
use Rattle.dn_store.specs.Standing.{IsPlaceOf}
use Rattle.dn_store.specs.Unused.{IsUsed}
use Rattle.dn_store.specs.Represents.{Represents}
use Rattle.dn_store.proofs.Stores.{IsStored, is_stored}
use Rattle.dn_store.proofs.Frames.{log_stays, chain_stays, space_stays, overflow_stays}
use Rattle.dn_store.proofs.Standings.{index_stays, stored_shape}
use Rattle.dn_store.proofs.Unused.{unused_stays, used_directory, used_segment}
use Rattle.dn_store.proofs.Tables.{table_beside}

-- A staged word flows to a directory or a segment: the store stays.

-- a word behind the table and beside the buckets is stored
flowed : (words now : List ℕ) (chains : ℕ → List ℕ) (s : StoreState) (at new : ℕ) → Represents words chains s → IsStored words now at new → 768 ≤ at → IsUsed at → ((b i : ℕ) → b < 8192 → i < 8 → bucket_at b i ≢ at)
    → ((n : ℕ) → IsLane n → IsLog now n (s.logs n)) → IsSpace now s.pool s.segment_count s.holders → Represents now chains s
flowed words now chains s at new h st high used apart logs space =
    let x = h.indexed in
    let o = h.overflow in
    let stays = λ (b i : ℕ) (lt : b < 8192) (il : i < 8). st.other (bucket_at b i) (apart b i lt il) in
    let key = λ (k b i : ℕ) (p : IsPlaceOf chains k b i). stays b (i + 1) (x.below (home_of k) b (home_below k) p.has) (omega (arith, p.three)) in
    record {
      table = table_beside words now s s.index s.takers at new st high h.table;
      unused = unused_stays words now at new st used h.unused;
      reads = record {
        logs_are = logs;
        no_more = h.reads.no_more;
        chains_are = λ home lt. chain_stays words now home (chains home) (λ b m. stays b 7 (x.below home b lt m) (omega arith)) (h.reads.chains_are home lt);
      };
      merged = h.merged;
      space = space;
      cell_space = h.cell_space;
      indexed = index_stays words now chains chains s.index x
          (stored_shape words now chains s.index at new x st (λ home b i lt m il e _. absurd (apart b (i + 1) (x.below home b lt m) (omega (arith, il)) e)))
          (λ k pos. record {
            back = λ b i p e. (p, sym (key k b i p) ∙ e);
            forth = λ b i p e. (p, key k b i p ∙ e, stays b (i + 4) (x.below (home_of k) b (home_below k) p.has) (omega (arith, p.three)));
          });
      overflow = overflow_stays words now chains s.bucket_count s.takers (λ c i _ lt il. stays c i lt il) (λ c i pos il _ _. stays c i (o.taken c pos).2 il) o;
    }

-- ---- a word of a segment that lane n holds, at no offset that is sealed
pub segment_flow : (words : List ℕ) (chains : ℕ → List ℕ) (s : StoreState) (n g o word : ℕ) → Represents words chains s → IsLane n → s.holders g ≡ n
    → ((q : ℕ) → q < 256 → directory words n q ≡ g + 1 → (s.gates n).len ≤ q * 1024 + o % 1024) → Represents (slice_set words (place_in (g + 1) o) word) chains s
segment_flow words chains s n g o word h l own past =
    let at : ℕ = place_in (g + 1) o in
    let now : List ℕ = slice_set words at word in
    let c = h.space.claimed g (omega (arith, own, l.positive)) in
    let size = h.table.size in
    let il = mod_below o 1024 (omega arith) in
    let st = is_stored words at word (omega (arith, size, il, c.1)) in
    flowed words now chains s at word h st (omega arith) (used_segment at (omega arith)) (λ b j lt jl e. absurd (omega (arith, e, lt, jl)))
    (λ m k. log_stays words now at word m (s.logs m) st (λ e. absurd (omega (arith, e, k.below))) (λ q ql _ e. absurd (omega (arith, e, ql, k.below)))
    (λ p below pos e.
    let covered = (h.reads.logs_are m k).covered p below in
    let same = same_from_place (directory words m (p / 1024)) (p % 1024) (g + 1) (o % 1024) 1024 (mod_below p 1024 (omega arith)) il (omega (arith, e)) in
    let mine : m ≡ n = sym (h.space.named m (p / 1024) g k covered.0 same.0) ∙ own in
    let P : ℕ → Type 0 = λ x. directory words x (p / 1024) ≡ g + 1 in
    let le = past (p / 1024) covered.0 (subst P mine same.0) in
    let len : (gate words m).len ≡ (s.gates n).len = ap (λ (x : Gate). x.len) (h.table.gates m k.below) ∙ ap (λ x. (s.gates x).len) mine in
    absurd (omega (arith, le, len, below, same.1)))
    (h.reads.logs_are m k))
    (space_stays words now s.pool s.segment_count s.holders (λ m q k ql. st.other (directory_at m q) (λ e. absurd (omega (arith, e, ql, k.below)))) h.space)

-- ---- a word that stands already
pub again : (words : List ℕ) (chains : ℕ → List ℕ) (s : StoreState) (at word : ℕ) → Represents words chains s → word_at words at ≡ word → Represents (slice_set words at word) chains s
again words chains s at word h e = let P : List ℕ → Type 0 = λ x. Represents x chains s in subst P (sym (ap (λ w. slice_set words at w) (sym e) ∙ set-get_or words at 0)) h

-- ---- a word of lane n's directory, which says nothing yet, comes to name a segment that the lane holds and hasn't named
pub directory_flow : (words : List ℕ) (chains : ℕ → List ℕ) (s : StoreState) (n q g : ℕ) → Represents words chains s → IsLane n → q < 256 → s.holders g ≡ n → directory words n q ≡ 0
    → ((r : ℕ) → r < 256 → directory words n r ≢ g + 1) → Represents (slice_set words (directory_at n q) (g + 1)) chains s
directory_flow words chains s n q g h l ql own free fresh =
    let at : ℕ = directory_at n q in
    let now : List ℕ = slice_set words at (g + 1) in
    let size = h.table.size in
    let st = is_stored words at (g + 1) (omega (arith, size, ql, l.below)) in
    -- a directory word is the stored one, or as it was
    let split : (m r : ℕ) → r < 256 → ((m ≡ n) × (r ≡ q) × (directory now m r ≡ g + 1)) ⊎ ((directory_at m r ≢ at) × (directory now m r ≡ directory words m r)) = λ m r rl. elim (cases_eq (directory_at m r) at) [
      | inl e ↦ (let same = same_from_place m r n q 256 rl ql (omega (arith, e)) in inl (same.0, same.1, ap (λ x. word_at now x) e ∙ st.here))
      | inr d ↦ inr (d, st.other (directory_at m r) d)
    ] in
    let unnamed : (m r : ℕ) → r < 256 → m ≡ n → directory words m r ≢ g + 1 = λ m r rl e. (let P : ℕ → Type 0 = λ x. directory words x r ≢ g + 1 in subst P (sym e) (fresh r rl)) in
    flowed words now chains s at (g + 1) h st (omega arith) (used_directory n q l ql) (λ b i lt il e. absurd (omega (arith, e, ql, l.below)))
    (λ m k. log_stays words now at (g + 1) m (s.logs m) st (λ e. absurd (omega (arith, e, k.below)))
    (λ r rl pos e. let same = same_from_place m r n q 256 rl ql (omega (arith, e)) in absurd (omega (arith, pos, ap (λ x. word_at words x) e, free)))
    (λ o lt pos e. absurd (omega (arith, e, pos, ql, l.below)))
    (h.reads.logs_are m k))
    (record {
      claimed = h.space.claimed;
      named = λ m r f k rl e. elim (split m r rl) [
        | inl x ↦ (let same : f ≡ g = omega (arith, x.2, e) in ap s.holders same ∙ own ∙ sym x.0)
        | inr x ↦ h.space.named m r f k rl (sym x.1 ∙ e)
      ];
      once = λ m a b k al bl e pos. elim (split m a al) [
        | inl x ↦ elim (split m b bl) [
          | inl y ↦ x.1 ∙ sym y.1
          | inr y ↦ absurd (unnamed m b bl x.0 (sym y.1 ∙ sym e ∙ x.2))
        ]
        | inr x ↦ elim (split m b bl) [
          | inl y ↦ absurd (unnamed m a al y.0 (sym x.1 ∙ e ∙ y.2))
          | inr y ↦ h.space.once m a b k al bl (sym x.1 ∙ e ∙ y.1) (omega (arith, x.1, pos))
        ]
      ];
    })
