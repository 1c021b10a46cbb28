use Rattle.std.proofs.Common.{ℕ, zero, suc, ◌+◌, ◌*◌, ◌/◌, ◌%◌, ◌<◌, ◌≤◌, ◌≡◌, List, [], ◌∷◌, ◌++◌, length, drop, refl, sym, ◌∙◌, ap, subst, arith, slice_set}
use Rattle.dn_word.specs.Gate.{gate_of}
use Rattle.dn_act.specs.Words.{word_at}
use Rattle.dn_act.proofs.Words.{word_at-set_same, word_at-set_other}
use Rattle.dn_record.specs.Grammar.{IsRecord}
use Rattle.dn_record.specs.Record.{spelling, length_in_words}
use Rattle.dn_record.specs.Values.{words_for, words_from}
use Rattle.dn_record.specs.declared.records.Record.{Record}
use Rattle.dn_record.specs.declared.records.Record.TheVariants.{Put, Delete, Share, Unshare, Loose, LooseDelete, Pad}
use Rattle.dn_model.specs.Same.{SameLog}
use Rattle.dn_model.specs.Regions.{gate, gate_at, directory, directory_at, place, offsets}
use Rattle.dn_model.specs.Log.{Placed, Stand, SpellsAt, Tiles, IsCovered, IsLog}

-- ---- words that stand
pub stand_frame : (w v : ℕ → ℕ) (o : ℕ) (xs : List ℕ) → ((i : ℕ) → o ≤ i → i < o + length xs → v i ≡ w i) → Stand w o xs → Stand v o xs
stand_frame w v o [] same h = tt
stand_frame w v o (x ∷ xs) same h = (same o (omega arith) (omega arith) ∙ h.0, stand_frame w v (o + 1) xs (λ i le lt. same i (omega arith) (omega arith)) h.1)

length-words_from : (n : ℕ) (bytes : List ℕ) → length (words_from n bytes) ≡ n
length-words_from zero bytes = refl
length-words_from (suc n) bytes = let rest = length-words_from n (drop 8 bytes) in omega (arith, rest)

-- a spelling isn't longer than its record
pub spelled_within : (r : Record) → IsRecord r → length (spelling r) ≤ length_in_words r
spelled_within (Put key value) h = omega (arith, length-words_from (words_for (length value)) value)
spelled_within (Delete key) h = omega arith
spelled_within (Share key cell opening) h = omega arith
spelled_within (Unshare key at) h = omega arith
spelled_within (Loose key value) h = omega (arith, length-words_from (words_for (length value)) value)
spelled_within (LooseDelete key) h = omega arith
spelled_within (Pad words) h = omega (arith, h.fields_fit.0)

-- a record has a word
pub some_words : (r : Record) → IsRecord r → 0 < length_in_words r
some_words (Put key value) h = omega arith
some_words (Delete key) h = omega arith
some_words (Share key cell opening) h = omega arith
some_words (Unshare key at) h = omega arith
some_words (Loose key value) h = omega arith
some_words (LooseDelete key) h = omega arith
some_words (Pad words) h = omega (arith, h.fields_fit.0)

-- ---- records that tile
pub tiles_le : (w : ℕ → ℕ) (o end : ℕ) (log : List Placed) → Tiles w o log end → o ≤ end
tiles_le w o end [] h = omega (arith, h)
tiles_le w o end (p ∷ ps) h = let r : o + length_in_words p.entry ≤ end = tiles_le w (o + length_in_words p.entry) end ps h.2 in omega arith

-- the same records tile other words that agree between the two offsets
pub tiles_frame : (w v : ℕ → ℕ) (o end : ℕ) (log : List Placed) → ((i : ℕ) → o ≤ i → i < end → v i ≡ w i) → Tiles w o log end → Tiles v o log end
tiles_frame w v o end [] same h = h
tiles_frame w v o end (p ∷ ps) same h =
    let le : o + length_in_words p.entry ≤ end = tiles_le w (o + length_in_words p.entry) end ps h.2 in
    let short : length (spelling p.entry) ≤ length_in_words p.entry = spelled_within p.entry h.1.is_record in (
      h.0,
      record {
        is_record = h.1.is_record;
        stands = stand_frame w v o (spelling p.entry) (λ i a b. same i a (omega arith)) h.1.stands;
        fits = h.1.fits;
      },
      tiles_frame w v (o + length_in_words p.entry) end ps (λ i a b. same i (omega arith) b) h.2,
    )

-- records behind records
pub tiles_append : (w : ℕ → ℕ) (o middle end : ℕ) (log more : List Placed) → Tiles w o log middle → Tiles w middle more end → Tiles w o (log ++ more) end
tiles_append w o middle end [] more h g = let P : ℕ → Type 0 = λ x. Tiles w x more end in subst P (sym h) g
tiles_append w o middle end (p ∷ ps) more h g = (h.0, h.1, tiles_append w (o + length_in_words p.entry) middle end ps more h.2 g)

-- one record
pub tiles_one : (w : ℕ → ℕ) (o : ℕ) (r : Record) → SpellsAt w o r → Tiles w o (record { offset = o; entry = r } ∷ []) (o + length_in_words r)
tiles_one w o r h = (refl, h, refl)

offsets_same : (words now : List ℕ) (n : ℕ) (log : List Placed) → IsLog words n log → SameLog words now n → (o : ℕ) → o < (gate words n).len → offsets now n o ≡ offsets words n o
offsets_same words now n log h s o lt =
    let c = h.covered o lt in
    let d : directory now n (o / 1024) ≡ directory words n (o / 1024) = s.directory_is (o / 1024) c.0 c.1 in
    ap (λ x. word_at now (97280 + (x * 1024 + o % 1024))) d ∙ s.words_are o lt

-- the log stays where these words stay
pub log_frame : (words now : List ℕ) (n : ℕ) (log : List Placed) → IsLog words n log → SameLog words now n → IsLog now n log
log_frame words now n log h s =
    let l : (gate now n).len ≡ (gate words n).len = s.len_is in
    let P : ℕ → Type 0 = λ end. Tiles (offsets now n) 0 log end in
    record {
      tiled = subst P (sym l) (tiles_frame (offsets words n) (offsets now n) 0 (gate words n).len log (λ i a b. offsets_same words now n log h s i b) h.tiled);
      covered = λ o lt. let c = h.covered o (omega (arith, l)) in (c.0, let d : directory now n (o / 1024) ≡ directory words n (o / 1024) = s.directory_is (o / 1024) c.0 c.1 in omega (arith, c.1, d));
    }

-- ---- a gate with a greater length seals the records that stand up to there
pub log_sealed : (words : List ℕ) (n new : ℕ) (log more : List Placed) → gate_at n < length words → n < 64 → IsLog words n log
    → Tiles (offsets words n) (gate words n).len more (gate_of new).len → IsCovered words n (gate_of new).len
    → IsLog (slice_set words (gate_at n) new) n (log ++ more)
log_sealed words n new log more long lt h t c =
    let now = slice_set words (gate_at n) new in
    let e : (gate now n).len ≡ (gate_of new).len = ap (λ x. (gate_of x).len) (word_at-set_same words (gate_at n) new long) in
    let d : (q : ℕ) → directory now n q ≡ directory words n q = λ q. word_at-set_other words (gate_at n) (directory_at n q) new (λ x. absurd (omega (arith, x))) in
    let same : (i : ℕ) → offsets now n i ≡ offsets words n i = λ i.
    ap (λ x. word_at now (97280 + (x * 1024 + i % 1024))) (d (i / 1024)) ∙ word_at-set_other words (gate_at n) (place words n i) new (λ x. absurd (omega (arith, x))) in
    let P : ℕ → Type 0 = λ end. Tiles (offsets now n) 0 (log ++ more) end in
    record {
      tiled = subst P (sym e) (tiles_append (offsets now n) 0 (gate words n).len (gate_of new).len log more
          (tiles_frame (offsets words n) (offsets now n) 0 (gate words n).len log (λ i a b. same i) h.tiled)
          (tiles_frame (offsets words n) (offsets now n) (gate words n).len (gate_of new).len more (λ i a b. same i) t));
      covered = λ o l. let k = c o (omega (arith, e, l)) in (k.0, omega (arith, k.1, d (o / 1024)));
    }
