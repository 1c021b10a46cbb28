use Rattle.std.proofs.Common.{ℕ, zero, suc, ◌+◌, ◌-◌, ◌^◌, ◌<◌, ◌≤◌, ◌≡◌, ◌≢◌, inl, inr, true, List, ◌∷◌, ◌++◌, length, take, slice_index, slice_range, nat_lt, Option, Some, None, if◌then◌else◌, refl, sym, ◌∙◌, ap, arith, rules, length-append}
use Rattle.std.proofs.lemmas.Grind.{common_steps}
use Rattle.std.proofs.lemmas.Bool.Decides.{nat_tests}
use Rattle.std.proofs.lemmas.List.{take_at}
use Rattle.std.specs.Option.{option_map}
use Rattle.dn_word.specs.Bytes.{bytes_of}
use Rattle.dn_word.specs.Cell.{cell_of}
use Rattle.dn_word.specs.Ref.{ref_of, ref_part}
use Rattle.dn_word.specs.declared.packed.place.Ref.{Ref}
use Rattle.dn_record.specs.Values.{words_for, words_from, value_words}
use Rattle.dn_record.specs.Head.{head_word, IsHead, HeadIs}
use Rattle.dn_record.specs.Record.{head_of, spelling, spelled_words, seen_of, held_after}
use Rattle.dn_record.specs.Grammar.{IsPlace, IsOpening, IsValue, IsRecord, FrontSpells}
use Rattle.dn_record.specs.Reading.{key_in, is_filled, valued_key_in, is_place, is_opening, is_place_word, seen_in, value_in, held_in}
use Rattle.dn_record.specs.declared.records.Record.{Record}
use Rattle.dn_record.specs.declared.records.Record.TheVariants.{Put, Delete, Share, Unshare, Loose, LooseDelete, Pad}
use Rattle.dn_record.specs.declared.records.Seen.TheVariants.{Put as PutSeen, Delete as DeleteSeen, Share as ShareSeen, Unshare as UnshareSeen, Loose as LooseSeen, LooseDelete as LooseDeleteSeen}
use Rattle.dn_record.proofs.ValueLemmas.{length_words_from, value_again, Filled, last_word, last_at, filled_words}

-- the head of a record of the grammar is one of the grammar
pub is_head : (r : Record) → IsRecord r → IsHead (head_of r)
is_head (Put key value) h = h.value_fits.is_short
is_head (Delete key) h = search rules
is_head (Share key cell opening) h = h.fields_fit.1
is_head (Unshare key at) h = search rules
is_head (Loose key value) h = h.value_fits.is_short
is_head (LooseDelete key) h = search rules
is_head (Pad words) h = h.fields_fit

-- a spelling is as long as is said
pub length-spelling : (r : Record) → length (spelling r) ≡ spelled_words r
length-spelling (Put key value) = let n = length_words_from (words_for (length value)) value in omega (arith, n)
length-spelling (Delete key) = refl
length-spelling (Share key cell opening) = refl
length-spelling (Unshare key at) = refl
length-spelling (Loose key value) = let n = length_words_from (words_for (length value)) value in omega (arith, n)
length-spelling (LooseDelete key) = refl
length-spelling (Pad words) = refl

key_there : (n : ℕ) (words : List ℕ) → n ≤ length words → slice_index words 1 ≢ 0 → key_in n words ≡ Some (slice_index words 1)
key_there n words l k = grind (arith, nat_tests)

place_there : (at : Option Ref) → IsPlace at → is_place at ≡ true
place_there None h = refl
place_there (Some at) h = grind (arith, nat_tests)

opening_there : (word : ℕ) → IsOpening word → is_opening word ≡ true
opening_there word h =
    let p : is_place (cell_of word).at ≡ true = place_there (cell_of word).at h.is_place in
    grind (arith, nat_tests, p, h.is_open, h.is_stamped)

place_again : (at : Option Ref) → IsPlace at → ref_of (ref_part at) ≡ at
place_again None h = refl
place_again (Some at) h = grind (arith, common_steps)

place_low : (at : Option Ref) → IsPlace at → ref_part at < 2 ^ 32
place_low None h = omega arith
place_low (Some at) h = omega arith

place_word_there : (at : Option Ref) → IsPlace at → is_place_word (ref_part at) ≡ true
place_word_there at h =
    let p : is_place (ref_of (ref_part at)) ≡ true = ap is_place (place_again at h) ∙ place_there at h in
    let l : nat_lt (ref_part at) (2 ^ 32) ≡ true = (let low = place_low at h in grind (arith, nat_tests)) in
    cc

filled_there : (bytes last : ℕ) → Filled bytes last → is_filled bytes last ≡ true
filled_there bytes last (inl h) = grind (arith, nat_tests)
filled_there bytes last (inr h) = grind (arith, nat_tests)

-- what is read behind the header and the key is the content
value_words_at : (h key : ℕ) (ws rest : List ℕ) (n : ℕ) → length ws ≡ n → slice_range (h ∷ key ∷ (ws ++ rest)) 2 (2 + n) ≡ ws
value_words_at h key ws rest n e =
    let m : 2 + n - 2 ≡ n = omega arith in
    ap (λ k. take k (ws ++ rest)) m ∙ take_at ws rest n e

filled_by : (h key : ℕ) (value rest : List ℕ) → IsValue value → (n : ℕ) → words_for (length value) ≡ n → is_filled (length value) (slice_index (h ∷ key ∷ (words_from n value ++ rest)) (1 + n)) ≡ true
filled_by h key value rest v zero e = filled_there (length value) key (inl (omega arith))
filled_by h key value rest v (suc n) e =
    let place : slice_index (h ∷ key ∷ (words_from (suc n) value ++ rest)) (1 + suc n) ≡ last_word (words_from (suc n) value) =
    ap (λ k. slice_index (h ∷ key ∷ (words_from (suc n) value ++ rest)) k) (let k : 1 + suc n ≡ suc (suc n) = omega arith in k) ∙ last_at n (words_from (suc n) value) rest (length_words_from (suc n) value) in
    let f : Filled (length value) (last_word (words_from (suc n) value)) = filled_words (suc n) value v.are_bytes e in
    ap (λ w. is_filled (length value) w) place ∙ filled_there (length value) (last_word (words_from (suc n) value)) f

-- the word before the first that isn't read is the last of the value, if there is one
filled_at : (h key : ℕ) (value rest : List ℕ) → IsValue value → is_filled (length value) (slice_index (h ∷ key ∷ (value_words value ++ rest)) (1 + words_for (length value))) ≡ true
filled_at h key value rest v = filled_by h key value rest v (words_for (length value)) refl

valued_key_there : (h key : ℕ) (value rest : List ℕ) → IsValue value → key ≢ 0 → valued_key_in (length value) (h ∷ key ∷ (value_words value ++ rest)) ≡ Some key
valued_key_there h key value rest v k =
    let words : List ℕ = h ∷ key ∷ (value_words value ++ rest) in
    let enough : 2 + words_for (length value) ≤ length words = (let n = length_words_from (words_for (length value)) value in omega (arith, n, length-append (value_words value) rest)) in
    ap (λ b. if b then key_in (2 + words_for (length value)) words else None) (filled_at h key value rest v)
    ∙ key_there (2 + words_for (length value)) words enough k

value_there : (h key : ℕ) (value rest : List ℕ) → IsValue value → value_in (length value) (h ∷ key ∷ (value_words value ++ rest)) ≡ value
value_there h key value rest v =
    ap (λ ws. take (length value) (bytes_of ws)) (value_words_at h key (value_words value) rest (words_for (length value)) (length_words_from (words_for (length value)) value))
    ∙ value_again (words_for (length value)) value v.are_bytes (omega arith)

seen_by : (r : Record) (rest : List ℕ) → IsRecord r → seen_in (head_of r) (spelling r ++ rest) ≡ Some (seen_of r)
seen_by (Put key value) rest h = ap (λ k. option_map (λ key. PutSeen key) k) (valued_key_there (head_word (head_of (Put key value))) key value rest h.value_fits h.fields_fit)
seen_by (Delete key) rest h = ap (λ k. option_map (λ key. DeleteSeen key) k) (key_there 2 (spelling (Delete key) ++ rest) (omega arith) h.fields_fit)
seen_by (Share key cell opening) rest h =
    let words : List ℕ = spelling (Share key cell opening) ++ rest in
    ap (λ b. if b then option_map (λ key. ShareSeen key cell opening) (key_in 3 words) else None) (opening_there opening h.fields_fit.2)
    ∙ ap (λ k. option_map (λ key. ShareSeen key cell opening) k) (key_there 3 words (omega arith) h.fields_fit.0)
seen_by (Unshare key at) rest h =
    let words : List ℕ = spelling (Unshare key at) ++ rest in
    ap (λ b. if b then option_map (λ key. UnshareSeen key (ref_of (ref_part at))) (key_in 3 words) else None) (place_word_there at h.fields_fit.1)
    ∙ ap (λ k. option_map (λ key. UnshareSeen key (ref_of (ref_part at))) k) (key_there 3 words (omega arith) h.fields_fit.0)
    ∙ ap (λ p. Some (UnshareSeen key p)) (place_again at h.fields_fit.1)
seen_by (Loose key value) rest h = ap (λ k. option_map (λ key. LooseSeen key) k) (valued_key_there (head_word (head_of (Loose key value))) key value rest h.value_fits h.fields_fit)
seen_by (LooseDelete key) rest h = ap (λ k. option_map (λ key. LooseDeleteSeen key) k) (key_there 2 (spelling (LooseDelete key) ++ rest) (omega arith) h.fields_fit)
seen_by (Pad words) rest h = refl

held_by : (r : Record) (rest old : List ℕ) → IsRecord r → held_in (head_of r) (spelling r ++ rest) old ≡ held_after r old
held_by (Put key value) rest old h = value_there (head_word (head_of (Put key value))) key value rest h.value_fits
held_by (Delete key) rest old h = refl
held_by (Share key cell opening) rest old h = refl
held_by (Unshare key at) rest old h = refl
held_by (Loose key value) rest old h = value_there (head_word (head_of (Loose key value))) key value rest h.value_fits
held_by (LooseDelete key) rest old h = refl
held_by (Pad words) rest old h = refl

-- the first word of a spelling is its head's
pub spelled_head : (words : List ℕ) (r : Record) → FrontSpells words r → HeadIs (slice_index words 0) (head_of r)
spelled_head words r f = record { is_head = is_head r f.is_record; is_word = sym (ap (λ ws. slice_index ws 0) f.is_front) }

-- what a front spells is seen
pub spelled_seen : (words : List ℕ) (r : Record) → FrontSpells words r → seen_in (head_of r) words ≡ Some (seen_of r)
spelled_seen words r f = ap (λ ws. seen_in (head_of r) ws) f.is_front ∙ seen_by r f.rest f.is_record

pub spelled_held : (words : List ℕ) (r : Record) (old : List ℕ) → FrontSpells words r → held_in (head_of r) words old ≡ held_after r old
spelled_held words r old f = ap (λ ws. held_in (head_of r) ws old) f.is_front ∙ held_by r f.rest old f.is_record
