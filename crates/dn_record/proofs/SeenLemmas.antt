use Rattle.std.proofs.Common.{ℕ, zero, suc, ◌+◌, ◌*◌, ◌/◌, ◌%◌, ◌^◌, ◌<◌, ◌≤◌, ◌≡◌, ◌≢◌, inl, inr, ◌&&◌, ◌||◌, not, Bool, true, false, List, [], ◌∷◌, ◌++◌, length, take, drop, get_or, slice_index, nat_eq, nat_le, nat_lt, All, Option, Some, None, if◌then◌else◌, refl, sym, ◌∙◌, ap, subst, arith, rules}
use Rattle.std.proofs.lemmas.Grind.{common_steps}
use Rattle.std.proofs.lemmas.Bool.Decides.{nat_tests}
use Rattle.std.proofs.lemmas.List.{take-append-drop}
use Rattle.std.proofs.lemmas.List.Elements.{All-take, All-drop, All-append, All-nil, All-cons}
use Rattle.std.specs.Option.{option_map}
use Rattle.std.specs.Int.{w64, to_le_bytes, byte_at, bytes_low_first}
use Rattle.dn_word.specs.Bytes.{bytes_of}
use Rattle.dn_word.specs.Cell.{cell_of}
use Rattle.dn_word.specs.Ref.{ref_of, ref_part}
use Rattle.dn_word.specs.declared.packed.place.Ref.{Ref}
use Rattle.dn_record.specs.Values.{words_for, words_from, value_words}
use Rattle.dn_record.specs.Head.{head_word, HeadIs}
use Rattle.dn_record.specs.Grammar.{IsPlace, IsOpening, IsValue, BeginsWithRecord}
use Rattle.dn_record.specs.Reading.{key_in, is_filled, valued_key_in, is_place, is_opening, is_place_word, seen_in}
use Rattle.dn_record.specs.declared.heads.Head.{Head}
use Rattle.dn_record.specs.declared.heads.Head.TheVariants.{Put as PutHead, Delete as DeleteHead, Share as ShareHead, Unshare as UnshareHead, Loose as LooseHead, LooseDelete as LooseDeleteHead, Pad as PadHead}
use Rattle.dn_record.specs.declared.records.Record.TheVariants.{Put, Delete, Share, Unshare, Loose, LooseDelete, Pad}
use Rattle.dn_record.specs.declared.records.Seen.{Seen}
use Rattle.dn_record.specs.declared.records.Seen.TheVariants.{Put as PutSeen, Delete as DeleteSeen, Share as ShareSeen, Unshare as UnshareSeen, Loose as LooseSeen, LooseDelete as LooseDeleteSeen}
use Rattle.dn_record.proofs.ValueLemmas.{Filled, last_word, last_at, words_again}

-- a choice that isn't none, and a mapped option that isn't
chosen : (b : Bool) (o : Option Seen) (s : Seen) → (if b then o else None) ≡ Some s → (b ≡ true) × (o ≡ Some s)
chosen true o s e = (refl, e)
chosen false o s e = cc

chosen_key : (b : Bool) (o : Option ℕ) (key : ℕ) → (if b then o else None) ≡ Some key → (b ≡ true) × (o ≡ Some key)
chosen_key true o key e = (refl, e)
chosen_key false o key e = cc

mapped : (f : ℕ → Seen) (o : Option ℕ) (s : Seen) → option_map f o ≡ Some s → (key : ℕ) × (o ≡ Some key)
mapped f None s e = cc
mapped f (Some key) s e = (key, refl)

record KeyIs (n : ℕ) (words : List ℕ) (key : ℕ) : Type 0 where
  enough : n ≤ length words
  is_key : slice_index words 1 ≡ key
  is_some : key ≢ 0

key_by : (n key w : ℕ) (words : List ℕ) (a b : Bool) → nat_le n (length words) ≡ a → nat_eq w 0 ≡ b → slice_index words 1 ≡ w → (if a && not b then Some w else None) ≡ Some key → KeyIs n words key
key_by n key w words true false p q k e = let same : w ≡ key = cc in record { enough = grind (arith, nat_tests); is_key = k ∙ same; is_some = grind (arith, nat_tests, same) }
key_by n key w words true true p q k e = cc
key_by n key w words false b p q k e = cc

key_only : (n : ℕ) (words : List ℕ) (key : ℕ) → key_in n words ≡ Some key → KeyIs n words key
key_only n words key e = key_by n key (slice_index words 1) words (nat_le n (length words)) (nat_eq (slice_index words 1) 0) refl refl refl e

place_only : (at : Option Ref) → is_place at ≡ true → ((p : Ref) → at ≡ Some p → p.offset < 2 ^ 24) → IsPlace at
place_only None h o = search rules
place_only (Some p) h o = (grind (arith, nat_tests), grind (arith, nat_tests), o p refl)

offset_low : (word : ℕ) (p : Ref) → ref_of word ≡ Some p → p.offset < 2 ^ 24
offset_low word p e = grind (arith, nat_tests)

opening_by : (word : ℕ) (a b c : Bool) → (cell_of word).closed ≡ a → nat_le 1 (cell_of word).stamp ≡ b → is_place (cell_of word).at ≡ c → (not a && (b && c)) ≡ true → IsOpening word
opening_by word false true true p q r e = record { is_open = p; is_stamped = grind (arith, nat_tests); is_place = place_only (cell_of word).at r (offset_low word) }
opening_by word true b c p q r e = cc
opening_by word false false c p q r e = cc
opening_by word false true false p q r e = cc

opening_only : (word : ℕ) → is_opening word ≡ true → IsOpening word
opening_only word e = opening_by word (cell_of word).closed (nat_le 1 (cell_of word).stamp) (is_place (cell_of word).at) refl refl refl e

record PlaceWord (word : ℕ) : Type 0 where
  is_place : IsPlace (ref_of word)
  is_word : ref_part (ref_of word) ≡ word

part_by : (word : ℕ) (b : Bool) → word < 2 ^ 32 → nat_eq (word % 2 ^ 32) 0 ≡ b → ref_part (if b then None else Some (record { lane = word / 2 ^ 24 % 2 ^ 8; offset = word % 2 ^ 24 })) ≡ word
part_by word true h e = grind (arith, nat_tests)
part_by word false h e = grind (arith, nat_tests)

place_word_by : (word : ℕ) (a b : Bool) → nat_lt word (2 ^ 32) ≡ a → is_place (ref_of word) ≡ b → (a && b) ≡ true → PlaceWord word
place_word_by word true true p q e = let low : word < 2 ^ 32 = grind (arith, nat_tests) in record { is_place = place_only (ref_of word) q (offset_low word); is_word = part_by word (nat_eq (word % 2 ^ 32) 0) low refl }
place_word_by word false b p q e = cc
place_word_by word true false p q e = cc

place_word_only : (word : ℕ) → is_place_word word ≡ true → PlaceWord word
place_word_only word e = place_word_by word (nat_lt word (2 ^ 32)) (is_place (ref_of word)) refl refl e

filled_only_by : (bytes last : ℕ) (a b : Bool) → nat_eq (bytes % 8) 0 ≡ a → nat_eq (last / 2 ^ (8 * (bytes % 8))) 0 ≡ b → (a || b) ≡ true → Filled bytes last
filled_only_by bytes last true b p q e = inl (grind (arith, nat_tests))
filled_only_by bytes last false true p q e = inr (grind (arith, nat_tests))
filled_only_by bytes last false false p q e = cc

filled_only : (bytes last : ℕ) → is_filled bytes last ≡ true → Filled bytes last
filled_only bytes last e = filled_only_by bytes last (nat_eq (bytes % 8) 0) (nat_eq (last / 2 ^ (8 * (bytes % 8))) 0) refl refl e

-- a list's first words
one_word : (words : List ℕ) → 1 ≤ length words → words ≡ slice_index words 0 ∷ drop 1 words
one_word [] h = absurd (omega arith)
one_word (a ∷ rest) h = refl

two_words : (words : List ℕ) → 2 ≤ length words → words ≡ slice_index words 0 ∷ slice_index words 1 ∷ drop 2 words
two_words [] h = absurd (omega arith)
two_words (a ∷ []) h = absurd (omega arith)
two_words (a ∷ b ∷ rest) h = refl

three_words : (words : List ℕ) → 3 ≤ length words → words ≡ slice_index words 0 ∷ slice_index words 1 ∷ slice_index words 2 ∷ drop 3 words
three_words [] h = absurd (omega arith)
three_words (a ∷ []) h = absurd (omega arith)
three_words (a ∷ b ∷ []) h = absurd (omega arith)
three_words (a ∷ b ∷ c ∷ rest) h = refl

-- the bytes of words
byte_small : (i w : ℕ) → byte_at i w < 2 ^ 8
byte_small zero w = omega arith
byte_small (suc i) w = omega arith

small_from : (i k w : ℕ) → All (λ byte. byte < 2 ^ 8) (bytes_low_first i k w)
small_from i zero w = All-nil (λ byte. byte < 2 ^ 8)
small_from i (suc k) w = All-cons (λ byte. byte < 2 ^ 8) (byte_at i w) (bytes_low_first (suc i) k w) (byte_small i w) (small_from (suc i) k w)

small_word : (w : ℕ) → All (λ byte. byte < 2 ^ 8) (to_le_bytes w64 w)
small_word w = small_from 0 8 w

small_bytes : (ws : List ℕ) → All (λ byte. byte < 2 ^ 8) (bytes_of ws)
small_bytes [] = All-nil (λ byte. byte < 2 ^ 8)
small_bytes (w ∷ ws) = All-append (λ byte. byte < 2 ^ 8) (to_le_bytes w64 w) (bytes_of ws) (small_word w) (small_bytes ws)

length_bytes : (ws : List ℕ) → length (bytes_of ws) ≡ 8 * length ws
length_bytes [] = refl
length_bytes (w ∷ ws) = let n = length_bytes ws in omega (arith, n)

-- a value in its words, of which there are n, and what comes behind them
pub record ValueStands (bytes n : ℕ) (behind : List ℕ) : Type 0 where
  pub is_value : IsValue (take bytes (bytes_of (take n behind)))
  pub is_long : length (take bytes (bytes_of (take n behind))) ≡ bytes
  pub is_spelled : behind ≡ value_words (take bytes (bytes_of (take n behind))) ++ drop n behind

value_stands : (bytes n : ℕ) (behind : List ℕ) → bytes ≤ 1024 → words_for bytes ≡ n → n ≤ length behind → All (λ w. w < 2 ^ 64) behind → Filled bytes (last_word (take n behind)) → ValueStands bytes n behind
value_stands bytes n behind short e enough words filled =
    let ws : List ℕ = take n behind in
    let value : List ℕ = take bytes (bytes_of ws) in
    let many : length ws ≡ n = grind (arith, common_steps) in
    let long : length value ≡ bytes = (let m = length_bytes ws in grind (arith, common_steps, m)) in
    let again : words_from (length ws) value ≡ ws = words_again ws bytes (e ∙ sym many) (All-take (λ w. w < 2 ^ 64) n behind words) filled in
    let count : words_for (length value) ≡ length ws = ap words_for long ∙ e ∙ sym many in
    record {
      is_value = record { is_short = omega arith; are_bytes = All-take (λ byte. byte < 2 ^ 8) bytes (bytes_of ws) (small_bytes ws) };
      is_long = long;
      is_spelled = sym (ap (λ v. v ++ drop n behind) (ap (λ k. words_from k value) count ∙ again) ∙ take-append-drop n behind);
    }

last_taken : (n : ℕ) (behind : List ℕ) → suc n ≤ length behind → get_or behind n 0 ≡ last_word (take (suc n) behind)
last_taken n behind h =
    let many : length (take (suc n) behind) ≡ suc n = grind (arith, common_steps) in
    ap (λ l. get_or l n 0) (sym (take-append-drop (suc n) behind)) ∙ last_at n (take (suc n) behind) (drop (suc n) behind) many

filled_taken : (bytes n h key : ℕ) (behind : List ℕ) → words_for bytes ≡ n → n ≤ length behind → Filled bytes (slice_index (h ∷ key ∷ behind) (1 + n)) → Filled bytes (last_word (take n behind))
filled_taken bytes zero h key behind e l f = inl (omega arith)
filled_taken bytes (suc n) h key behind e l f =
    let k : 1 + suc n ≡ suc (suc n) = omega arith in
    let place : slice_index (h ∷ key ∷ behind) (1 + suc n) ≡ last_word (take (suc n) behind) = ap (λ k. slice_index (h ∷ key ∷ behind) k) k ∙ last_taken n behind l in
    subst (λ w. Filled bytes w) place f

-- the value of a record with so many bytes stands behind its key
record Valued (bytes : ℕ) (words : List ℕ) (key : ℕ) : Type 0 where
  is_some : key ≢ 0
  is_front : words ≡ slice_index words 0 ∷ key ∷ drop 2 words
  stands : ValueStands bytes (words_for bytes) (drop 2 words)

valued_by : (bytes : ℕ) (words : List ℕ) (key : ℕ) → bytes ≤ 1024 → All (λ w. w < 2 ^ 64) words → is_filled bytes (slice_index words (1 + words_for bytes)) ≡ true → KeyIs (2 + words_for bytes) words key → Valued bytes words key
valued_by bytes words key short all filled k =
    let two : words ≡ slice_index words 0 ∷ slice_index words 1 ∷ drop 2 words = two_words words (let n = k.enough in omega arith) in
    let front : words ≡ slice_index words 0 ∷ key ∷ drop 2 words = two ∙ ap (λ x. slice_index words 0 ∷ x ∷ drop 2 words) k.is_key in
    let enough : words_for bytes ≤ length (drop 2 words) = (let n = k.enough in grind (arith, common_steps, n)) in
    let last : Filled bytes (slice_index (slice_index words 0 ∷ key ∷ drop 2 words) (1 + words_for bytes)) = subst (λ ws. Filled bytes (slice_index ws (1 + words_for bytes))) front (filled_only bytes (slice_index words (1 + words_for bytes)) filled) in
    record {
      is_some = k.is_some;
      is_front = front;
      stands = value_stands bytes (words_for bytes) (drop 2 words) short refl enough (All-drop (λ w. w < 2 ^ 64) 2 words all) (filled_taken bytes (words_for bytes) (slice_index words 0) key (drop 2 words) refl enough last);
    }

valued_only : (bytes : ℕ) (words : List ℕ) (key : ℕ) → bytes ≤ 1024 → All (λ w. w < 2 ^ 64) words → valued_key_in bytes words ≡ Some key → Valued bytes words key
valued_only bytes words key short all e =
    let (f, k) = chosen_key (is_filled bytes (slice_index words (1 + words_for bytes))) (key_in (2 + words_for bytes) words) key e in
    valued_by bytes words key short all f (key_only (2 + words_for bytes) words key k)

begins_put : (bytes : ℕ) (words : List ℕ) (s : Seen) → HeadIs (slice_index words 0) (PutHead bytes) → All (λ w. w < 2 ^ 64) words → seen_in (PutHead bytes) words ≡ Some s → BeginsWithRecord words
begins_put bytes words s h all e =
    let (key, k) = mapped (λ key. PutSeen key) (valued_key_in bytes words) s e in
    let v : Valued bytes words key = valued_only bytes words key h.is_head all k in
    let value : List ℕ = take bytes (bytes_of (take (words_for bytes) (drop 2 words))) in
    let head : slice_index words 0 ≡ head_word (PutHead (length value)) = sym (ap (λ n. head_word (PutHead n)) v.stands.is_long ∙ h.is_word) in
    record {
      begun = Put key value;
      is_begun = record {
        is_record = record { fields_fit = v.is_some; value_fits = v.stands.is_value };
        rest = drop (words_for bytes) (drop 2 words);
        is_front = v.is_front ∙ ap (λ x. x ∷ key ∷ drop 2 words) head ∙ ap (λ b. head_word (PutHead (length value)) ∷ key ∷ b) v.stands.is_spelled;
      };
    }

begins_loose : (bytes : ℕ) (words : List ℕ) (s : Seen) → HeadIs (slice_index words 0) (LooseHead bytes) → All (λ w. w < 2 ^ 64) words → seen_in (LooseHead bytes) words ≡ Some s → BeginsWithRecord words
begins_loose bytes words s h all e =
    let (key, k) = mapped (λ key. LooseSeen key) (valued_key_in bytes words) s e in
    let v : Valued bytes words key = valued_only bytes words key h.is_head all k in
    let value : List ℕ = take bytes (bytes_of (take (words_for bytes) (drop 2 words))) in
    let head : slice_index words 0 ≡ head_word (LooseHead (length value)) = sym (ap (λ n. head_word (LooseHead n)) v.stands.is_long ∙ h.is_word) in
    record {
      begun = Loose key value;
      is_begun = record {
        is_record = record { fields_fit = v.is_some; value_fits = v.stands.is_value };
        rest = drop (words_for bytes) (drop 2 words);
        is_front = v.is_front ∙ ap (λ x. x ∷ key ∷ drop 2 words) head ∙ ap (λ b. head_word (LooseHead (length value)) ∷ key ∷ b) v.stands.is_spelled;
      };
    }

begins_delete : (words : List ℕ) (s : Seen) → HeadIs (slice_index words 0) DeleteHead → seen_in DeleteHead words ≡ Some s → BeginsWithRecord words
begins_delete words s h e =
    let (key, k) = mapped (λ key. DeleteSeen key) (key_in 2 words) s e in
    let v : KeyIs 2 words key = key_only 2 words key k in
    record {
      begun = Delete key;
      is_begun = record {
        is_record = record { fields_fit = v.is_some; value_fits = search rules };
        rest = drop 2 words;
        is_front = two_words words v.enough ∙ ap (λ x. x ∷ slice_index words 1 ∷ drop 2 words) (sym h.is_word) ∙ ap (λ x. head_word DeleteHead ∷ x ∷ drop 2 words) v.is_key;
      };
    }

begins_loose_delete : (words : List ℕ) (s : Seen) → HeadIs (slice_index words 0) LooseDeleteHead → seen_in LooseDeleteHead words ≡ Some s → BeginsWithRecord words
begins_loose_delete words s h e =
    let (key, k) = mapped (λ key. LooseDeleteSeen key) (key_in 2 words) s e in
    let v : KeyIs 2 words key = key_only 2 words key k in
    record {
      begun = LooseDelete key;
      is_begun = record {
        is_record = record { fields_fit = v.is_some; value_fits = search rules };
        rest = drop 2 words;
        is_front = two_words words v.enough ∙ ap (λ x. x ∷ slice_index words 1 ∷ drop 2 words) (sym h.is_word) ∙ ap (λ x. head_word LooseDeleteHead ∷ x ∷ drop 2 words) v.is_key;
      };
    }

begins_share : (cell : ℕ) (words : List ℕ) (s : Seen) → HeadIs (slice_index words 0) (ShareHead cell) → seen_in (ShareHead cell) words ≡ Some s → BeginsWithRecord words
begins_share cell words s h e =
    let (o, m) = chosen (is_opening (slice_index words 2)) (option_map (λ key. ShareSeen key cell (slice_index words 2)) (key_in 3 words)) s e in
    let (key, k) = mapped (λ key. ShareSeen key cell (slice_index words 2)) (key_in 3 words) s m in
    let v : KeyIs 3 words key = key_only 3 words key k in
    record {
      begun = Share key cell (slice_index words 2);
      is_begun = record {
        is_record = record { fields_fit = (v.is_some, h.is_head, opening_only (slice_index words 2) o); value_fits = search rules };
        rest = drop 3 words;
        is_front = three_words words v.enough ∙ ap (λ x. x ∷ slice_index words 1 ∷ slice_index words 2 ∷ drop 3 words) (sym h.is_word) ∙ ap (λ x. head_word (ShareHead cell) ∷ x ∷ slice_index words 2 ∷ drop 3 words) v.is_key;
      };
    }

begins_unshare : (words : List ℕ) (s : Seen) → HeadIs (slice_index words 0) UnshareHead → seen_in UnshareHead words ≡ Some s → BeginsWithRecord words
begins_unshare words s h e =
    let (o, m) = chosen (is_place_word (slice_index words 2)) (option_map (λ key. UnshareSeen key (ref_of (slice_index words 2))) (key_in 3 words)) s e in
    let (key, k) = mapped (λ key. UnshareSeen key (ref_of (slice_index words 2))) (key_in 3 words) s m in
    let v : KeyIs 3 words key = key_only 3 words key k in
    let p : PlaceWord (slice_index words 2) = place_word_only (slice_index words 2) o in
    record {
      begun = Unshare key (ref_of (slice_index words 2));
      is_begun = record {
        is_record = record { fields_fit = (v.is_some, p.is_place); value_fits = search rules };
        rest = drop 3 words;
        is_front = three_words words v.enough ∙ ap (λ x. x ∷ slice_index words 1 ∷ slice_index words 2 ∷ drop 3 words) (sym h.is_word) ∙ ap (λ x. head_word UnshareHead ∷ x ∷ slice_index words 2 ∷ drop 3 words) v.is_key ∙ ap (λ x. head_word UnshareHead ∷ key ∷ x ∷ drop 3 words) (sym p.is_word);
      };
    }

begins_pad : (n : ℕ) (words : List ℕ) → HeadIs (slice_index words 0) (PadHead n) → 1 ≤ length words → BeginsWithRecord words
begins_pad n words h l =
    record {
      begun = Pad n;
      is_begun = record {
        is_record = record { fields_fit = h.is_head; value_fits = search rules };
        rest = drop 1 words;
        is_front = one_word words l ∙ ap (λ x. x ∷ drop 1 words) (sym h.is_word);
      };
    }

-- a front of words in which a record is seen spells one
pub seen_begins : (words : List ℕ) (head : Head) (s : Seen) → HeadIs (slice_index words 0) head → 1 ≤ length words → All (λ w. w < 2 ^ 64) words → seen_in head words ≡ Some s → BeginsWithRecord words
seen_begins words (PutHead bytes) s h l all e = begins_put bytes words s h all e
seen_begins words DeleteHead s h l all e = begins_delete words s h e
seen_begins words (ShareHead cell) s h l all e = begins_share cell words s h e
seen_begins words UnshareHead s h l all e = begins_unshare words s h e
seen_begins words (LooseHead bytes) s h l all e = begins_loose bytes words s h all e
seen_begins words LooseDeleteHead s h l all e = begins_loose_delete words s h e
seen_begins words (PadHead n) s h l all e = begins_pad n words h l
