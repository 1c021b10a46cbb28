use Rattle.std.proofs.Common.{◌≡◌, ℕ, suc, zero, min, None, ◌+◌, ◌-◌, ◌/◌, ◌%◌, ◌<◌, ◌≤◌, Bool, true, false, List, [], ◌∷◌, ◌++◌, length, take, drop, reverse, refl, sym, ap, ◌∙◌, arith, subst, add-one, All, nat_lt, nat_le, if◌then◌else◌, replicate, find, ◌==◌}
use Rattle.std.proofs.lemmas.Bool.{ltb-true}
use Rattle.std.proofs.lemmas.List.{length-replicate, length-reverse, length-take}
use Rattle.std.specs.Option.{option_map}
use Rattle.std.proofs.lemmas.List.Kept.{AllPairs-filter}
use Rattle.std.proofs.lemmas.List.Quantifiers.{all_pairs_push}
use Rattle.std.proofs.lemmas.List.Elements.{All-cons, All-head, All-take, All-drop}
use Rattle.std.specs.List.{prefix_len}
use Rattle.dn_pending.specs.declared.entries.Entry.{Entry}
use Rattle.dn_pending.specs.declared.segments.Segment.{Segment}
use Rattle.dn_pending.specs.declared.filters.KeyBits.{KeyBits}
use Rattle.dn_pending.specs.Entries.{IsRising, kept_from, last_of}
use Rattle.dn_pending.specs.Filter.{bits_of, may_hold, added_to, AreInside}
use Rattle.dn_pending.specs.Segments.{IsOf, Covers, IsOpen, IsFit}
use Rattle.dn_pending.proofs.EntryLaws.{entry_of, kept_from-front, kept_from-past, last_of-none}
use Rattle.dn_pending.proofs.FilterLemmas.{may_hold-added, may_hold-kept, length-added}
use Rattle.dn_pending.proofs.ListLemmas.{All-reverse, take-nil, reverse-push, reverse-oldest, reverse-drop, reverse-front, reverse-back, drop-take_less, take-take_swap}

-- all lists here have the newest first

-- the segments still cover what is left where the oldest entries are dropped
pub Covers-take : (k : ℕ) (segments : List Segment) (entries : List Entry) → Covers segments entries → Covers segments (take k entries)
Covers-take k [] entries h = ap (take k) h ∙ take-nil k
Covers-take k (s ∷ older) entries h = (
  subst (All (IsOf s)) (sym (take-take_swap s.count k entries)) (All-take (IsOf s) k (take s.count entries) h.0),
  subst (Covers older) (sym (drop-take_less s.count k entries)) (Covers-take (k - s.count) older (drop s.count entries) h.1),
)

-- an entry at the mark or past it is of no segment that ends below
past_segment : (at mark number : ℕ) → mark ≤ at → number < mark / 1024 → at / 1024 ≡ number → ⊥
past_segment at mark number h k e = omega arith

no_entry : (s : Segment) (count : ℕ) (mark : ℕ) (entries : List Entry) → s.number < mark / 1024 → All (λ (e : Entry). mark ≤ e.at) entries → All (IsOf s) (take count entries) → drop count entries ≡ [] → entries ≡ []
no_entry s zero mark entries below past own rest = rest
no_entry s (suc n) mark [] below past own rest = refl
no_entry s (suc n) mark (e ∷ entries) below past own rest =
    absurd (past_segment e.at mark s.number (All-head (λ (e : Entry). mark ≤ e.at) e entries past) below (All-head (IsOf s) e (take n entries) own).there)

-- the oldest segment has no entry left where it ends below the mark
pub Covers-shed : (older : List Segment) (s : Segment) (mark : ℕ) (entries : List Entry) → s.number < mark / 1024 → All (λ (e : Entry). mark ≤ e.at) entries → Covers (older ++ s ∷ []) entries → Covers older entries
Covers-shed [] s mark entries below past h = no_entry s s.count mark entries below past h.0 h.1
Covers-shed (t ∷ older) s mark entries below past h = (h.0, Covers-shed older s mark (drop t.count entries) below (All-drop (λ (e : Entry). mark ≤ e.at) t.count entries past) h.1)

-- nor have all in front that end below it
pub Covers-shed_all : (segments : List Segment) (mark : ℕ) (entries : List Entry) → All (λ (e : Entry). mark ≤ e.at) entries → Covers (reverse segments) entries → Covers (reverse (drop (prefix_len (λ (s : Segment). nat_lt s.number (mark / 1024)) segments) segments)) entries
Covers-shed_all [] mark entries past h = h
Covers-shed_all (s ∷ segments) mark entries past h = by_test (nat_lt s.number (mark / 1024)) refl (λ g. Covers-shed_all segments mark entries past g)
  where
    suc_one : (k : ℕ) → suc k ≡ 1 + k
    suc_one k = omega arith

    by_test : (b : Bool) → nat_lt s.number (mark / 1024) ≡ b → (Covers (reverse segments) entries → Covers (reverse (drop (prefix_len (λ (s : Segment). nat_lt s.number (mark / 1024)) segments) segments)) entries) → Covers (reverse (drop (if b then 1 + prefix_len (λ (s : Segment). nat_lt s.number (mark / 1024)) segments else 0) (s ∷ segments))) entries
    by_test true t more =
        subst (λ k. Covers (reverse (drop k (s ∷ segments))) entries) (suc_one (prefix_len (λ (s : Segment). nat_lt s.number (mark / 1024)) segments))
        (more (Covers-shed (reverse segments) s mark entries (ltb-true s.number (mark / 1024) t) past (subst (λ ss. Covers ss entries) (reverse-oldest s segments) h)))
    by_test false t more = h

-- what is known of the newest segment stays where the oldest entries and segments are dropped
pub IsOpen-take : (k j : ℕ) (segments : List Segment) (entries : List Entry) → 1 ≤ k → IsOpen segments entries → IsOpen (take j segments) (take k entries)
IsOpen-take k zero segments entries h o = tt
IsOpen-take k (suc j) [] entries h o = tt
IsOpen-take zero (suc j) (s ∷ segments) entries h o = absurd (not_below h)
  where
    not_below : 1 ≤ 0 → ⊥
    not_below h = omega arith
IsOpen-take (suc k) (suc j) (s ∷ segments) [] h o = absurd o
IsOpen-take (suc k) (suc j) (s ∷ segments) (e ∷ entries) h o = o

-- the first entry of a segment
pub Covers-first : (s : Segment) (e : Entry) (segments : List Segment) (entries : List Entry) → s.count ≡ 1 → IsOf s e → Covers segments entries → Covers (s ∷ segments) (e ∷ entries)
Covers-first s e segments entries one own h = (
  subst (λ n. All (IsOf s) (take n (e ∷ entries))) (sym one) (All-cons (IsOf s) e [] own (λ k d h. absurd (none_below k h))),
  subst (λ n. Covers segments (drop n (e ∷ entries))) (sym one) h,
)
  where
    none_below : (k : ℕ) → k < 0 → ⊥
    none_below k h = omega arith

-- one more entry of a segment
pub Covers-more : (s t : Segment) (e : Entry) (older : List Segment) (entries : List Entry) → t.count ≡ s.count + 1 → IsOf t e → ((x : Entry) → IsOf s x → IsOf t x) → Covers (s ∷ older) entries → Covers (t ∷ older) (e ∷ entries)
Covers-more s t e older entries more own kept h = (
  subst (λ n. All (IsOf t) (take n (e ∷ entries))) (sym (more ∙ add-one s.count))
      (All-cons (IsOf t) e (take s.count entries) own (λ k d i. kept _ (h.0 k d i))),
  subst (λ n. Covers older (drop n (e ∷ entries))) (sym (more ∙ add-one s.count)) h.1,
)

-- what is left of a table whose entries below the mark are dropped, with the segments that end below it
pub IsFit-shed : (segments : List Segment) (mark : ℕ) (entries left : List Entry) → IsFit segments entries → left ≡ kept_from mark entries → 1 ≤ length left → IsFit (drop (prefix_len (λ (s : Segment). nat_lt s.number (mark / 1024)) segments) segments) left
IsFit-shed segments mark entries left fit is some =
    let gone = prefix_len (λ (e : Entry). nat_lt e.at mark) entries in
    let passed = prefix_len (λ (s : Segment). nat_lt s.number (mark / 1024)) segments in
    let same : reverse left ≡ take (length entries - gone) (reverse entries) = ap reverse (is ∙ kept_from-front mark entries fit.rising) ∙ reverse-drop gone entries in
    let past : All (λ (e : Entry). mark ≤ e.at) left = subst (All (λ (e : Entry). mark ≤ e.at)) (sym is) (kept_from-past mark entries) in
    let more : 1 ≤ length entries - gone = enough (length left) (length entries - gone) (length (reverse entries)) some (sym (length-reverse left) ∙ ap length same ∙ length-take (length entries - gone) (reverse entries)) in
    record {
      rising = subst IsRising (sym is) (AllPairs-filter (λ (a b : Entry). a.at < b.at) (λ (e : Entry). nat_le mark e.at) entries fit.rising);
      covers = Covers-shed_all segments mark (reverse left) (All-reverse (λ (e : Entry). mark ≤ e.at) left past)
          (subst (Covers (reverse segments)) (sym same) (Covers-take (length entries - gone) (reverse segments) (reverse entries) fit.covers));
      newest = subst (λ ss. IsOpen ss (reverse left)) (sym (reverse-drop passed segments))
          (subst (IsOpen (take (length segments - passed) (reverse segments))) (sym same)
          (IsOpen-take (length entries - gone) (length segments - passed) (reverse segments) (reverse entries) more fit.newest));
    }
  where
    enough : (a k n : ℕ) → 1 ≤ a → a ≡ min k n → 1 ≤ k
    enough a k n h e = omega arith

-- the newest segment has no more entries than words before a later place that lies in it
room_by : (s : Segment) (e : Entry) (entries : List Entry) (at count : ℕ) → All (IsOf s) (take count (e ∷ entries)) → count ≤ e.at % 1024 + 1 → e.at < at → s.number ≡ at / 1024 → count ≤ at % 1024
room_by s e entries at zero own few past there = omega arith
room_by s e entries at (suc n) own few past there = room_at e.at at s.number (suc n) (All-head (IsOf s) e (take n entries) own).there few past there
  where
    room_at : (before at number count : ℕ) → before / 1024 ≡ number → count ≤ before % 1024 + 1 → before < at → number ≡ at / 1024 → count ≤ at % 1024
    room_at before at number count h few past there = omega arith

room_in : (s : Segment) (older : List Segment) (entries : List Entry) (at : ℕ) → Covers (s ∷ older) entries → IsOpen (s ∷ older) entries → All (λ (e : Entry). e.at < at) entries → s.number ≡ at / 1024 → s.count ≤ at % 1024
room_in s older [] at covers newest past there = absurd newest
room_in s older (e ∷ entries) at covers newest past there = room_by s e entries at s.count covers.0 newest.0 (All-head (λ (e : Entry). e.at < at) e entries past) there

pub room_left : (front : List Segment) (s : Segment) (entries : List Entry) (at : ℕ) → IsFit (front ++ s ∷ []) entries → All (λ (e : Entry). e.at < at) entries → s.number ≡ at / 1024 → s.count ≤ at % 1024
room_left front s entries at fit past there =
    room_in s (reverse front) (reverse entries) at
    (subst (λ ss. Covers ss (reverse entries)) (reverse-push front s) fit.covers)
    (subst (λ ss. IsOpen ss (reverse entries)) (reverse-push front s) fit.newest)
    (All-reverse (λ (e : Entry). e.at < at) entries past) there

words_in : (s : Segment) (older : List Segment) (entries : List Entry) → IsOpen (s ∷ older) entries → length s.filter.words ≡ 16
words_in s older [] newest = absurd newest
words_in s older (e ∷ entries) newest = newest.1

-- a segment with one more entry
abbrev pub grown : Segment → KeyBits → Segment
grown s bits = record { number = s.number; count = s.count + 1; filter = record { words = added_to s.filter.words bits } }

-- a segment with its first entry
abbrev pub begun : ℕ → KeyBits → Segment
begun number bits = record { number = number; count = 1; filter = record { words = added_to (replicate 16 0) bits } }

-- an entry past all others that the newest segment gets
pub IsFit-more : (front : List Segment) (s : Segment) (entries : List Entry) (key at : ℕ) → AreInside (bits_of key) → IsFit (front ++ s ∷ []) entries → All (λ (e : Entry). e.at < at) entries → s.number ≡ at / 1024 → IsFit (front ++ grown s (bits_of key) ∷ []) (entries ++ entry_of key at ∷ [])
IsFit-more front s entries key at inside fit past there =
    let t = grown s (bits_of key) in
    let e = entry_of key at in
    let covers : Covers (s ∷ reverse front) (reverse entries) = subst (λ ss. Covers ss (reverse entries)) (reverse-push front s) fit.covers in
    let newest : IsOpen (s ∷ reverse front) (reverse entries) = subst (λ ss. IsOpen ss (reverse entries)) (reverse-push front s) fit.newest in
    let words : length s.filter.words ≡ 16 = words_in s (reverse front) (reverse entries) newest in
    let own : IsOf t e = record { there = sym there; held = may_hold-added s.filter.words (bits_of key) inside words } in
    let few : s.count + 1 ≤ at % 1024 + 1 = omega (arith, room_left front s entries at fit past there) in
    record {
      rising = all_pairs_push (λ (a b : Entry). a.at < b.at) entries e fit.rising past;
      covers = subst (λ ss. Covers ss (reverse (entries ++ e ∷ []))) (sym (reverse-push front t)) (subst (Covers (t ∷ reverse front)) (sym (reverse-push entries e))
          (Covers-more s t e (reverse front) (reverse entries) refl own (λ x h. record { there = h.there; held = may_hold-kept s.filter.words (bits_of key) (bits_of x.key) inside words h.held }) covers));
      newest = subst (λ ss. IsOpen ss (reverse (entries ++ e ∷ []))) (sym (reverse-push front t)) (subst (IsOpen (t ∷ reverse front)) (sym (reverse-push entries e))
          (few, length-added s.filter.words (bits_of key) ∙ words));
    }

-- and one with which a segment begins
pub IsFit-first : (segments : List Segment) (entries : List Entry) (key at : ℕ) → AreInside (bits_of key) → IsFit segments entries → All (λ (e : Entry). e.at < at) entries → IsFit (segments ++ begun (at / 1024) (bits_of key) ∷ []) (entries ++ entry_of key at ∷ [])
IsFit-first segments entries key at inside fit past =
    let t = begun (at / 1024) (bits_of key) in
    let e = entry_of key at in
    let words : length {A = ℕ} (replicate 16 0) ≡ 16 = length-replicate {A = ℕ} 16 0 in
    let own : IsOf t e = record { there = refl; held = may_hold-added (replicate 16 0) (bits_of key) inside words } in
    let few : 1 ≤ at % 1024 + 1 = omega arith in
    record {
      rising = all_pairs_push (λ (a b : Entry). a.at < b.at) entries e fit.rising past;
      covers = subst (λ ss. Covers ss (reverse (entries ++ e ∷ []))) (sym (reverse-push segments t)) (subst (Covers (t ∷ reverse segments)) (sym (reverse-push entries e))
          (Covers-first t e (reverse segments) (reverse entries) refl own fit.covers));
      newest = subst (λ ss. IsOpen ss (reverse (entries ++ e ∷ []))) (sym (reverse-push segments t)) (subst (IsOpen (t ∷ reverse segments)) (sym (reverse-push entries e))
          (few, length-added (replicate 16 0) (bits_of key) ∙ words));
    }

-- the walk: the newest segment's entries are the last ones, and the other segments cover the rest
pub own_entries : (front : List Segment) (s : Segment) (entries : List Entry) → Covers (reverse (front ++ s ∷ [])) (reverse entries) → All (IsOf s) (reverse (drop (length entries - s.count) entries))
own_entries front s entries h =
    let covers : Covers (s ∷ reverse front) (reverse entries) = subst (λ ss. Covers ss (reverse entries)) (reverse-push front s) h in
    subst (All (IsOf s)) (sym (reverse-back s.count entries)) covers.0

pub Covers-older : (front : List Segment) (s : Segment) (entries : List Entry) → Covers (reverse (front ++ s ∷ [])) (reverse entries) → Covers (reverse front) (reverse (take (length entries - s.count) entries))
Covers-older front s entries h =
    let covers : Covers (s ∷ reverse front) (reverse entries) = subst (λ ss. Covers ss (reverse entries)) (reverse-push front s) h in
    subst (Covers (reverse front)) (sym (reverse-front s.count entries)) covers.1

-- no entry of a segment has a key that its filter denies
pub last_of-denied : (key : ℕ) (s : Segment) (entries : List Entry) → All (IsOf s) (reverse entries) → may_hold s.filter.words (bits_of key) ≡ false → last_of key entries ≡ None
last_of-denied key s entries own denied = last_of-none key entries (λ k d h. differs _ (own k d h))
  where
    differs : (e : Entry) → IsOf s e → e.key ≡ key → ⊥
    differs e of same = let held : may_hold s.filter.words (bits_of key) ≡ true = ap (λ n. may_hold s.filter.words (bits_of n)) (sym same) ∙ of.held in cc

-- without segments there are no entries
pub last_of-empty : (key : ℕ) (segments : List Segment) (entries : List Entry) → length segments ≡ 0 → Covers (reverse segments) (reverse entries) → None ≡ last_of key entries
last_of-empty key [] entries none h = sym (ap (λ es. option_map (λ (e : Entry). e.at) (find (λ (e : Entry). e.key == key) es)) h)
last_of-empty key (s ∷ segments) entries none h = absurd (some_left (length segments) none)
  where
    some_left : (n : ℕ) → suc n ≡ 0 → ⊥
    some_left n h = omega arith

-- a segment's own entries, where the walk is at the segment
pub own_by : (older : List Segment) (newest : Segment) (unseen : List Segment) (left own : List Entry) → unseen ≡ older ++ newest ∷ [] → own ≡ drop (length left - newest.count) left → Covers (reverse unseen) (reverse left) → All (IsOf newest) (reverse own)
own_by older newest unseen left own is own_is h =
    subst (λ es. All (IsOf newest) (reverse es)) (sym own_is) (own_entries older newest left (subst (λ ss. Covers (reverse ss) (reverse left)) is h))

-- what the walk knows of what it hasn't seen, once it has passed the newest segment
pub Covers-passed : (older : List Segment) (newest : Segment) (unseen : List Segment) (left earlier : List Entry) → unseen ≡ older ++ newest ∷ [] → earlier ≡ take (length left - newest.count) left → Covers (reverse unseen) (reverse left) → Covers (reverse older) (reverse earlier)
Covers-passed older newest unseen left earlier is earlier_is h =
    subst (λ es. Covers (reverse older) (reverse es)) (sym earlier_is) (Covers-older older newest left (subst (λ ss. Covers (reverse ss) (reverse left)) is h))
