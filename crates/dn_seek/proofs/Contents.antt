use Rattle.std.proofs.Common.{ℕ, ◌+◌, ◌%◌, ◌<◌, ◌≤◌, ◌≡◌, ◌≢◌, inl, inr, ◌&&◌, ◌==◌, Bool, true, false, not, List, [], ◌∷◌, ◌++◌, length, take, get_or, nat_eq, if◌then◌else◌, refl, sym, ◌∙◌, ap, arith}
use Rattle.std.proofs.lemmas.Bool.{false≢true, cases_eq}
use Rattle.std.proofs.lemmas.Bool.Decides.{nat_tests}
use Rattle.std.proofs.lemmas.List.{take_all, take_more, length-append}
use Rattle.dn_act.specs.Action.{Performs}
use Rattle.dn_act.specs.Words.{word_at}
use Rattle.dn_record.specs.Record.{spelling, length_in_words}
use Rattle.dn_record.specs.declared.records.Record.{Record}
use Rattle.dn_record.specs.declared.records.Record.TheVariants as entry
use Rattle.dn_record.proofs.SpelledLemmas.{length-spelling}
use Rattle.dn_model.specs.Regions.{place, offsets}
use Rattle.dn_model.specs.Held.{is_authority}
use Rattle.dn_model.proofs.PieceLaws.{fits_within}
use Rattle.dn_locate.specs.Fetch.{Fetching, fetch_next, fetch_after, fetch_turn, directory_of, ended, on}
use Rattle.dn_locate.specs.declared.fetches.FetchPlace.{FetchPlace}
use Rattle.dn_locate.specs.declared.fetches.FetchPlace.TheVariants.{Idle, Directory, Header, Content, Link}
use Rattle.dn_locate.specs.declared.fetches.FetchTurn.TheVariants as fetched
use Rattle.dn_locate.specs.declared.fetches.Wish.{Wish}
use Rattle.dn_locate.specs.declared.fetches.Wish.TheVariants.{Value}
use Rattle.dn_beside.specs.Pool.{Pool, IsWhole}
use Rattle.dn_seek.specs.Wanted.{wanted, valued}
use Rattle.dn_seek.specs.Fetching.{KnowsFetch, IsLoaded, Fetched}
use Rattle.dn_seek.proofs.Spelled.{IsSpelled, spelled, in_row, stands_at, loads}
use Rattle.dn_seek.proofs.Fetches.{Stepped, directory_goes, header_goes}

-- A word behind the header of a Put is loaded: its key, or a word of its value. And so any word of a fetch.

-- ---- what the word is
-- the number of words of a Put's spelling is that of its record
put_length : (r : Record) (its : ℕ) (value : List ℕ) → r ≡ entry.Put its value → length (spelling r) ≡ length_in_words r
put_length r its value e = ap (λ x. length (spelling x)) e ∙ length-spelling (entry.Put its value) ∙ sym (ap length_in_words e)

-- number 1 is the key
put_key : (r : Record) (its : ℕ) (value : List ℕ) (i word key : ℕ) → r ≡ entry.Put its value → is_authority key r ≡ true → word ≡ get_or (spelling r) i 0 → i ≡ 1 → word ≡ key
put_key r its value i word key e a w one =
    let same : nat_eq its key ≡ true = sym (ap (is_authority key) e) ∙ a in
    let k : its ≡ key = grind (arith, nat_tests) in
    w ∙ ap (λ j. get_or (spelling r) j 0) one ∙ ap (λ x. get_or (spelling x) 1 0) e ∙ k

-- one word more of the spelling
one_more : (ws all : List ℕ) (word : ℕ) → ws ≡ take (length ws) all → length ws < length all → word ≡ get_or all (length ws) 0 → ws ++ word ∷ [] ≡ take (length ws + 1) all
one_more ws all word so_far lt e =
    let next : take (length ws + 1) all ≡ take (length ws) all ++ get_or all (length ws) 0 ∷ [] = take_more all (length ws) 0 lt in
    ap (λ x. x ++ word ∷ []) so_far ∙ ap (λ x. take (length ws) all ++ x ∷ []) e ∙ sym next

-- ---- the step
not_astray : (number word key : ℕ) → (number ≡ 1 → word ≡ key) → ((number == 1) && not (word == key)) ≡ false
not_astray number word key h = elim (cases_eq number 1) [ inl e ↦ (let k : word ≡ key = h e in grind (arith, nat_tests)) | inr d ↦ grind (arith, nat_tests) ]

contained_by : (p : Pool) (key : ℕ) (wish : Wish) (r : Record) (f : Fetching) (from count word : ℕ) (c d : Bool) → c ≡ false
    → (d ≡ true → Stepped p key wish r f word (ended fetched.Done)) → (d ≡ false → Stepped p key wish r f word (on (Content from count)))
    → Stepped p key wish r f word (if c then ended fetched.Absent else (if d then ended fetched.Done else on (Content from count)))
contained_by p key wish r f from count word true d e done more = absurd (false≢true (sym e))
contained_by p key wish r f from count word false true e done more = done refl
contained_by p key wish r f from count word false false e done more = more refl

is_last_word : (number count : ℕ) → (number + 1 == count) ≡ true → number + 1 ≡ count
is_last_word number count e = grind (arith, nat_tests)

is_no_last : (number count : ℕ) → (number + 1 == count) ≡ false → number < count → number + 1 < count
is_no_last number count e lt = let d : number + 1 ≢ count = (λ x. absurd (false≢true (sym e ∙ grind (arith, nat_tests)))) in omega arith

-- a wish for the value of a Put asks for its whole spelling
all_wanted : (wish : Wish) (r : Record) (its : ℕ) (value : List ℕ) → wish ≡ Value → r ≡ entry.Put its value → spelling r ≡ wanted wish r
all_wanted wish r its value v e = ap spelling e ∙ sym (ap valued e) ∙ sym (ap (λ x. wanted x r) v)

content_goes : (p : Pool) (key : ℕ) (wish : Wish) (r : Record) (f : Fetching) (from count word : ℕ) → IsWhole p → KnowsFetch p key wish r (record f { place = Content from count }) → word ≡ word_at p.words (from + length f.words)
    → Fetched p key wish r (fetch_after (record f { place = Content from count }) word) (fetch_turn (record f { place = Content from count }) word)
content_goes p key wish r f from count word w h e =
    let g : Fetching = record f { place = Content from count } in
    let l : IsLoaded p r g from count = h.loaded in
    let s : IsSpelled p r f.at = spelled p r f.at w h.sealed.there in
    let ws : List ℕ = f.words in
    let all : List ℕ = spelling r in
    let begins : from ≡ place p.words f.at.lane f.at.offset = l.begins in
    let whole : count ≡ length_in_words r = l.whole in
    let left : length ws < count = l.more in
    let fits : f.at.offset % 1024 + length_in_words r ≤ 1024 = fits_within f.at.offset r s.spells.fits in
    let long : length all ≡ length_in_words r = put_length r l.put.0 l.put.1 l.put.2 in
    let lt : length ws < length all = omega arith in
    let row : place p.words f.at.lane (f.at.offset + length ws) ≡ place p.words f.at.lane f.at.offset + length ws = in_row p.words f.at.lane f.at.offset (length ws) (length_in_words r) fits (omega arith) in
    let address : from + length ws ≡ place p.words f.at.lane (f.at.offset + length ws) = omega (arith, row, begins) in
    let there : word ≡ get_or all (length ws) 0 = e ∙ ap (λ x. word_at p.words x) address ∙ stands_at (offsets p.words f.at.lane) f.at.offset all (length ws) 0 s.spells.stands lt in
    let its : length ws ≡ 1 → word ≡ f.key = λ one. put_key r l.put.0 l.put.1 (length ws) word key l.put.2 h.sealed.of_key there one ∙ sym h.key_is in
    let size : length (ws ++ word ∷ []) ≡ length ws + 1 = length-append ws (word ∷ []) in
    let longer : ws ++ word ∷ [] ≡ take (length ws + 1) all = one_more ws all word l.so_far lt there in
    contained_by p key wish r g from count word ((length ws == 1) && not (word == f.key)) (length ws + 1 == count) (not_astray (length ws) word f.key its)
    (λ d. (let end : length ws + 1 ≡ count = is_last_word (length ws) count d in record {
      sealed = h.sealed;
      words_are = longer ∙ take_all (length ws + 1) all (omega (arith, end)) ∙ all_wanted wish r l.put.0 l.put.1 (sym h.wish_is ∙ l.wished) l.put.2;
    }))
    (λ d. (let more : length ws + 1 < count = is_no_last (length ws) count d left in record {
      sealed = h.sealed;
      key_is = h.key_is;
      wish_is = h.wish_is;
      segments_is = h.segments_is;
      loaded = record {
        wished = l.wished;
        put = l.put;
        begins = begins;
        whole = whole;
        so_far = longer ∙ ap (λ j. take j all) (sym size);
        some = omega (arith, size);
        more = omega (arith, size, more);
      };
    }))

-- ---- a word of a fetch
abbrev pub Goes : Pool → ℕ → Wish → Record → Fetching → ℕ → List ℕ → Type 0
Goes p key wish r f word now = (now ≡ p.words) × Fetched p key wish r (fetch_after f word) (fetch_turn f word)

goes_by : (p : Pool) (key : ℕ) (wish : Wish) (r : Record) (f : Fetching) (at_place : FetchPlace) (word : ℕ) (now : List ℕ) → IsWhole p → KnowsFetch p key wish r (record f { place = at_place })
    → Performs (fetch_next (record f { place = at_place })) word p.words now → Goes p key wish r (record f { place = at_place }) word now
goes_by p key wish r f Idle word now w h a = absurd h.loaded
goes_by p key wish r f Directory word now w h a = let l = loads (directory_of f.at) word p.words now a in (l.stays, directory_goes p key wish r f word w h l.word_is)
goes_by p key wish r f (Header from) word now w h a = let l = loads from word p.words now a in (l.stays, header_goes p key wish r f from word w h l.word_is)
goes_by p key wish r f (Content from count) word now w h a = let l = loads (from + length f.words) word p.words now a in (l.stays, content_goes p key wish r f from count word w h l.word_is)
goes_by p key wish r f (Link from) word now w h a = absurd h.loaded

pub fetch_goes : (p : Pool) (key : ℕ) (wish : Wish) (r : Record) (f : Fetching) (word : ℕ) (now : List ℕ) → IsWhole p → KnowsFetch p key wish r f → Performs (fetch_next f) word p.words now → Goes p key wish r f word now
fetch_goes p key wish r f word now w h a = goes_by p key wish r f f.place word now w h a
