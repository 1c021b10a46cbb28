use Rattle.std.proofs.Common.{ℕ, ◌+◌, ◌%◌, ◌/◌, ◌<◌, ◌≤◌, ◌≡◌, ◌&&◌, Bool, true, List, [], ◌∷◌, ◌++◌, length, take, Option, Some, nat_lt, nat_le, if◌then◌else◌, refl, sym, ◌∙◌, ap, subst, arith}
use Rattle.std.proofs.lemmas.Bool.{false≢true}
use Rattle.std.proofs.lemmas.Bool.Decides.{nat_tests}
use Rattle.dn_act.specs.Words.{word_at}
use Rattle.dn_record.specs.Head.{head_word, head_words}
use Rattle.dn_record.specs.Reading.{head_in}
use Rattle.dn_record.specs.Record.{head_of, content, length_in_words}
use Rattle.dn_record.specs.declared.heads.Head.{Head}
use Rattle.dn_record.specs.declared.records.Record.{Record}
use Rattle.dn_record.specs.declared.records.Record.TheVariants as entry
use Rattle.dn_model.specs.Regions.{directory, directory_at, place, place_in}
use Rattle.dn_model.proofs.PieceLaws.{fits_within}
use Rattle.dn_locate.specs.Fetch.{Fetching, fetch_after, fetch_turn, directory_of, names_segment, ends_inside, rest_of, ended, on, by_rest, headed, joined}
use Rattle.dn_locate.specs.declared.fetches.FetchPlace.TheVariants.{Directory, Header, Content}
use Rattle.dn_locate.specs.declared.fetches.FetchTurn.TheVariants as fetched
use Rattle.dn_locate.specs.declared.fetches.Wish.{Wish}
use Rattle.dn_locate.specs.declared.fetches.Wish.TheVariants.{Value, Kind, Place}
use Rattle.dn_locate.specs.declared.steps.FetchStep.{FetchStep}
use Rattle.dn_beside.specs.Pool.{Pool, store_in, IsWhole}
use Rattle.dn_seek.specs.Sealed.{IsSealed}
use Rattle.dn_seek.specs.Fetching.{KnowsFetch, Fetched}
use Rattle.dn_seek.proofs.Spelled.{IsSpelled, spelled}
use Rattle.dn_seek.proofs.Values.{head_read}

-- A word of a fetch is loaded: the directory's, or the header.

-- ---- the directory word
names : (word pool : ℕ) → 0 < word → word ≤ pool → (nat_lt 0 word && nat_le word pool) ≡ true
names word pool some within = grind (arith, nat_tests)

pub directory_goes : (p : Pool) (key : ℕ) (wish : Wish) (r : Record) (f : Fetching) (word : ℕ) → IsWhole p → KnowsFetch p key wish r (record f { place = Directory }) → word ≡ word_at p.words (directory_of f.at)
    → Fetched p key wish r (fetch_after (record f { place = Directory }) word) (fetch_turn (record f { place = Directory }) word)
directory_goes p key wish r f word w h e =
    let s : IsSpelled p r f.at = spelled p r f.at w h.sealed.there in
    let lane : ℕ = f.at.lane in
    let offset : ℕ = f.at.offset in
    let address : directory_of f.at ≡ directory_at lane (offset / 1024) = omega arith in
    let d : word ≡ directory p.words lane (offset / 1024) = e ∙ ap (λ x. word_at p.words x) address in
    let segments : f.segments ≡ (store_in p).pool = h.segments_is in
    let named : names_segment f.segments word ≡ true = names word f.segments (omega (arith, d, s.named)) (omega (arith, d, s.within, segments)) in
    let step : Bool → FetchStep = λ b. if b then on (Header (place_in word offset)) else ended fetched.Absent in
    let P : Bool → Type 0 = λ b. Fetched p key wish r (record f { place = (step b).place }) (step b).turn in
    subst P (sym named) (record {
      sealed = h.sealed;
      key_is = h.key_is;
      wish_is = h.wish_is;
      segments_is = segments;
      loaded = (h.loaded, ap (λ x. place_in x offset) d);
    })

-- ---- the header
-- how a step goes on at a word of the record
abbrev pub Stepped : Pool → ℕ → Wish → Record → Fetching → ℕ → FetchStep → Type 0
Stepped p key wish r f word step = Fetched p key wish r (joined f word step.place step.follow) step.turn

-- by the record's kind and the wish: only a Put's value is loaded
header_by : (p : Pool) (key : ℕ) (wish : Wish) (r : Record) (f : Fetching) (from word : ℕ) → IsSealed p key r f.at → f.words ≡ [] → word ≡ head_word (head_of r)
    → ((its : ℕ) (value : List ℕ) → r ≡ entry.Put its value → wish ≡ Value → Stepped p key wish r f word (on (Content from (length_in_words r))))
    → Stepped p key wish r f word (by_rest from (rest_of (head_of r) wish))
header_by p key Value (entry.Put its value) f from word s n e more = more its value refl refl
header_by p key Kind (entry.Put its value) f from word s n e more = record { sealed = s; words_are = ap (λ ws. ws ++ word ∷ []) n ∙ ap (λ x. x ∷ []) e }
header_by p key Place (entry.Put its value) f from word s n e more = record { sealed = s; words_are = ap (λ ws. ws ++ word ∷ []) n ∙ ap (λ x. x ∷ []) e }
header_by p key Value (entry.Delete its) f from word s n e more = record { sealed = s; words_are = ap (λ ws. ws ++ word ∷ []) n ∙ ap (λ x. x ∷ []) e }
header_by p key Kind (entry.Delete its) f from word s n e more = record { sealed = s; words_are = ap (λ ws. ws ++ word ∷ []) n ∙ ap (λ x. x ∷ []) e }
header_by p key Place (entry.Delete its) f from word s n e more = record { sealed = s; words_are = ap (λ ws. ws ++ word ∷ []) n ∙ ap (λ x. x ∷ []) e }
header_by p key wish (entry.Share its cell opening) f from word s n e more = absurd (false≢true s.plain)
header_by p key wish (entry.Unshare its left) f from word s n e more = absurd (false≢true s.plain)
header_by p key wish (entry.Loose its value) f from word s n e more = absurd (false≢true s.plain)
header_by p key wish (entry.LooseDelete its) f from word s n e more = absurd (false≢true s.plain)
header_by p key wish (entry.Pad m) f from word s n e more = absurd (false≢true s.of_key)

-- the header is the first word
first_more : (ws : List ℕ) (word first : ℕ) (rest : List ℕ) → ws ≡ [] → word ≡ first → ws ++ word ∷ [] ≡ take (length (ws ++ word ∷ [])) (first ∷ rest)
first_more [] word first rest n e = ap (λ x. x ∷ []) e
first_more (x ∷ xs) word first rest n e = absurd (cc n)

one_word : (ws : List ℕ) (word : ℕ) → ws ≡ [] → length (ws ++ word ∷ []) ≡ 1
one_word ws word n = ap (λ x. length (x ++ word ∷ [])) n

-- the record ends in the segment of its header
inside : (from count : ℕ) → from % 1024 + count ≤ 1024 → ends_inside from count ≡ true
inside from count le = grind (arith, nat_tests)

pub header_goes : (p : Pool) (key : ℕ) (wish : Wish) (r : Record) (f : Fetching) (from word : ℕ) → IsWhole p → KnowsFetch p key wish r (record f { place = Header from }) → word ≡ word_at p.words from
    → Fetched p key wish r (fetch_after (record f { place = Header from }) word) (fetch_turn (record f { place = Header from }) word)
header_goes p key wish r f from word w h e =
    let s : IsSpelled p r f.at = spelled p r f.at w h.sealed.there in
    let begins : from ≡ place p.words f.at.lane f.at.offset = h.loaded.1 in
    let none : f.words ≡ [] = h.loaded.0 in
    let there : word ≡ head_word (head_of r) = e ∙ ap (λ x. word_at p.words x) begins ∙ s.spells.stands.0 in
    let head : head_in word ≡ Some (head_of r) = ap head_in there ∙ head_read r s.spells.is_record in
    let wished : f.wish ≡ wish = h.wish_is in
    let fits : f.at.offset % 1024 + length_in_words r ≤ 1024 = fits_within f.at.offset r s.spells.fits in
    let low : from % 1024 + head_words (head_of r) ≤ 1024 = omega (arith, begins, fits) in
    let g : Fetching = record f { place = Header from } in
    let P : Option Head → Type 0 = λ o. Stepped p key wish r g word (headed from f.wish o) in
    let Q : Bool → Type 0 = λ b. Stepped p key wish r g word (if b then by_rest from (rest_of (head_of r) f.wish) else ended fetched.Absent) in
    let R : Wish → Type 0 = λ x. Stepped p key wish r g word (by_rest from (rest_of (head_of r) x)) in
    subst P (sym head) (subst Q (sym (inside from (head_words (head_of r)) low)) (subst R (sym wished)
    (header_by p key wish r g from word h.sealed none there (λ its value is v. record {
      sealed = h.sealed;
      key_is = h.key_is;
      wish_is = wished;
      segments_is = h.segments_is;
      loaded = record {
        wished = wished ∙ v;
        put = (its, value, is);
        begins = begins;
        whole = refl;
        so_far = first_more f.words word (head_word (head_of r)) (content r) none there;
        some = omega (arith, one_word f.words word none);
        more = omega (arith, one_word f.words word none, ap length_in_words is);
      };
    }))))
