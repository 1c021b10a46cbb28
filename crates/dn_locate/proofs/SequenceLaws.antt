use Rattle.std.proofs.Common.{◌≡◌, ◌≤◌, ℕ, ◌+◌, ◌-◌, ◌++◌, ◌∷◌, [], ◌==◌, zero, suc, List, length, Option, Some, None, Bool, true, false, not, if◌then◌else◌, refl, sym, ap, subst, arith}
use Rattle.std.proofs.lemmas.Grind.{common_steps}
use Rattle.std.proofs.lemmas.List.{length_push}
use Rattle.dn_word.specs.Ref.{ref_of}
use Rattle.dn_word.specs.declared.packed.place.Ref.{Ref}
use Rattle.dn_record.specs.Head.{head_words}
use Rattle.dn_record.specs.Reading.{head_in}
use Rattle.dn_record.specs.declared.heads.Head.{Head}
use Rattle.dn_record.specs.declared.heads.Head.TheVariants.{Put, Delete, Share, Unshare, Loose, LooseDelete, Pad}
use Rattle.dn_model.specs.Regions.{place_in}
use Rattle.dn_model.specs.Program.{Program, ◌>>=◌, load, Turn, Goes, Ends, Runs}
use Rattle.dn_locate.specs.Fetch.{Fetching, names_segment, ends_inside, rest_of, ended, on, by_rest, headed, contained, reached, followed, joined, fetch_next}
use Rattle.dn_locate.specs.Sequence.{Fetched, found, more_words, astray, named, behind, headed_by, record_at, sequence, turn_by, fetch_taken, Fetches}
use Rattle.dn_locate.specs.declared.fetches.Wish.{Wish}
use Rattle.dn_locate.specs.declared.fetches.Wish.TheVariants.{Value, Kind, Place}
use Rattle.dn_locate.specs.declared.fetches.FetchPlace.{FetchPlace}
use Rattle.dn_locate.specs.declared.fetches.FetchPlace.TheVariants.{Directory, Header, Content, Link}
use Rattle.dn_locate.specs.declared.fetches.FetchTurn.TheVariants.{Done, Absent}
use Rattle.dn_locate.specs.declared.steps.Rest.{Rest}
use Rattle.dn_locate.specs.declared.steps.Rest.TheVariants.{Nothing, Words, Linked}
use Rattle.dn_locate.specs.declared.steps.FetchStep.{FetchStep}

abbrev Ran : Program Fetched → Turn Fetching Fetched → Type 0
Ran program turn = Runs fetch_next fetch_taken program turn

-- a fetch at a place with so many words
abbrev fetching : ℕ → ℕ → Wish → Ref → ℕ → FetchPlace → List ℕ → Fetching
fetching segments key wish at follows place words = record { key = key; wish = wish; at = at; place = place; words = words; follows = follows; segments = segments }

-- the turn after a word of the record
abbrev stepped : Fetching → ℕ → FetchStep → Turn Fetching Fetched
stepped f word step = turn_by step.turn (joined f word step.place step.follow)

-- the turn when so many words are still to come
abbrev content_turn : ℕ → Fetching → Turn Fetching Fetched
content_turn zero f = Ends (record { turn = Done; at = f.at; words = f.words })
content_turn (suc left) f = Goes f

contained-last : (key from count number word : ℕ) → 2 ≤ number → count ≡ number + 1 → contained key from count number word ≡ ended Done
contained-last key from count number word h e = grind (arith, common_steps)

contained-more : (key from count number word : ℕ) → 2 ≤ number → number + 2 ≤ count → contained key from count number word ≡ on (Content from count)
contained-more key from count number word h e = grind (arith, common_steps)

word_turn : (segments left key from count : ℕ) (wish : Wish) (at : Ref) (follows : ℕ) (words : List ℕ) (word : ℕ) → 2 ≤ length words → count ≡ length words + suc left
    → stepped (fetching segments key wish at follows (Content from count) words) word (contained key from count (length words) word) ≡ content_turn left (fetching segments key wish at follows (Content from count) (words ++ word ∷ []))
word_turn segments zero key from count wish at follows words word h e =
    ap (stepped (fetching segments key wish at follows (Content from count) words) word) (contained-last key from count (length words) word h (omega (arith, e)))
word_turn segments (suc left) key from count wish at follows words word h e =
    ap (stepped (fetching segments key wish at follows (Content from count) words) word) (contained-more key from count (length words) word h (omega (arith, e)))

one_more : (words : List ℕ) (word : ℕ) → length (words ++ word ∷ []) ≡ length words + 1
one_more words word = length_push words word

-- the words behind the key
more_run : (segments left key from count : ℕ) (wish : Wish) (at : Ref) (follows : ℕ) (words : List ℕ) → 2 ≤ length words → count ≡ length words + left
    → Ran (more_words left from at words) (content_turn left (fetching segments key wish at follows (Content from count) words))
more_run segments zero key from count wish at follows words h e = refl
more_run segments (suc left) key from count wish at follows words h e = (
  fetching segments key wish at follows (Content from count) words,
  refl,
  refl,
  λ word.
      let P : Turn Fetching Fetched → Type 0 = λ t. Ran (more_words left from at (words ++ word ∷ [])) t in
      let n : length (words ++ word ∷ []) ≡ length words + 1 = one_more words word in
      subst P (sym (word_turn segments left key from count wish at follows words word h e))
      (more_run segments left key from count wish at follows (words ++ word ∷ []) (omega (arith, h, n)) (omega (arith, e, n))),
)

two_of : (from count left : ℕ) → count ≡ 2 + suc left → (if 1 + 1 == count then ended Done else on (Content from count)) ≡ on (Content from count)
two_of from count left e = grind (arith, common_steps)

-- a record of which more than the header is loaded has its key there
abbrev HasKey : Rest → Type 0
HasKey Nothing = Unit {0}
HasKey (Words count) = 2 ≤ count
HasKey Linked = Unit {0}

rest_of-keyed : (head : Head) (wish : Wish) → HasKey (rest_of head wish)
rest_of-keyed (Put bytes) Value = omega arith
rest_of-keyed (Put bytes) Kind = tt
rest_of-keyed (Put bytes) Place = tt
rest_of-keyed (Loose bytes) Value = omega arith
rest_of-keyed (Loose bytes) Kind = tt
rest_of-keyed (Loose bytes) Place = tt
rest_of-keyed Delete wish = tt
rest_of-keyed LooseDelete wish = tt
rest_of-keyed Unshare Value = tt
rest_of-keyed Unshare Kind = tt
rest_of-keyed Unshare Place = omega arith
rest_of-keyed (Share cell) wish = omega arith
rest_of-keyed (Pad words) wish = tt

-- the third word of an Unshare
third_by : (follow : Ref → List ℕ → Ref → Program Fetched) (segments key : ℕ) (wish : Wish) (at : Ref) (from follows : ℕ) (words : List ℕ) (third : ℕ) (next : Option Ref)
    → ((words : List ℕ) (third : ℕ) (next : Ref) → Ran (follow at (words ++ third ∷ []) next) (stepped (fetching segments key wish at follows (Link from) words) third (reached follows (Some next))))
    → Ran (named follow at (words ++ third ∷ []) next) (stepped (fetching segments key wish at follows (Link from) words) third (reached follows next))
third_by follow segments key wish at from follows words third None f = refl
third_by follow segments key wish at from follows words third (Some next) f = f words third next

-- the key word of an Unshare whose place is followed
linked_by : (follow : Ref → List ℕ → Ref → Program Fetched) (segments key : ℕ) (wish : Wish) (at : Ref) (from follows header word : ℕ) (same : Bool)
    → ((words : List ℕ) (third : ℕ) (next : Ref) → Ran (follow at (words ++ third ∷ []) next) (stepped (fetching segments key wish at follows (Link from) words) third (reached follows (Some next))))
    → Ran (if same then (load (from + 2) >>= λ third. named follow at (header ∷ word ∷ third ∷ []) (ref_of third)) else astray at (header ∷ word ∷ []))
    (stepped (fetching segments key wish at follows (Link from) (header ∷ [])) word (if same then on (Link from) else ended Absent))
linked_by follow segments key wish at from follows header word false f = refl
linked_by follow segments key wish at from follows header word true f = (
  fetching segments key wish at follows (Link from) (header ∷ word ∷ []),
  refl,
  refl,
  λ third. third_by follow segments key wish at from follows (header ∷ word ∷ []) third (ref_of third) f,
)

-- the key word of a record of which words behind it are loaded
keyed_by : (segments key from count : ℕ) (wish : Wish) (at : Ref) (follows header word left : ℕ) (same : Bool) → count ≡ 2 + left
    → Ran (if same then more_words left from at (header ∷ word ∷ []) else astray at (header ∷ word ∷ []))
    (stepped (fetching segments key wish at follows (Content from count) (header ∷ [])) word (if not same then ended Absent else (if 1 + 1 == count then ended Done else on (Content from count))))
keyed_by segments key from count wish at follows header word left false e = refl
keyed_by segments key from count wish at follows header word zero true e =
    let P : ℕ → Type 0 = λ c. Ran (found at (header ∷ word ∷ [])) (stepped (fetching segments key wish at follows (Content from c) (header ∷ [])) word (if 1 + 1 == c then ended Done else on (Content from c))) in
    subst P (sym e) refl
keyed_by segments key from count wish at follows header word (suc left) true e =
    let P : FetchStep → Type 0 = λ step. Ran (more_words (suc left) from at (header ∷ word ∷ [])) (stepped (fetching segments key wish at follows (Content from count) (header ∷ [])) word step) in
    subst P (sym (two_of from count left e)) (more_run segments (suc left) key from count wish at follows (header ∷ word ∷ []) (omega arith) e)

-- what comes behind a header
behind_run : (follow : Ref → List ℕ → Ref → Program Fetched) (segments key : ℕ) (wish : Wish) (at : Ref) (from follows header : ℕ) (rest : Rest) → HasKey rest
    → ((words : List ℕ) (third : ℕ) (next : Ref) → Ran (follow at (words ++ third ∷ []) next) (stepped (fetching segments key wish at follows (Link from) words) third (reached follows (Some next))))
    → Ran (behind follow key from at header rest) (stepped (fetching segments key wish at follows (Header from) []) header (by_rest from rest))
behind_run follow segments key wish at from follows header Nothing k f = refl
behind_run follow segments key wish at from follows header (Words count) k f = (
  fetching segments key wish at follows (Content from count) (header ∷ []),
  refl,
  refl,
  λ word. keyed_by segments key from count wish at follows header word (count - 2) (word == key) (omega (arith, k)),
)
behind_run follow segments key wish at from follows header Linked k f = (
  fetching segments key wish at follows (Link from) (header ∷ []),
  refl,
  refl,
  λ word. linked_by follow segments key wish at from follows header word (word == key) f,
)

-- by the header's kind and the wish
inside_by : (follow : Ref → List ℕ → Ref → Program Fetched) (segments key : ℕ) (wish : Wish) (at : Ref) (from follows header : ℕ) (head : Head) (inside : Bool)
    → ((words : List ℕ) (third : ℕ) (next : Ref) → Ran (follow at (words ++ third ∷ []) next) (stepped (fetching segments key wish at follows (Link from) words) third (reached follows (Some next))))
    → Ran (if inside then behind follow key from at header (rest_of head wish) else astray at (header ∷ []))
    (stepped (fetching segments key wish at follows (Header from) []) header (if inside then by_rest from (rest_of head wish) else ended Absent))
inside_by follow segments key wish at from follows header head true f = behind_run follow segments key wish at from follows header (rest_of head wish) (rest_of-keyed head wish) f
inside_by follow segments key wish at from follows header head false f = refl

headed_run : (follow : Ref → List ℕ → Ref → Program Fetched) (segments key : ℕ) (wish : Wish) (at : Ref) (from follows header : ℕ) (head : Option Head)
    → ((words : List ℕ) (third : ℕ) (next : Ref) → Ran (follow at (words ++ third ∷ []) next) (stepped (fetching segments key wish at follows (Link from) words) third (reached follows (Some next))))
    → Ran (headed_by follow key wish from at header head) (stepped (fetching segments key wish at follows (Header from) []) header (headed from wish head))
headed_run follow segments key wish at from follows header None f = refl
headed_run follow segments key wish at from follows header (Some head) f = inside_by follow segments key wish at from follows header head (ends_inside from (head_words head)) f

-- the turn after a directory word
abbrev directed_turn : Fetching → FetchStep → Turn Fetching Fetched
directed_turn f step = turn_by step.turn (record f { place = step.place })

-- the header, where the directory word names a segment
named_by : (follow : Ref → List ℕ → Ref → Program Fetched) (segments key : ℕ) (wish : Wish) (at : Ref) (from follows : ℕ) (named : Bool)
    → ((words : List ℕ) (third : ℕ) (next : Ref) → Ran (follow at (words ++ third ∷ []) next) (stepped (fetching segments key wish at follows (Link from) words) third (reached follows (Some next))))
    → Ran (if named then (load from >>= λ header. headed_by follow key wish from at header (head_in header)) else astray at [])
    (directed_turn (fetching segments key wish at follows Directory []) (if named then on (Header from) else ended Absent))
named_by follow segments key wish at from follows true f = (
  fetching segments key wish at follows (Header from) [],
  refl,
  refl,
  λ header. headed_run follow segments key wish at from follows header (head_in header) f,
)
named_by follow segments key wish at from follows false f = refl

-- one record from its directory word on
record_run : (follow : Ref → List ℕ → Ref → Program Fetched) (segments key : ℕ) (wish : Wish) (at : Ref) (follows : ℕ)
    → ((from : ℕ) (words : List ℕ) (third : ℕ) (next : Ref) → Ran (follow at (words ++ third ∷ []) next) (stepped (fetching segments key wish at follows (Link from) words) third (reached follows (Some next))))
    → Ran (record_at follow segments key wish at) (Goes (fetching segments key wish at follows Directory []))
record_run follow segments key wish at follows f = (
  fetching segments key wish at follows Directory [],
  refl,
  refl,
  λ directory. named_by follow segments key wish at (place_in directory at.offset) follows (names_segment segments directory) (f (place_in directory at.offset)),
)

reached-next : (follows : ℕ) (next : Ref) → reached (suc follows) (Some next) ≡ followed next
reached-next follows next = grind (arith, common_steps)

-- the record that an Unshare names is fetched with one less to follow
followed_run : (segments follows key : ℕ) (wish : Wish) (at : Ref) (from : ℕ) (words : List ℕ) (third : ℕ) (next : Ref) → Ran (sequence segments follows key wish next) (Goes (fetching segments key wish next follows Directory []))
    → Ran (sequence segments follows key wish next) (stepped (fetching segments key wish at (suc follows) (Link from) words) third (reached (suc follows) (Some next)))
followed_run segments follows key wish at from words third next h =
    let P : FetchStep → Type 0 = λ step. Ran (sequence segments follows key wish next) (stepped (fetching segments key wish at (suc follows) (Link from) words) third step) in
    let Q : ℕ → Type 0 = λ n. Ran (sequence segments follows key wish next) (Goes (fetching segments key wish next n Directory [])) in
    let e : suc follows - 1 ≡ follows = omega arith in
    subst P (sym (reached-next follows next)) (subst Q (sym e) h)

all_run : (segments follows key : ℕ) (wish : Wish) (at : Ref) → Ran (sequence segments follows key wish at) (Goes (fetching segments key wish at follows Directory []))
all_run segments zero key wish at = record_run (λ at words next. found at words) segments key wish at zero (λ from words third next. refl)
all_run segments (suc follows) key wish at =
    record_run (λ at words next. sequence segments follows key wish next) segments key wish at (suc follows) (λ from words third next.
    followed_run segments follows key wish at from words third next (all_run segments follows key wish next))

-- the machine runs the whole fetch
pub sequence_run : (segments follows key : ℕ) (wish : Wish) (at : Ref)
    → Fetches (record { key = key; wish = wish; at = at; place = Directory; words = []; follows = follows; segments = segments }) (sequence segments follows key wish at)
sequence_run segments follows key wish at = record { runs = all_run segments follows key wish at }
