use Rattle.std.specs.Prelude.{◌≡◌, ◌≢◌, ◌⊎◌, ℕ, ◌+◌, ◌-◌, ◌*◌, ◌/◌, ◌%◌, ◌^◌, ◌<◌, ◌≤◌, ◌++◌, ◌∷◌, [], ◌&&◌, ◌==◌, Bool, true, false, List, length, Option, Some, None, not, nat_lt, nat_le, if◌then◌else◌}
use Rattle.dn_act.specs.Words.{pool_size}
use Rattle.dn_word.specs.Ref.{ref_of}
use Rattle.dn_word.specs.declared.packed.place.Ref.{Ref}
use Rattle.dn_act.specs.declared.actions.Action.{Action}
use Rattle.dn_act.specs.declared.actions.Action.TheVariants.{Load, Store, Cas, Or, Add}
use Rattle.dn_model.specs.Regions.{place_in}
use Rattle.dn_record.specs.Head.{head_words}
use Rattle.dn_record.specs.Reading.{head_in}
use Rattle.dn_record.specs.declared.heads.Head.{Head}
use Rattle.dn_record.specs.declared.heads.Head.TheVariants.{Put, Delete, Share, Unshare, Loose, LooseDelete, Pad}
use Rattle.dn_locate.specs.declared.fetches.Wish.{Wish}
use Rattle.dn_locate.specs.declared.fetches.Wish.TheVariants.{Value, Kind, Place}
use Rattle.dn_locate.specs.declared.fetches.FetchPlace.{FetchPlace}
use Rattle.dn_locate.specs.declared.fetches.FetchPlace.TheVariants.{Idle, Directory, Header, Content, Link}
use Rattle.dn_locate.specs.declared.fetches.FetchTurn.{FetchTurn}
use Rattle.dn_locate.specs.declared.fetches.FetchTurn.TheVariants.{More, Done, Absent}
use Rattle.dn_locate.specs.declared.steps.Rest.{Rest}
use Rattle.dn_locate.specs.declared.steps.Rest.TheVariants.{Nothing, Words, Linked}
use Rattle.dn_locate.specs.declared.steps.FetchStep.{FetchStep}

-- a fetch: the key that is wanted, what it is to bring, where the record stands, where the fetch is in its loads, the record's words so far, how many more Unshares it follows, and the number of the pool's segments
pub record Fetching : Type 0 where
  pub key : ℕ
  pub wish : Wish
  pub at : Ref
  pub place : FetchPlace
  pub words : List ℕ
  pub follows : ℕ
  pub segments : ℕ

-- none is under way
abbrev pub idle : Fetching
idle = record { key = 0; wish = Kind; at = record { lane = 0; offset = 0 }; place = Idle; words = []; follows = 0; segments = 8192 }

-- the pool has so many segments; what was under way is given up
abbrev pub of_pool : Fetching → ℕ → Fetching
of_pool f segments = record f { place = Idle; segments = segments }

-- one begins, with nothing loaded
abbrev pub started : Fetching → ℕ → Ref → Wish → Fetching
started f key at wish = record { key = key; wish = wish; at = at; place = Directory; words = []; follows = 4096; segments = f.segments }

-- whether a word is loaded next
abbrev pub is_loading : FetchPlace → Bool
is_loading Idle = false
is_loading Directory = true
is_loading (Header from) = true
is_loading (Content from count) = true
is_loading (Link from) = true

abbrev pub is_under_way : Fetching → Bool
is_under_way f = is_loading f.place

-- the lane's directory word of the offset's segment
abbrev pub directory_of : Ref → ℕ
directory_of at = 1024 + 256 * at.lane + at.offset / 1024

-- whether a directory word names one of so many segments: it is the segment's number plus 1
abbrev pub names_segment : ℕ → ℕ → Bool
names_segment segments word = nat_lt 0 word && nat_le word segments

-- whether a record of so many words, whose header is this word of the pool, ends in the header's segment; segments begin at multiples of their 1,024 words
abbrev pub ends_inside : ℕ → ℕ → Bool
ends_inside from count = nat_le (from % 1024 + count) 1024

-- the loads: the directory word, then the record's words in their order
abbrev pub next_at : Fetching → FetchPlace → Action
next_at f Idle = Load 0
next_at f Directory = Load (directory_of f.at)
next_at f (Header from) = Load from
next_at f (Content from count) = Load (from + length f.words)
next_at f (Link from) = Load (from + length f.words)

abbrev pub fetch_next : Fetching → Action
fetch_next f = next_at f f.place

-- what is loaded behind a header: a value for a get, the place of what an Unshare left, a shared key's cell
abbrev pub rest_of : Head → Wish → Rest
rest_of (Put bytes) Value = Words (head_words (Put bytes))
rest_of (Put bytes) Kind = Nothing
rest_of (Put bytes) Place = Nothing
rest_of (Loose bytes) Value = Words (head_words (Loose bytes))
rest_of (Loose bytes) Kind = Nothing
rest_of (Loose bytes) Place = Nothing
rest_of Delete wish = Nothing
rest_of LooseDelete wish = Nothing
rest_of Unshare Value = Linked
rest_of Unshare Kind = Nothing
rest_of Unshare Place = Words (head_words Unshare)
rest_of (Share cell) wish = Words (head_words (Share cell))
rest_of (Pad words) wish = Nothing

-- the fetch ends
abbrev pub ended : FetchTurn → FetchStep
ended turn = record { place = Idle; turn = turn; follow = None }

-- it goes on at a place
abbrev pub on : FetchPlace → FetchStep
on place = record { place = place; turn = More; follow = None }

-- it goes on with another record
abbrev pub followed : Ref → FetchStep
followed at = record { place = Directory; turn = More; follow = Some at }

-- after the directory word: the header is next, where the word names a segment
abbrev pub directed : ℕ → Ref → ℕ → FetchStep
directed segments at word = if names_segment segments word then on (Header (place_in word at.offset)) else ended Absent

-- after the header
abbrev pub by_rest : ℕ → Rest → FetchStep
by_rest from Nothing = ended Done
by_rest from (Words count) = on (Content from count)
by_rest from Linked = on (Link from)

abbrev pub headed : ℕ → Wish → Option Head → FetchStep
headed from wish None = ended Absent
headed from wish (Some head) = if ends_inside from (head_words head) then by_rest from (rest_of head wish) else ended Absent

-- after the word with this number of a record of which so many are loaded; number 1 is the key
abbrev pub contained : ℕ → ℕ → ℕ → ℕ → ℕ → FetchStep
contained key from count number word =
    if (number == 1) && not (word == key) then ended Absent
    else (if number + 1 == count then ended Done else on (Content from count))

-- after the third word of an Unshare: its place is followed, where it has one
abbrev pub reached : ℕ → Option Ref → FetchStep
reached follows None = ended Done
reached follows (Some at) = if follows == 0 then ended Done else followed at

-- after the second or third word of an Unshare
abbrev pub linked : ℕ → ℕ → ℕ → ℕ → ℕ → FetchStep
linked key from follows number word =
    if number == 1 then (if word == key then on (Link from) else ended Absent)
    else reached follows (ref_of word)

abbrev pub step_in : Fetching → ℕ → FetchPlace → FetchStep
step_in f word Idle = ended Absent
step_in f word Directory = directed f.segments f.at word
step_in f word (Header from) = headed from f.wish (head_in word)
step_in f word (Content from count) = contained f.key from count (length f.words) word
step_in f word (Link from) = linked f.key from f.follows (length f.words) word

abbrev pub fetch_step : Fetching → ℕ → FetchStep
fetch_step f word = step_in f word f.place

-- how the fetch goes on once a load found this word
abbrev pub fetch_turn : Fetching → ℕ → FetchTurn
fetch_turn f word = (fetch_step f word).turn

-- a word of the record joins those before it; the record that is followed begins with none
abbrev pub joined : Fetching → ℕ → FetchPlace → Option Ref → Fetching
joined f word place None = record f { place = place; words = f.words ++ word ∷ [] }
joined f word place (Some at) = record f { at = at; place = place; words = []; follows = f.follows - 1 }

abbrev pub after_in : Fetching → ℕ → FetchPlace → FetchStep → Fetching
after_in f word Idle step = f
after_in f word Directory step = record f { place = step.place }
after_in f word (Header from) step = joined f word step.place step.follow
after_in f word (Content from count) step = joined f word step.place step.follow
after_in f word (Link from) step = joined f word step.place step.follow

abbrev pub fetch_after : Fetching → ℕ → Fetching
fetch_after f word = after_in f word f.place (fetch_step f word)

-- a record of this head, whose header is this word of the pool, crosses the end of its segment
abbrev pub Crosses : ℕ → Option Head → Type 0
Crosses from None = ⊥
Crosses from (Some head) = 1024 < from % 1024 + head_words head

-- a directory word that names no segment of the pool, a header outside the grammar or of a record that crosses its segment's end, or another key word
abbrev pub IsAstray : Fetching → ℕ → FetchPlace → Type 0
IsAstray f word Idle = ⊥
IsAstray f word Directory = (word ≡ 0) ⊎ (f.segments < word)
IsAstray f word (Header from) = (head_in word ≡ None) ⊎ Crosses from (head_in word)
IsAstray f word (Content from count) = (length f.words ≡ 1) × (word ≢ f.key)
IsAstray f word (Link from) = (length f.words ≡ 1) × (word ≢ f.key)

-- a bound on the loads that are left of the record
abbrev pub left_in : ℕ → FetchPlace → ℕ
left_in number Idle = 0
left_in number Directory = 140
left_in number (Header from) = 139
left_in number (Content from count) = count - number
left_in number (Link from) = head_words Unshare - number

-- and of all that are followed
abbrev pub fetch_left : Fetching → ℕ
fetch_left f = 140 * f.follows + left_in (length f.words) f.place

-- ---- fetches that the formats bound
-- it is a load
abbrev pub IsLoad : Action → Type 0
IsLoad (Load at) = Unit {0}
IsLoad (Store at word) = ⊥
IsLoad (Cas at old new) = ⊥
IsLoad (Or at bits) = ⊥
IsLoad (Add at by) = ⊥

-- how many words are loaded at a place
abbrev pub FitsAt : ℕ → FetchPlace → Type 0
FitsAt number Idle = Unit {0}
FitsAt number Directory = number ≡ 0
FitsAt number (Header from) = number ≡ 0
FitsAt number (Content from count) = (1 ≤ number) × (number < count) × (count ≤ 133)
FitsAt number (Link from) = (1 ≤ number) × (number < head_words Unshare)

-- the pool's word behind all that are loaded of the record at hand
abbrev pub end_of : FetchPlace → ℕ
end_of Idle = 0
end_of Directory = 0
end_of (Header from) = from + 1
end_of (Content from count) = from + count
end_of (Link from) = from + head_words Unshare

-- the words behind a header of a record with so many are those of the record
abbrev pub IsRest : ℕ → Rest → Type 0
IsRest most Nothing = Unit {0}
IsRest most (Words count) = (2 ≤ count) × (count ≤ 133) × (count ≤ most)
IsRest most Linked = head_words Unshare ≤ most

-- a step that a fetch can take once so many words are loaded: one word more, none behind this end, or another record
abbrev pub FitsStep : ℕ → ℕ → ℕ → FetchPlace → Option Ref → Type 0
FitsStep number follows end place None = FitsAt (number + 1) place × (end_of place ≤ end)
FitsStep number follows end place (Some at) = (at.offset < 2 ^ 24) × (0 < follows) × (place ≡ Directory)

-- a fetch loads words of its pool
pub record IsFetch (f : Fetching) : Type 0 where
  pub offset : f.at.offset < 2 ^ 24
  pub most : length f.words ≤ 133
  pub fits : FitsAt (length f.words) f.place
  pub pool : f.segments ≤ 8192
  pub inside : end_of f.place ≤ pool_size f.segments
