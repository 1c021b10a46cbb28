use Rattle.std.specs.Prelude.{ℕ, ◌+◌, ◌-◌, ◌++◌, ◌∷◌, [], ◌==◌, zero, suc, List, length, Option, Some, None, if◌then◌else◌}
use Rattle.dn_word.specs.Ref.{ref_of}
use Rattle.dn_word.specs.declared.packed.place.Ref.{Ref}
use Rattle.dn_record.specs.Reading.{head_in}
use Rattle.dn_record.specs.declared.heads.Head.{Head}
use Rattle.dn_model.specs.Program.{Program, Return, ◌>>=◌, load, Turn, Goes, Ends, Runs}
use Rattle.dn_record.specs.Head.{head_words}
use Rattle.dn_model.specs.Regions.{place_in}
use Rattle.dn_locate.specs.Fetch.{Fetching, directory_of, names_segment, ends_inside, rest_of, fetch_next, fetch_turn, fetch_after}
use Rattle.dn_locate.specs.declared.fetches.Wish.{Wish}
use Rattle.dn_locate.specs.declared.fetches.FetchTurn.{FetchTurn}
use Rattle.dn_locate.specs.declared.fetches.FetchTurn.TheVariants.{More, Done, Absent}
use Rattle.dn_locate.specs.declared.steps.Rest.{Rest}
use Rattle.dn_locate.specs.declared.steps.Rest.TheVariants.{Nothing, Words, Linked}

-- what a fetch comes to: how it ended, at which record, and the words that were loaded of it
pub record Fetched : Type 0 where
  pub turn : FetchTurn
  pub at : Ref
  pub words : List ℕ

abbrev pub found : Ref → List ℕ → Program Fetched
found at words = Return (record { turn = Done; at = at; words = words })

abbrev pub astray : Ref → List ℕ → Program Fetched
astray at words = Return (record { turn = Absent; at = at; words = words })

-- so many more words of the record, behind those that are there
abbrev pub more_words : ℕ → ℕ → Ref → List ℕ → Program Fetched
more_words zero from at words = found at words
more_words (suc left) from at words = load (from + length words) >>= λ word. more_words left from at (words ++ word ∷ [])

-- the key word, and what comes behind it where it is the key
abbrev pub keyed : ℕ → ℕ → Ref → ℕ → (List ℕ → Program Fetched) → Program Fetched
keyed key from at header behind =
    load (from + 1) >>= λ word. if word == key then behind (header ∷ word ∷ []) else astray at (header ∷ word ∷ [])

-- the record that an Unshare names, where it names one
abbrev pub named : (Ref → List ℕ → Ref → Program Fetched) → Ref → List ℕ → Option Ref → Program Fetched
named follow at words None = found at words
named follow at words (Some next) = follow at words next

-- the words behind a header
abbrev pub behind : (Ref → List ℕ → Ref → Program Fetched) → ℕ → ℕ → Ref → ℕ → Rest → Program Fetched
behind follow key from at header Nothing = found at (header ∷ [])
behind follow key from at header (Words count) = keyed key from at header (more_words (count - 2) from at)
behind follow key from at header Linked =
    keyed key from at header (λ words. load (from + 2) >>= λ third. named follow at (words ++ third ∷ []) (ref_of third))

-- by the header's kind and the wish, where the record ends in its header's segment
abbrev pub headed_by : (Ref → List ℕ → Ref → Program Fetched) → ℕ → Wish → ℕ → Ref → ℕ → Option Head → Program Fetched
headed_by follow key wish from at header None = astray at (header ∷ [])
headed_by follow key wish from at header (Some head) =
    if ends_inside from (head_words head) then behind follow key from at header (rest_of head wish) else astray at (header ∷ [])

-- the directory word, and where it names one of the pool's segments the header there, and what comes behind it
abbrev pub record_at : (Ref → List ℕ → Ref → Program Fetched) → ℕ → ℕ → Wish → Ref → Program Fetched
record_at follow segments key wish at =
    load (directory_of at) >>= λ directory.
    if names_segment segments directory
    then (load (place_in directory at.offset) >>= λ header. headed_by follow key wish (place_in directory at.offset) at header (head_in header))
    else astray at []

-- the whole fetch in a pool of so many segments, which follows at most so many Unshares
abbrev pub sequence : ℕ → ℕ → ℕ → Wish → Ref → Program Fetched
sequence segments zero key wish at = record_at (λ at words next. found at words) segments key wish at
sequence segments (suc follows) key wish at = record_at (λ at words next. sequence segments follows key wish next) segments key wish at

-- a turn of the machine: it goes on, or ends with what it has
abbrev pub turn_by : FetchTurn → Fetching → Turn Fetching Fetched
turn_by More f = Goes f
turn_by Done f = Ends (record { turn = Done; at = f.at; words = f.words })
turn_by Absent f = Ends (record { turn = Absent; at = f.at; words = f.words })

abbrev pub fetch_taken : Fetching → ℕ → Turn Fetching Fetched
fetch_taken f word = turn_by (fetch_turn f word) (fetch_after f word)

-- the fetch under way runs this program to its end
pub record Fetches (f : Fetching) (program : Program Fetched) : Type 0 where
  pub runs : Runs fetch_next fetch_taken program (Goes f)
