use Rattle.std.specs.Prelude.{ℕ, ◌&&◌, ◌||◌, Bool, true, false, not, List, [], ◌∷◌, Option, Some, None, Result, Ok, Err, nat_eq, nat_lt, nat_le, if◌then◌else◌, length, drop, slice_index, count_by}
use Rattle.std.specs.List.{list_all, slice_split, find}
use Rattle.std.specs.Cmp.Lexicographic.{pointwise}
use Rattle.dn_script.specs.declared.faults.Cause.{Cause}
use Rattle.dn_script.specs.declared.faults.Cause.TheVariants as cause
use Rattle.dn_script.specs.declared.scripts.Mode.{Mode}
use Rattle.dn_script.specs.declared.scripts.Mode.TheVariants as mode
use Rattle.dn_script.specs.declared.verbs.Verb.{Verb}
use Rattle.dn_script.specs.declared.verbs.Verb.TheVariants as verb
use Rattle.dn_script.specs.declared.rows.Part.{Part}
use Rattle.dn_script.specs.declared.rows.Part.TheVariants.{Word, Session, Named}
use Rattle.dn_script.specs.declared.rows.Row.{Row}
use Rattle.dn_script.specs.declared.rows.Row.TheVariants as row
use Rattle.dn_script.specs.declared.meanings.Meaning.{Meaning}
use Rattle.dn_script.specs.declared.meanings.Header.{Header}
use Rattle.dn_script.specs.declared.fields.Rules.{Rules}
use Rattle.dn_script.specs.Number.{is_within, is_digit}
use Rattle.dn_script.specs.Word.{word_of, is_among}
use Rattle.dn_script.specs.Table.{table, parts_of, is_needed, is_of_storm}
use Rattle.dn_script.specs.Said.{Said, unsaid, and_then, reading}
use Rattle.dn_script.specs.Meaning.{meaning_of}

-- ---- which row a line begins

-- the fields of a line, which single spaces keep apart
abbrev pub fields_of : List ℕ → List (List ℕ)
fields_of line = slice_split (λ b. nat_eq b 32) line

-- `c` and at least one digit
abbrev pub is_session : List ℕ → Bool
is_session field = nat_eq (slice_index field 0) 99 && nat_lt 1 (length field) && list_all is_digit (drop 1 field)

-- a field looks like a part: a word is itself, a session begins with `c`, and a lane that a call names with `@`
abbrev pub looks_like : Part → List ℕ → Bool
looks_like (Word verb) field = pointwise nat_eq field (word_of verb)
looks_like Session field = is_session field
looks_like Named field = nat_eq (slice_index field 0) 64
looks_like _ field = true

-- each field that stands there looks like its part
abbrev pub begins : List Part → List (List ℕ) → Bool
begins [] fields = true
begins (part ∷ parts) [] = true
begins (part ∷ parts) (field ∷ fields) = looks_like part field && begins parts fields

-- a part is played
abbrev pub is_known : List Verb → Part → Bool
is_known verbs (Word verb) = is_among verb verbs
is_known verbs Named = is_among verb.Lane verbs
is_known verbs _ = true

-- a row is one that the line begins, and all of it is played
abbrev pub is_begun : List Verb → List (List ℕ) → Row → Bool
is_begun verbs fields row = begins (parts_of row) fields && list_all (is_known verbs) (parts_of row)

-- the first such row
abbrev pub row_of : List Verb → List (List ℕ) → Option Row
row_of verbs fields = find (is_begun verbs fields) table

-- ---- what a line gives, or the first cause for which it is bad

-- the mode has no lines of the row
abbrev pub is_barred : Mode → Row → Bool
is_barred mode.Play row = false
is_barred mode.Storm row = not (is_of_storm row)

-- there is a number
abbrev pub is_given : Option ℕ → Bool
is_given None = false
is_given (Some number) = true

-- a header line that stands behind another line, or is the second of its kind
abbrev pub is_misplaced : Row → Header → Bool → Bool
is_misplaced row.Pool header is_late = is_late || is_given header.segments
is_misplaced row.Nodes header is_late = is_late || is_given header.nodes
is_misplaced row.Cache header is_late = is_late || is_given header.units
is_misplaced _ header is_late = false

-- so many fields are those of the parts
abbrev pub has_count : List Part → ℕ → Bool
has_count parts fields = nat_le (count_by is_needed parts) fields && nat_le fields (length parts)

-- what the fields of a line of the row say, or the first cause for which it is bad, from `mode` on
abbrev pub checked : Rules → Header → Bool → List (List ℕ) → Row → Result Said Cause
checked rules header is_late fields row =
    if is_barred rules.mode row then Err cause.Mode
    else (if is_misplaced row header is_late then Err cause.Header
    else (if not (has_count (parts_of row) (length fields)) then Err cause.Count
    else reading rules (parts_of row) fields unsaid))

-- what a line of the row gives
abbrev pub judged : Rules → Header → Bool → List (List ℕ) → Row → Result Meaning Cause
judged rules header is_late fields row =
    and_then (checked rules header is_late fields row) (λ said. Ok (meaning_of row said))

-- what a line that isn't idle gives, where it begins the row
abbrev pub judged_by : Rules → Header → Bool → List (List ℕ) → Option Row → Result (Option Meaning) Cause
judged_by rules header is_late fields None = Err cause.Verb
judged_by rules header is_late fields (Some row) =
    and_then (judged rules header is_late fields row) (λ meaning. Ok (Some meaning))

-- an empty line, or one that begins with `;`
abbrev pub is_idle : List ℕ → Bool
is_idle line = nat_eq (length line) 0 || nat_eq (slice_index line 0) 59

-- What a line gives, or the first cause for which it is bad, from `long` on. The header lines before it say this, and
-- it is late where another line stands before it.
abbrev pub line_meaning : List Verb → Rules → Header → Bool → List ℕ → Result (Option Meaning) Cause
line_meaning verbs rules header is_late line =
    if nat_lt 4096 (length line) then Err cause.Long
    else (if not (list_all (is_within 32 126) line) then Err cause.Byte
    else (if is_idle line then Ok None
    else judged_by rules header is_late (fields_of line) (row_of verbs (fields_of line))))
