use Rattle.std.specs.Prelude.{ℕ, ◌+◌, ◌-◌, ◌||◌, Bool, List, [], ◌∷◌, ◌++◌, Option, Some, None, Result, Ok, Err, min, nat_eq, nat_lt, if◌then◌else◌, length, slice_index, count_by}
use Rattle.std.specs.List.{slice_split}
use Rattle.dn_script.specs.declared.scripts.Line.{Line as LineOf}
use Rattle.dn_script.specs.declared.scripts.Script.{Script}
use Rattle.dn_script.specs.declared.scripts.Mode.{Mode}
use Rattle.dn_script.specs.declared.verbs.Verb.{Verb}
use Rattle.dn_script.specs.declared.verbs.Verb.TheVariants as verb
use Rattle.dn_script.specs.declared.faults.Cause.{Cause}
use Rattle.dn_script.specs.declared.faults.Cause.TheVariants as cause
use Rattle.dn_script.specs.declared.meanings.Meaning.{Meaning}
use Rattle.dn_script.specs.declared.meanings.Meaning.TheVariants.{Segments, Nodes, Units, Line}
use Rattle.dn_script.specs.declared.meanings.Header.{Header}
use Rattle.dn_script.specs.declared.fields.Rules.{Rules}
use Rattle.dn_script.specs.Word.{is_among}
use Rattle.dn_script.specs.Sentence.{line_meaning}

-- a bad line: its number from 1, and why it is bad
pub record BadLine : Type 0 where
  pub line : ℕ
  pub cause : Cause

-- what lines give: what the header lines say, and what the others ask for
pub record Draft : Type 0 where
  pub header : Header
  pub lines : List LineOf

-- before the first line
abbrev pub blank : Draft
blank = record { header = record { segments = None; nodes = None; units = None }; lines = [] }

-- with what one line more gives
abbrev pub with_meaning : Draft → Option Meaning → Draft
with_meaning draft None = draft
with_meaning draft (Some (Segments number)) =
    record { header = record draft.header { segments = Some number }; lines = draft.lines }
with_meaning draft (Some (Nodes number)) =
    record { header = record draft.header { nodes = Some number }; lines = draft.lines }
with_meaning draft (Some (Units number)) =
    record { header = record draft.header { units = Some number }; lines = draft.lines }
with_meaning draft (Some (Line line)) = record { header = draft.header; lines = draft.lines ++ line ∷ [] }

-- the bad line of this number, or what follows from what it gives
abbrev pub numbered : {A : Type 0} → ℕ → Result (Option Meaning) Cause → (Option Meaning → Result A BadLine) → Result A BadLine
numbered number (Err bad) follow = Err (record { line = number; cause = bad })
numbered number (Ok meaning) follow = follow meaning

-- there is a line that isn't a header line
abbrev pub is_late : Draft → Bool
is_late draft = nat_lt 0 (length draft.lines)

-- what lines give, after a draft of those before them, or the first bad one. The first of these texts has this
-- number, and behind the last newline stands nothing, or a line that is cut off.
abbrev pub drafted : List Verb → Rules → ℕ → Draft → List (List ℕ) → Result Draft BadLine
drafted verbs rules number draft [] = Ok draft
drafted verbs rules number draft (last ∷ []) =
    if nat_eq (length last) 0 then Ok draft else Err (record { line = number; cause = cause.Cut })
drafted verbs rules number draft (line ∷ next ∷ lines) =
    numbered number (line_meaning verbs rules draft.header (is_late draft) line)
    (λ meaning. drafted verbs rules (number + 1) (with_meaning draft meaning) (next ∷ lines))

-- what all lines give, or the first bad one
abbrev pub draft_in : List Verb → Rules → List ℕ → Result Draft BadLine
draft_in verbs rules bytes = drafted verbs rules 1 blank (slice_split (λ b. nat_eq b 10) bytes)

-- what a header line says, or what holds without it
abbrev pub given_or : ℕ → Option ℕ → ℕ
given_or default None = default
given_or default (Some number) = number

-- the script of all lines, in a pool of so many segments
abbrev pub finished : ℕ → Result Draft BadLine → Result Script BadLine
finished segments (Err bad) = Err bad
finished segments (Ok draft) = Ok (record {
  segments = given_or (min 1024 segments) draft.header.segments;
  nodes = given_or 1 draft.header.nodes;
  units = given_or 4096 draft.header.units;
  lines = draft.lines;
})

-- the mode, and how many segments and sessions a line may name
abbrev pub rules_of : List Verb → Mode → ℕ → Rules
rules_of verbs mode segments =
    record { mode = mode; segments = segments; sessions = if is_among verb.Sessions verbs then 1000 else 1 }

-- the script that bytes are, with these verbs, for a pool of so many segments, or its first bad line
abbrev pub script_of : List Verb → Mode → ℕ → List ℕ → Result Script BadLine
script_of verbs mode segments bytes =
    finished segments (draft_in verbs (rules_of verbs mode segments) bytes)

-- the last line has its newline
abbrev pub is_whole : List ℕ → Bool
is_whole bytes = nat_eq (length bytes) 0 || nat_eq (slice_index bytes (length bytes - 1)) 10

-- how many lines there are, the last one even if it is cut off
abbrev pub line_count : List ℕ → ℕ
line_count bytes = count_by (λ b. nat_eq b 10) bytes + (if is_whole bytes then 0 else 1)

-- what is played so far
abbrev pub played : List Verb
played =
    verb.Pool ∷ verb.Nodes ∷ verb.Get ∷ verb.Put ∷ verb.Delete ∷ verb.Lane ∷ verb.Sessions ∷ verb.Start ∷ verb.Step ∷ verb.Flow
    ∷ verb.Merge ∷ verb.Monitor ∷ verb.Add ∷ verb.Move ∷ verb.Tell ∷ verb.Trim ∷ []
