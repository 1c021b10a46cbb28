use Rattle.std.proofs.Common.{◌≡◌, ◌≤◌, ◌+◌, ℕ, Bool, true, false, cond, not, Option, Some, None, IfSome, List, [], ◌∷◌, All, length, nat_eq, min, refl, subst, arith, Result, Ok, Err}
use Rattle.std.proofs.lemmas.List.Splits.{length-slice_split}
use Rattle.std.proofs.lemmas.List.Elements.{All-nil, All-cons, All-append}
use Rattle.std.specs.List.{slice_split}
use Rattle.dn_script.specs.declared.faults.Cause.TheVariants as cause
use Rattle.dn_script.specs.declared.verbs.Verb.{Verb}
use Rattle.dn_script.specs.declared.verbs.Verb.TheVariants as verb
use Rattle.dn_script.specs.declared.scripts.Mode.{Mode}
use Rattle.dn_script.specs.declared.scripts.Script.{Script}
use Rattle.dn_script.specs.Word.{is_among}
use Rattle.dn_script.specs.declared.rows.Row.{Row}
use Rattle.dn_script.specs.declared.rows.Row.TheVariants.{Pool, Nodes, Cache, Get, Put, Delete, Step, Flow, Merge, Monitor, Add, Move, Fence, Takeover, StartMove, StartTakeover, Balance, Remove, Stop, Fuse, Fail, Trim, Tell}
use Rattle.dn_script.specs.declared.meanings.Header.{Header}
use Rattle.dn_script.specs.declared.meanings.Meaning.{Meaning}
use Rattle.dn_script.specs.declared.meanings.Meaning.TheVariants as gives
use Rattle.dn_script.specs.declared.fields.Rules.{Rules}
use Rattle.dn_script.specs.Table.{parts_of}
use Rattle.dn_script.specs.Said.{Said, unsaid, reading}
use Rattle.dn_script.specs.Meaning.{meaning_of}
use Rattle.dn_script.specs.Sentence.{fields_of, is_barred, is_misplaced, has_count, checked, judged, line_meaning}
use Rattle.dn_script.specs.Script.{BadLine, Draft, blank, with_meaning, drafted, given_or, finished, rules_of, script_of}
use Rattle.dn_script.specs.Fit.{IsIn, IsSession, IsLine, IsScript}
use Rattle.dn_script.proofs.Walks.{Grows, line_gives, drafted_keeps, count_few}
use Rattle.dn_script.proofs.SaidFits.{AreRules, IsSaid, unsaid_fits, then_fits, reading_fits}

-- what a line gives lies in its range
abbrev pub IsMeant : Rules → Meaning → Type 0
IsMeant rules (gives.Segments number) = 1 ≤ rules.segments → IsIn 1 rules.segments number
IsMeant rules (gives.Nodes number) = IsIn 1 63 number
IsMeant rules (gives.Units number) = IsIn 0 1000000 number
IsMeant rules (gives.Line line) = IsLine line

session_of : (rules : Rules) → AreRules rules → (n : ℕ) → IsIn 1 rules.sessions n → IsSession n
session_of rules r n h = record { least_of = h.least_of; most_of = omega (arith, h.most_of, r.most) }

row_fits : (rules : Rules) (row : Row) (said : Said) → AreRules rules → IsSaid rules said → IsMeant rules (meaning_of row said)
row_fits rules Pool said r h = h.segments
row_fits rules Nodes said r h = h.nodes
row_fits rules Cache said r h = h.units
row_fits rules (Get form) said r h = (session_of rules r said.session h.session, h.named, h.key)
row_fits rules (Put form) said r h = (session_of rules r said.session h.session, h.named, (h.key, h.value))
row_fits rules (Delete form) said r h = (session_of rules r said.session h.session, h.named, h.key)
row_fits rules Step said r h = (h.lane, h.count)
row_fits rules Flow said r h = (h.lane, h.index)
row_fits rules Merge said r h = (h.lane, h.count)
row_fits rules Monitor said r h = h.count
row_fits rules Add said r h = tt
row_fits rules Move said r h = (h.key, h.lane)
row_fits rules Fence said r h = h.lane
row_fits rules Takeover said r h = h.lane
row_fits rules StartMove said r h = (h.key, h.lane)
row_fits rules StartTakeover said r h = h.lane
row_fits rules Balance said r h = tt
row_fits rules Remove said r h = h.lane
row_fits rules Stop said r h = h.lane
row_fits rules Fuse said r h = (h.lane, h.count)
row_fits rules Fail said r h = h.lane
row_fits rules Trim said r h = h.lane
row_fits rules Tell said r h = (session_of rules r said.from h.from, session_of rules r said.to h.to)

pub checked_fits : (rules : Rules) (a b c : Bool) (row : Row) (fields : List (List ℕ)) (said : Said) → AreRules rules
    → cond a (Err cause.Mode) (cond b (Err cause.Header) (cond c (Err cause.Count) (reading rules (parts_of row) fields unsaid))) ≡ Ok said → IsSaid rules said
checked_fits rules true b c row fields said r e = absurd (cc)
checked_fits rules false true c row fields said r e = absurd (cc)
checked_fits rules false false true row fields said r e = absurd (cc)
checked_fits rules false false false row fields said r e = reading_fits rules (parts_of row) fields unsaid said (unsaid_fits rules r) e

judged_fits : (rules : Rules) (header : Header) (late : Bool) (fields : List (List ℕ)) (row : Row) (meaning : Meaning) → AreRules rules → judged rules header late fields row ≡ Ok meaning → IsMeant rules meaning
judged_fits rules header late fields row meaning r e =
    then_fits (IsSaid rules) (IsMeant rules) (checked rules header late fields row) (λ said. Ok (meaning_of row said)) meaning
    (λ said f. checked_fits rules (is_barred rules.mode row) (is_misplaced row header late) (not (has_count (parts_of row) (length fields))) row fields said r f)
    (λ said h f. let same : meaning_of row said ≡ meaning = cc in subst (IsMeant rules) same (row_fits rules row said r h)) e

-- what a line gives lies in its range
line_fits : (verbs : List Verb) (rules : Rules) (header : Header) (late : Bool) (line : List ℕ) (meaning : Option Meaning) → AreRules rules → line_meaning verbs rules header late line ≡ Ok meaning → IfSome meaning (IsMeant rules)
line_fits verbs rules header late line meaning r e =
    line_gives (IsMeant rules) verbs rules header late line meaning (λ row m _ f. judged_fits rules header late (fields_of line) row m r f) e

-- what lines give lies in its range
pub record IsDraft (rules : Rules) (draft : Draft) : Type 0 where
  pub segments : IfSome draft.header.segments (λ n. 1 ≤ rules.segments → IsIn 1 rules.segments n)
  pub nodes : IfSome draft.header.nodes (IsIn 1 63)
  pub units : IfSome draft.header.units (IsIn 0 1000000)
  pub lines : All IsLine draft.lines

meaning_kept : (rules : Rules) (draft : Draft) (meaning : Option Meaning) → IsDraft rules draft → IfSome meaning (IsMeant rules) → IsDraft rules (with_meaning draft meaning)
meaning_kept rules draft None d h = d
meaning_kept rules draft (Some (gives.Segments n)) d h = record { segments = h; nodes = d.nodes; units = d.units; lines = d.lines }
meaning_kept rules draft (Some (gives.Nodes n)) d h = record { segments = d.segments; nodes = h; units = d.units; lines = d.lines }
meaning_kept rules draft (Some (gives.Units n)) d h = record { segments = d.segments; nodes = d.nodes; units = h; lines = d.lines }
meaning_kept rules draft (Some (gives.Line line)) d h = record {
  segments = d.segments;
  nodes = d.nodes;
  units = d.units;
  lines = All-append IsLine draft.lines (line ∷ []) d.lines (All-cons IsLine line [] h (All-nil IsLine));
}

-- ---- the script

given : (P : ℕ → Type 0) (default : ℕ) (number : Option ℕ) → P default → IfSome number P → P (given_or default number)
given P default None d h = d
given P default (Some n) d h = h

rules_are : (verbs : List Verb) (mode : Mode) (segments : ℕ) (b : Bool) → is_among verb.Sessions verbs ≡ b → AreRules (rules_of verbs mode segments)
rules_are verbs mode segments true e = record { few = rw e (omega arith); most = rw e (omega arith) }
rules_are verbs mode segments false e = record { few = rw e (omega arith); most = rw e (omega arith) }

finished_fits : (rules : Rules) (segments bytes : ℕ) (read : Result Draft BadLine) (script : Script) → rules.segments ≡ segments
    → ((draft : Draft) → read ≡ Ok draft → Grows (IsDraft rules) 0 (bytes + 1) draft) → finished segments read ≡ Ok script → IsScript segments bytes script
finished_fits rules segments bytes (Err bad) script same h e = absurd (cc)
finished_fits rules segments bytes (Ok draft) script same h e =
    let d = h draft refl in
    let whole : record { segments = given_or (min 1024 segments) draft.header.segments; nodes = given_or 1 draft.header.nodes; units = given_or 4096 draft.header.units; lines = draft.lines } ≡ script = cc in
    subst (IsScript segments bytes) whole (record {
      segments_in = given (λ n. 1 ≤ segments → IsIn 1 segments n) (min 1024 segments) draft.header.segments (λ some. record { least_of = omega (arith, some); most_of = omega arith })
          (subst (λ n. IfSome draft.header.segments (λ m. 1 ≤ n → IsIn 1 n m)) same d.fit.segments);
      nodes_in = given (IsIn 1 63) 1 draft.header.nodes (record { least_of = omega arith; most_of = omega arith }) d.fit.nodes;
      units_in = given (IsIn 0 1000000) 4096 draft.header.units (record { least_of = omega arith; most_of = omega arith }) d.fit.units;
      fit = d.fit.lines;
      few = omega (arith, d.few);
    })

pub script_fits : (verbs : List Verb) (mode : Mode) (segments : ℕ) (bytes : List ℕ) (script : Script) → script_of verbs mode segments bytes ≡ Ok script → IsScript segments (length bytes) script
script_fits verbs mode segments bytes script e =
    let r = rules_are verbs mode segments (is_among verb.Sessions verbs) refl in
    let nothing : IsDraft (rules_of verbs mode segments) blank = record { segments = tt; nodes = tt; units = tt; lines = All-nil IsLine } in
    finished_fits (rules_of verbs mode segments) segments (length bytes) (drafted verbs (rules_of verbs mode segments) 1 blank (slice_split (λ b. nat_eq b 10) bytes)) script refl
    (λ draft f.
    let g = drafted_keeps (IsMeant (rules_of verbs mode segments)) (IsDraft (rules_of verbs mode segments)) verbs (rules_of verbs mode segments)
    (λ old meaning. meaning_kept (rules_of verbs mode segments) old meaning)
    (λ header late line meaning g. line_fits verbs (rules_of verbs mode segments) header late line meaning r g)
    1 blank draft (slice_split (λ b. nat_eq b 10) bytes) nothing (omega (arith, length-slice_split (λ b. nat_eq b 10) bytes)) f in
    record { fit = g.fit; few = omega (arith, g.few, length-slice_split (λ b. nat_eq b 10) bytes, count_few (λ b. nat_eq b 10) bytes) }) e
