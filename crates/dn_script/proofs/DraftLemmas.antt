use Rattle.std.proofs.Common.{◌≡◌, ◌<◌, ◌+◌, ℕ, Bool, List, [], ◌∷◌, length, nat_lt, refl, ap, sym, ◌∙◌, arith, Option, Result, Ok, Err}
use Rattle.std.specs.List.{slice_split}
use Rattle.dn_script.specs.declared.verbs.Verb.{Verb}
use Rattle.dn_script.specs.declared.fields.Rules.{Rules}
use Rattle.dn_script.specs.declared.scripts.Line.{Line}
use Rattle.dn_script.specs.declared.meanings.Header.{Header}
use Rattle.dn_script.specs.declared.meanings.Meaning.{Meaning}
use Rattle.dn_script.specs.declared.faults.Cause.{Cause}
use Rattle.dn_script.specs.Said.{and_then}
use Rattle.dn_script.specs.Sentence.{line_meaning}
use Rattle.dn_script.specs.Script.{BadLine, Draft, with_meaning, numbered, is_late, drafted}
use Rattle.dn_script.specs.Fault.{Adds, IsDraftFault, fault_at}
use Rattle.dn_script.specs.LineFault.{IsLineFault}
use Rattle.dn_script.specs.declared.sentences.LineFault.{LineFault}
use Rattle.dn_script.specs.declared.sentences.LineFault.TheVariants.{Bad, OutOfMemory}
use Rattle.dn_script.proofs.PartLemmas.{some_parts}

-- a line that ends with its newline
drafted_more : (verbs : List Verb) (rules : Rules) (number : ℕ) (draft : Draft) (line : List ℕ) (more : List (List ℕ)) → 0 < length more
    → drafted verbs rules number draft (line ∷ more)
    ≡ numbered number (line_meaning verbs rules draft.header (is_late draft) line) (λ meaning. drafted verbs rules (number + 1) (with_meaning draft meaning) more)
drafted_more verbs rules number draft line [] h = absurd (omega arith)
drafted_more verbs rules number draft line (next ∷ more) h = refl

added : (number : ℕ) (read : Result (Option Meaning) Cause) (old new : Draft) (follow : Draft → Result Draft BadLine) → and_then read (λ meaning. Ok (with_meaning old meaning)) ≡ Ok new
    → numbered number read (λ meaning. follow (with_meaning old meaning)) ≡ follow new
added number (Ok meaning) old new follow e = let same : with_meaning old meaning ≡ new = cc in ap follow same
added number (Err bad) old new follow e = absurd (cc)

refused : {A : Type 0} (number : ℕ) (read : Result (Option Meaning) Cause) (bad : Cause) (follow : Option Meaning → Result A BadLine) → read ≡ Err bad
    → numbered number read follow ≡ Err (record { line = number; cause = bad })
refused number read bad follow e = ap (λ r. numbered number r follow) e

split_first : (p : ℕ → Bool) (verbs : List Verb) (rules : Rules) (number : ℕ) (draft : Draft) (line xs rest : List ℕ) → slice_split p xs ≡ line ∷ slice_split p rest
    → drafted verbs rules number draft (slice_split p xs)
    ≡ numbered number (line_meaning verbs rules draft.header (is_late draft) line) (λ meaning. drafted verbs rules (number + 1) (with_meaning draft meaning) (slice_split p rest))
split_first p verbs rules number draft line xs rest e =
    ap (drafted verbs rules number draft) e ∙ drafted_more verbs rules number draft line (slice_split p rest) (some_parts p rest)

-- a line that was added
pub line_kept : (p : ℕ → Bool) (verbs : List Verb) (rules : Rules) (number : ℕ) (header after : Header) (old new : List Line) (line xs rest : List ℕ) (all : Result Draft BadLine)
    → slice_split p xs ≡ line ∷ slice_split p rest
    → drafted verbs rules number (record { header = header; lines = old }) (slice_split p xs) ≡ all
    → Adds (line_meaning verbs rules header (nat_lt 0 (length old)) line) header old after new
    → drafted verbs rules (number + 1) (record { header = after; lines = new }) (slice_split p rest) ≡ all
line_kept p verbs rules number header after old new line xs rest all e before adds =
    sym (added number (line_meaning verbs rules header (nat_lt 0 (length old)) line) (record { header = header; lines = old }) (record { header = after; lines = new })
    (λ draft. drafted verbs rules (number + 1) draft (slice_split p rest)) adds)
    ∙ sym (split_first p verbs rules number (record { header = header; lines = old }) line xs rest e) ∙ before

-- a line that was refused
pub line_refused : (p : ℕ → Bool) (verbs : List Verb) (rules : Rules) (number : ℕ) (header : Header) (old : List Line) (line xs rest : List ℕ) (all : Result Draft BadLine) (fault : LineFault)
    → slice_split p xs ≡ line ∷ slice_split p rest
    → drafted verbs rules number (record { header = header; lines = old }) (slice_split p xs) ≡ all
    → IsLineFault (line_meaning verbs rules header (nat_lt 0 (length old)) line) fault
    → IsDraftFault all (fault_at number fault)
line_refused p verbs rules number header old line xs rest all (Bad bad) e before is =
    sym before ∙ split_first p verbs rules number (record { header = header; lines = old }) line xs rest e
    ∙ refused number (line_meaning verbs rules header (nat_lt 0 (length old)) line) bad
    (λ meaning. drafted verbs rules (number + 1) (with_meaning (record { header = header; lines = old }) meaning) (slice_split p rest)) is
line_refused p verbs rules number header old line xs rest all OutOfMemory e before is = tt
