use Rattle.std.specs.Prelude.{◌≡◌, ℕ, ◌<◌, ◌≤◌, List, Option, Result, Ok, Err}
use Rattle.dn_script.specs.declared.scripts.Mode.{Mode}
use Rattle.dn_script.specs.declared.scripts.Line.{Line}
use Rattle.dn_script.specs.declared.verbs.Verb.{Verb}
use Rattle.dn_script.specs.declared.meanings.Header.{Header}
use Rattle.dn_script.specs.declared.meanings.Meaning.{Meaning}
use Rattle.dn_script.specs.declared.faults.Cause.{Cause}
use Rattle.dn_script.specs.declared.faults.ParseFault.{ParseFault}
use Rattle.dn_script.specs.declared.faults.ParseFault.TheVariants as fault
use Rattle.dn_script.specs.declared.sentences.LineFault.{LineFault}
use Rattle.dn_script.specs.declared.sentences.LineFault.TheVariants.{Bad, OutOfMemory}
use Rattle.dn_script.specs.declared.parsing.Draft.{Draft as DraftOf}
use Rattle.dn_script.specs.Said.{and_then}
use Rattle.dn_script.specs.Script.{BadLine, Draft, with_meaning, line_count, script_of}

-- why bytes are no script: too many lines, or a bad one where there aren't
abbrev pub IsParseFault : List Verb → Mode → ℕ → List ℕ → ParseFault → Type 0
IsParseFault verbs mode segments bytes (fault.Bad line cause) =
    (script_of verbs mode segments bytes ≡ Err (record { line = line; cause = cause })) × (line_count bytes ≤ 1000000)
IsParseFault verbs mode segments bytes fault.Lines = 1000000 < line_count bytes
IsParseFault verbs mode segments bytes fault.OutOfMemory = Unit {0}

-- what the lines give, without where they lie in memory
abbrev pub draft_of : DraftOf → Draft
draft_of draft = record { header = draft.header; lines = draft.lines.items }

-- why there is no draft
abbrev pub IsDraftFault : Result Draft BadLine → ParseFault → Type 0
IsDraftFault draft (fault.Bad line cause) = draft ≡ Err (record { line = line; cause = cause })
IsDraftFault draft fault.Lines = ⊥
IsDraftFault draft fault.OutOfMemory = Unit {0}

-- a line that was read so adds this
abbrev pub Adds : Result (Option Meaning) Cause → Header → List Line → Header → List Line → Type 0
Adds read header lines after more =
    and_then read (λ meaning. Ok (with_meaning (record { header = header; lines = lines }) meaning))
    ≡ Ok (record { header = after; lines = more })

-- the fault of the line of this number
abbrev pub fault_at : ℕ → LineFault → ParseFault
fault_at number (Bad cause) = fault.Bad number cause
fault_at number OutOfMemory = fault.OutOfMemory
