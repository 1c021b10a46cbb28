use Rattle.std.specs.Prelude.{◌≡◌, Result, Err}
use Rattle.dn_script.specs.declared.faults.Cause.{Cause}
use Rattle.dn_script.specs.declared.sentences.LineFault.{LineFault}
use Rattle.dn_script.specs.declared.sentences.LineFault.TheVariants as fault

-- why a line that is read so gives nothing
abbrev pub IsLineFault : {A : Type 0} → Result A Cause → LineFault → Type 0
IsLineFault read (fault.Bad cause) = read ≡ Err cause
IsLineFault read fault.OutOfMemory = Unit {0}
