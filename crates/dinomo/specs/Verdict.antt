use Rattle.std.specs.Prelude.{◌≡◌, ℕ, ◌||◌, Bool, List, Option, Some, Result, Ok, Err, length, nat_lt, if◌then◌else◌}
use Rattle.dn_io.specs.Rose.{Rose}
use Rattle.dn_script.specs.declared.scripts.Mode.TheVariants as mode
use Rattle.dn_script.specs.declared.scripts.Script.{Script}
use Rattle.dn_script.specs.Script.{BadLine, script_of, line_count, played}
use Rattle.dinomo.specs.declared.reading.InputFault.{InputFault}
use Rattle.dinomo.specs.declared.reading.InputFault.TheVariants as fault

-- What the bytes of a script deserve: too long, a first bad line, or to be played.
pub data Verdict : Type 0 where
  Long : Verdict
  Bad : BadLine → Verdict
  Played : Script → Verdict

abbrev pub judged : Result Script BadLine → Verdict
judged (Ok script) = Played script
judged (Err bad) = Bad bad

-- more than 67,108,864 bytes or 1,000,000 lines are too long, whatever they say
abbrev pub is_long : List ℕ → Bool
is_long bytes = nat_lt 67108864 (length bytes) || nat_lt 1000000 (line_count bytes)

-- of bytes that come for a pool of so many segments
abbrev pub verdict_of : ℕ → List ℕ → Verdict
verdict_of segments bytes = if is_long bytes then Long else judged (script_of played mode.Play segments bytes)

-- the bytes that a source had left deserve this, where it tells them
abbrev pub Deserves : ℕ → Option (List ℕ) → Verdict → Type 0
Deserves segments left verdict = (bytes : List ℕ) → left ≡ Some bytes → verdict_of segments bytes ≡ verdict

-- ---- what came of a source whose count of failed reads was `old` and is `new`
-- it was read to a verdict, and no read failed
pub record IsRead (segments : ℕ) (left : Option (List ℕ)) (old new : ℕ) (verdict : Verdict) : Type 0 where
  pub told : Deserves segments left verdict
  pub reads : new ≡ old

-- or why there is no script
abbrev pub IsInputFault : ℕ → Option (List ℕ) → ℕ → ℕ → InputFault → Type 0
IsInputFault segments left old new fault.Read = Rose old new
IsInputFault segments left old new fault.Long = IsRead segments left old new Long
IsInputFault segments left old new (fault.Bad line cause) =
    IsRead segments left old new (Bad (record { line = line; cause = cause }))
IsInputFault segments left old new fault.OutOfMemory = new ≡ old
