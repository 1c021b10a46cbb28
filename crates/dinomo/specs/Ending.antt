use Rattle.std.specs.Prelude.{◌≡◌, ◌⊎◌, ◌++◌, ℕ, List, Option, Some}
use Rattle.dn_io.specs.Whole.{WroteFront}
use Rattle.dn_io.specs.declared.statuses.Status.{Status}
use Rattle.dn_io.specs.declared.statuses.Status.TheVariants as status
use Rattle.dn_play.specs.declared.stops.Stop.TheVariants as stop
use Rattle.dn_print.specs.RefusalLine.{bad_line_text}
use Rattle.dn_script.specs.Bad.{name_of}
use Rattle.dn_script.specs.Script.{BadLine}
use Rattle.dn_script.specs.declared.scripts.Script.{Script}
use Rattle.dn_whole.specs.Whole.{Plays, StopsPlay}
use Rattle.dn_whole.specs.declared.ends.End.{End}
use Rattle.dn_whole.specs.declared.ends.End.TheVariants.{Done, Long, IndexFull}
use Rattle.dinomo.specs.Verdict.{Verdict, Long, Bad, Played}

-- What each status says of the words of the pool and of what was written, where a script deserved that verdict.

-- the words before and after, and what the sink tells of its bytes before and after
pub record Change : Type 0 where
  pub words : List ℕ
  pub now : List ℕ
  pub old : Option (List ℕ)
  pub new : Option (List ℕ)

-- ---- of what was written
-- bytes were written behind those before, where the sink tells them
abbrev pub Writes : Option (List ℕ) → Option (List ℕ) → List ℕ → Type 0
Writes old new bytes = (written : List ℕ) → old ≡ Some written → new ≡ Some (written ++ bytes)

-- nothing was written, and no word changed
pub record IsUntouched (c : Change) : Type 0 where
  pub words : c.now ≡ c.words
  pub unwritten : c.new ≡ c.old

-- ---- a script that was played
-- the play ended so, and its output was written whole
pub record WritesPlay (script : Script) (c : Change) (end : End) : Type 0 where
  pub output : List ℕ
  pub play : Plays script c.words c.now output end
  pub written : Writes c.old c.new output

-- the play ended somehow, and a front of its output was written
pub record WritesPart (script : Script) (c : Change) : Type 0 where
  pub end : End
  pub output : List ℕ
  pub play : Plays script c.words c.now output end
  pub part : WroteFront c.old c.new output

-- the play was stopped for want of memory
pub record IsStopped (script : Script) (c : Change) : Type 0 where
  pub words : StopsPlay script c.words c.now stop.OutOfMemory
  pub unwritten : c.new ≡ c.old

abbrev pub EndsPlayed : Script → Change → Status → Type 0
EndsPlayed script c status.Ok = WritesPlay script c Done
EndsPlayed script c status.TooLong = WritesPlay script c Long
EndsPlayed script c status.IndexFull = WritesPlay script c IndexFull
EndsPlayed script c status.WriteFault = WritesPart script c
EndsPlayed script c status.PoolFault = c.new ≡ c.old
EndsPlayed script c status.OutOfMemory = IsStopped script c
EndsPlayed script c status.ReadFault = IsUntouched c
EndsPlayed script c status.BadScript = ⊥
EndsPlayed script c status.BadWords = ⊥

-- ---- a script with a bad line, which is named
abbrev pub text_of : BadLine → List ℕ
text_of bad = bad_line_text bad.line (name_of bad.cause)

pub record IsRefused (bad : BadLine) (c : Change) : Type 0 where
  pub words : c.now ≡ c.words
  pub written : Writes c.old c.new (text_of bad)

pub record IsRefusedInPart (bad : BadLine) (c : Change) : Type 0 where
  pub words : c.now ≡ c.words
  pub part : WroteFront c.old c.new (text_of bad)

abbrev pub EndsBad : BadLine → Change → Status → Type 0
EndsBad bad c status.BadScript = IsRefused bad c
EndsBad bad c status.WriteFault = IsRefusedInPart bad c
EndsBad bad c status.ReadFault = IsUntouched c
EndsBad bad c status.OutOfMemory = IsUntouched c
EndsBad bad c status.Ok = ⊥
EndsBad bad c status.TooLong = ⊥
EndsBad bad c status.IndexFull = ⊥
EndsBad bad c status.PoolFault = ⊥
EndsBad bad c status.BadWords = ⊥

-- ---- one that is too long
abbrev pub EndsLong : Change → Status → Type 0
EndsLong c status.TooLong = IsUntouched c
EndsLong c status.ReadFault = IsUntouched c
EndsLong c status.OutOfMemory = IsUntouched c
EndsLong c status.Ok = ⊥
EndsLong c status.BadScript = ⊥
EndsLong c status.WriteFault = ⊥
EndsLong c status.IndexFull = ⊥
EndsLong c status.PoolFault = ⊥
EndsLong c status.BadWords = ⊥

abbrev pub Ends : Verdict → Change → Status → Type 0
Ends Long c end = EndsLong c end
Ends (Bad bad) c end = EndsBad bad c end
Ends (Played script) c end = EndsPlayed script c end

-- ---- how the end of a play is told
abbrev pub status_of : End → Status
status_of Done = status.Ok
status_of Long = status.TooLong
status_of IndexFull = status.IndexFull
