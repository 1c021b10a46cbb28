use Rattle.std.specs.Prelude.{◌≡◌, ℕ, Bool, List, [], ◌∷◌, ◌++◌, length, map}
use Rattle.std.specs.List.{flat_map}
use Rattle.dn_hist.specs.declared.calls.Call.{Call}
use Rattle.dn_outcomes.specs.declared.events.Event.{Event}
use Rattle.dn_outcomes.specs.declared.events.Event.TheVariants.{Start}
use Rattle.dn_outcomes.specs.declared.outcomes.Outcome.{Outcome}
use Rattle.dn_outcomes.specs.declared.outcomes.Outcome.TheVariants.{Numbered}
use Rattle.dn_script.specs.Asked.{asked_by}
use Rattle.dn_script.specs.declared.asked.AskedCall.{AskedCall}
use Rattle.dn_script.specs.declared.scripts.Line.{Line}
use Rattle.dn_run.specs.Counts.{numbers_call}
use Rattle.dn_run.specs.Doing.{doing_of}
use Rattle.dn_run.specs.Happening.{Happening}
use Rattle.dn_run.specs.Headline.{CallLine, call_left}

-- The calls that a run of a script's lines has had.

-- ---- a call line that was played, and whether it was taken: its call got a number, and it wasn't refused at once
pub record PlayedLine : Type 0 where
  pub line : CallLine
  pub taken : Bool

-- by what happened, in order
abbrev pub played_by : Event → Outcome → List PlayedLine
played_by (Start s lane call) o = (record { line = record { session = s; lane = lane; call = call }; taken = numbers_call o }) ∷ []
played_by other o = []

abbrev pub played_in : List Happening → List PlayedLine
played_in past = flat_map (λ (x : Happening). played_by x.event x.outcome) past

-- by the lines, of each of which it is told whether it was taken
abbrev pub line_played : Line → Bool → List PlayedLine
line_played line b = map (λ (c : CallLine). record { line = c; taken = b }) (call_left (doing_of line))

abbrev pub lines_played : List Line → List Bool → List PlayedLine
lines_played [] taken = []
lines_played (line ∷ lines) [] = []
lines_played (line ∷ lines) (b ∷ taken) = line_played line b ++ lines_played lines taken

-- ---- the calls that got a number, as they were told it
abbrev pub numbered_as : ℕ → Call → Outcome → List AskedCall
numbered_as s call (Numbered number) = (record { session = s; number = number; call = call }) ∷ []
numbered_as s call other = []

abbrev pub call_numbered : Event → Outcome → List AskedCall
call_numbered (Start s lane call) o = numbered_as s call o
call_numbered other o = []

abbrev pub calls_numbered : List Happening → List AskedCall
calls_numbered past = flat_map (λ (x : Happening). call_numbered x.event x.outcome) past

-- ---- Of a run that is over: all call lines were played, in their order, and the calls that got a number are those that the
-- script asks by the lines that were taken.
pub record IsAsked (lines : List Line) (past : List Happening) : Type 0 where
  pub taken : List Bool
  pub each : length taken ≡ length lines
  pub played : played_in past ≡ lines_played lines taken
  pub calls : calls_numbered past ≡ asked_by lines taken
