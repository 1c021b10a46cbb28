use Rattle.std.specs.Prelude.{◌≡◌, ◌≤◌, ◌^◌, ◌+◌, ℕ, List, [], length, ◌⊎◌}
use Rattle.dn_callers.specs.Callers.{Standing}
use Rattle.dn_drain.specs.Drained.{IsFull}
use Rattle.dn_play.specs.At.{HasNext}
use Rattle.dn_play.specs.declared.stops.Stop.{Stop}
use Rattle.dn_play.specs.declared.stops.Stop.TheVariants as stop
use Rattle.dn_run.specs.Asked.{IsAsked}
use Rattle.dn_run.specs.Balance.{AddsUp}
use Rattle.dn_run.specs.Headline.{IsHeadline}
use Rattle.dn_run.specs.Knowledge.{KnowsSo}
use Rattle.dn_run.specs.Output.{output_of, all_events_text}
use Rattle.dn_run.specs.Run.{Run, IsOver, run_of, after_steps}
use Rattle.dn_script.specs.declared.scripts.Script.{Script}
use Rattle.dn_world.specs.Drains.{DrainsAll, FillsIndex}
use Rattle.dn_world.specs.Opening.{IsOpened}
use Rattle.dn_world.specs.State.{WorldState, world_of}
use Rattle.dn_whole.specs.Close.{IsDrained, AreMerged, Leaves}
use Rattle.dn_whole.specs.declared.ends.End.{End}
use Rattle.dn_whole.specs.declared.ends.End.TheVariants.{Done, Long, IndexFull}

-- A script played whole over a pool with these words.

-- ---- a moment of it: of the run of the script's lines over the world that the opening leaves
pub record IsMoment (script : Script) (before : List ℕ) (r : Run) : Type 0 where
  pub words : List ℕ
  pub opening : WorldState
  pub opened : IsOpened before words opening script.segments script.nodes
  pub count : ℕ
  pub is : r ≡ after_steps count (run_of (world_of words opening.crew [] []) script.lines)

-- at most so many events, with the 129 of the opening
abbrev pub IsShort : Run → Type 0
IsShort r = 129 + length r.past ≤ 2 ^ 22

-- ---- how it ends
-- All lines are played, and all that was sealed is merged. The output is that of the run, by a history with all that the
-- headline says of it. The calls that got a number are those that the script asks, and their counts add up; what sessions were
-- told is a fold over what has happened.
pub record IsPlayed (script : Script) (before now out : List ℕ) : Type 0 where
  pub run : Run
  pub moment : IsMoment script before run
  pub over : IsOver run
  pub short : IsShort run
  pub drained : IsDrained run run.world.made now
  pub drains : DrainsAll run.world now
  pub merged : AreMerged run.world.made now
  pub history : List Standing
  pub headline : IsHeadline script.lines run now history
  pub asked : IsAsked script.lines run.past
  pub adds_up : AddsUp run
  pub knows : KnowsSo run
  pub output : out ≡ output_of run now history

-- The run has had all events that there may be, and has a next one. The output are its event lines, and the words are the run's;
-- the headline holds of what stands then.
pub record IsLong (script : Script) (before now out : List ℕ) : Type 0 where
  pub run : Run
  pub moment : IsMoment script before run
  pub all : 129 + length run.past ≡ 2 ^ 22
  pub more : HasNext run
  pub words : run.world.machine.words ≡ now
  pub history : List Standing
  pub headline : IsHeadline script.lines run now history
  pub knows : KnowsSo run
  pub output : out ≡ run.printed

-- All lines are played, and a merger finds the index full: all mergers before it are done. The output are the event lines, with
-- those of calls without an answer; the headline holds of what stands then.
pub record IsFullAtEnd (script : Script) (before now out : List ℕ) : Type 0 where
  pub run : Run
  pub moment : IsMoment script before run
  pub over : IsOver run
  pub short : IsShort run
  pub lane : ℕ
  pub counter : ℕ
  pub drained : IsDrained run lane now
  pub fills : FillsIndex run.world lane counter now
  pub full : IsFull now lane counter
  pub history : List Standing
  pub headline : IsHeadline script.lines run now history
  pub asked : IsAsked script.lines run.past
  pub adds_up : AddsUp run
  pub knows : KnowsSo run
  pub output : out ≡ all_events_text run

abbrev pub Plays : Script → List ℕ → List ℕ → List ℕ → End → Type 0
Plays script before now out Done = IsPlayed script before now out
Plays script before now out Long = IsLong script before now out
Plays script before now out IndexFull = IsFullAtEnd script before now out

-- ---- or stops: the words are untouched, or those of a moment after some actions of mergers. Then all that the headline says is so
-- of that moment, by a history of the receipts that stand there: the words hold the map that this history leaves.
pub record LeavesMoment (script : Script) (before now : List ℕ) : Type 0 where
  pub run : Run
  pub moment : IsMoment script before run
  pub leaves : Leaves run now
  pub history : List Standing
  pub headline : IsHeadline script.lines run now history

abbrev pub StopsPlay : Script → List ℕ → List ℕ → Stop → Type 0
StopsPlay script before now stop.Long = ⊥
StopsPlay script before now stop.Pool = Unit {0}
StopsPlay script before now stop.OutOfMemory = (now ≡ before) ⊎ LeavesMoment script before now

-- ---- two plays come to the same
pub record AreSame (now out : List ℕ) (end : End) (fin last : List ℕ) (stop : End) : Type 0 where
  pub ends : end ≡ stop
  pub words : now ≡ fin
  pub outputs : out ≡ last
