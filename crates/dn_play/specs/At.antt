use Rattle.std.specs.Prelude.{◌≡◌, ◌<◌, ◌≤◌, ◌^◌, ◌++◌, ℕ, ◌+◌, Bool, true, false, List, [], Option, Some, None, All, not, length}
use Rattle.dn_callers.specs.Sessions.{IsSession}
use Rattle.dn_monitor.specs.Heirs.{no_heirs}
use Rattle.dn_monitor.specs.declared.orders.Order.{Order}
use Rattle.dn_monitor.specs.declared.orders.Order.TheVariants.{Move}
use Rattle.dn_outcomes.specs.Does.{does}
use Rattle.dn_outcomes.specs.Sound.{IsWorld, MayHappen}
use Rattle.dn_outcomes.specs.State.{World}
use Rattle.dn_outcomes.specs.declared.events.Event.{Event}
use Rattle.dn_outcomes.specs.Told.{is_made_by}
use Rattle.dn_outcomes.specs.declared.events.Event.TheVariants.{Give, Queue, Step, Merge, Flow, Monitor, Add, Tell, Refresh}
use Rattle.dn_tend.specs.declared.tasks.Task.TheVariants.{Trim}
use Rattle.dn_outcomes.specs.declared.outcomes.Outcome.TheVariants.{Acted, Numbered, Answered, GivenUp}
use Rattle.dn_outcomes.specs.declared.outcomes.Outcome.{Outcome}
use Rattle.dn_script.specs.Fit.{IsLine}
use Rattle.dn_script.specs.declared.scripts.Line.{Line}
use Rattle.dn_waiting.specs.State.{WaitingState, call_of}
use Rattle.dn_waiting.specs.declared.calls.OpenCall.{OpenCall}
use Rattle.dn_waiting.specs.declared.calls.Place.{Place}
use Rattle.dn_world.specs.Comes.{has_failed}
use Rattle.dn_world.specs.Opening.{IsOpened}
use Rattle.dn_world.specs.State.{world_of}
use Rattle.dn_run.specs.Counts.{counts_of, is_of_get}
use Rattle.dn_run.specs.Doing.{Doing, Rest, Finish, Repeat, next_of, left_of}
use Rattle.dn_run.specs.Doing as doing
use Rattle.dn_run.specs.Going.{IsGoing}
use Rattle.dn_run.specs.Happening.{happening, loads_of, receipt_if, makes_call}
use Rattle.dn_run.specs.Run.{Run, run_of, IsBetween, answered_to, loader, after_steps}
use Rattle.dn_run.specs.Text.{step_text}
use Rattle.dn_run.specs.Uncalled.{IsUncalled}
use Rattle.dn_play.specs.Tally.{added}
use Rattle.dn_play.specs.declared.players.Player.{Player}
use Rattle.dn_play.specs.declared.players.Action.{Action}
use Rattle.dn_play.specs.declared.players.Action.TheVariants as action
use Rattle.dn_play.specs.declared.players.orders.Moving.{Moving}
use Rattle.dn_play.specs.declared.players.orders.Moving.TheVariants as moving
use Rattle.dn_play.specs.declared.stops.Stop.{Stop}
use Rattle.dn_play.specs.declared.stops.Stop.TheVariants.{Long, Pool, OutOfMemory}

-- A player carries out a run.

-- Over these words it is at this moment of the run of these lines over world w: its world is the run's, what it has counted is what
-- the run counts, it has had as many events, beside the 129 of an opening, it knows the order under way, and the event lines are
-- printed.
pub record IsAt (w : World) (lines : List Line) (words : List ℕ) (p : Player) (out : List ℕ) (r : Run) : Type 0 where
  pub start : IsWorld w
  pub fresh : IsUncalled w
  pub going : IsGoing w lines r
  pub world : world_of words p.world.crew r.world.machine.callers.told p.world.history ≡ r.world
  pub counts : p.counts ≡ counts_of r.past
  pub events : p.events ≡ 129 + length r.past
  pub few : p.events ≤ 2 ^ 22
  pub order : p.order ≡ r.order
  pub printed : out ≡ r.printed

-- ---- at one at which no deed is to be loaded, and this event is next
pub record IsNext (r : Run) (e : Event) : Type 0 where
  pub loads : loader r ≡ None
  pub next : next_of r.world r.doing ≡ Some e

-- ---- it has gone on with the run to a moment at which no deed is to be loaded, and this is left of the line under way
pub record Leads (w : World) (lines : List Line) (now : List ℕ) (q : Player) (out : List ℕ) (r : Run) (d : Doing) : Type 0 where
  pub count : ℕ
  pub at : IsAt w lines now q out (after_steps count r)
  pub loads : loader (after_steps count r) ≡ None
  pub doing : (after_steps count r).doing ≡ d
  pub left : (after_steps count r).lines ≡ r.lines

-- ---- it has stopped
-- where no deed is to be loaded, an event is next
abbrev pub HasNext : Run → Type 0
HasNext r = loader r ≡ None → (e : Event) × (next_of r.world r.doing ≡ Some e)

-- after as many events as there may be, before a next one
pub record IsLong (w : World) (lines : List Line) (now : List ℕ) (q : Player) (out : List ℕ) (r : Run) : Type 0 where
  pub count : ℕ
  pub at : IsAt w lines now q out (after_steps count r)
  pub all : q.events ≡ 2 ^ 22
  pub more : HasNext (after_steps count r)

-- the words are those of some moment of the run
pub record LeavesRun (now : List ℕ) (r : Run) : Type 0 where
  pub count : ℕ
  pub words : (after_steps count r).world.machine.words ≡ now

abbrev pub Stops : World → List Line → List ℕ → Player → List ℕ → Run → Stop → Type 0
Stops w lines now q out r Long = IsLong w lines now q out r
Stops w lines now q out r Pool = Unit {0}
Stops w lines now q out r OutOfMemory = LeavesRun now r

-- the count of failed accesses rose exactly where an access has failed
abbrev pub CountsStop : ℕ → ℕ → Stop → Type 0
CountsStop old new Long = new ≡ old
CountsStop old new Pool = old < new
CountsStop old new OutOfMemory = new ≡ old

-- ---- an event of a world that a player has
-- all but an order that is no move
abbrev pub is_move : Order → Bool
is_move (Move slot to) = true
is_move other = false

abbrev pub is_plain : Event → Bool
is_plain (Give o) = is_move o
is_plain other = true

pub record CanGive (words : List ℕ) (p : Player) (e : Event) : Type 0 where
  pub out : List ℕ
  pub start : World
  pub lines : List Line
  pub run : Run
  pub at : IsAt start lines words p out run
  pub may : MayHappen run.world e no_heirs
  pub plain : is_plain e ≡ true

pub record IsGiven (r : Run) (now : List ℕ) (p q : Player) (e : Event) (o : Outcome) : Type 0 where
  pub world : world_of now q.world.crew (does r.world e no_heirs).world.machine.callers.told q.world.history ≡ (does r.world e no_heirs).world
  pub outcome : o ≡ (does r.world e no_heirs).outcome
  pub counts : q.counts ≡ added p.counts o (is_of_get (happening e (does r.world e no_heirs)).receipt) (happening e (does r.world e no_heirs)).refused
  pub events : q.events ≡ p.events + 1
  pub few : q.events ≤ 2 ^ 22
  pub order : q.order ≡ p.order

-- at whatever moment of whatever run the player is
pub record Gives (words : List ℕ) (p : Player) (now : List ℕ) (q : Player) (e : Event) (o : Outcome) : Type 0 where
  pub is : (w : World) (lines : List Line) (out : List ℕ) (r : Run) → IsAt w lines words p out r → MayHappen r.world e no_heirs → IsGiven r now p q e o

abbrev pub StopsEvent : List ℕ → Player → List ℕ → Player → Stop → Type 0
StopsEvent words p now q Long = (now ≡ words) × (q ≡ p) × (p.events ≡ 2 ^ 22)
StopsEvent words p now q Pool = Unit {0}
StopsEvent words p now q OutOfMemory = now ≡ words

-- ---- where a call stands
abbrev pub place_of : Option OpenCall → Option Place
place_of None = None
place_of (Some c) = Some c.place

-- a session's call was moved by the last event
pub record CanLoad (words : List ℕ) (p : Player) (out : List ℕ) (s : ℕ) : Type 0 where
  pub start : World
  pub lines : List Line
  pub run : Run
  pub at : IsAt start lines words p out run
  pub mover : run.mover ≡ Some s

-- ---- the session that loads a deed, and whether the event has refused an attempt
abbrev pub loads_by : Event → Option ℕ
loads_by (Refresh s) = Some s
loads_by other = None

abbrev pub refused_load : Option ℕ → WaitingState → Bool
refused_load None w = false
refused_load (Some s) w = loads_of (call_of w s)

abbrev pub refused_by : Option ℕ → WaitingState → Outcome → Bool
refused_by loader w Acted = refused_load loader w
refused_by loader w (Answered s number answer given) = not (is_made_by answer)
refused_by loader w (GivenUp s number) = true
refused_by loader w other = false

-- an event that the world has done is counted, with its outcome
pub record IsCounted (p q : Player) (loader : Option ℕ) (outcome o : Outcome) : Type 0 where
  pub outcome_is : o ≡ outcome
  pub fine : has_failed outcome ≡ false
  pub player : q ≡ record {
    world = p.world;
    counts = added p.counts outcome (is_of_get (receipt_if (makes_call outcome) p.world.history)) (refused_by loader p.world.crew.waiting outcome);
    events = p.events + 1;
    order = p.order;
  }

-- ---- what a call of a player does from the moments of runs at which it may be made
-- it is at one
pub record CanGo (words : List ℕ) (p : Player) (out : List ℕ) (may : Run → Type 0) : Type 0 where
  pub start : World
  pub lines : List Line
  pub run : Run
  pub at : IsAt start lines words p out run
  pub may_go : may run

-- from each of them it leads to one between two events of the line under way, of which this is left
pub record Goes (words : List ℕ) (p : Player) (old now : List ℕ) (q : Player) (out : List ℕ) (may : Run → Type 0) (left : Run → Doing) : Type 0 where
  pub is : (w : World) (lines : List Line) (r : Run) → IsAt w lines words p old r → may r → Leads w lines now q out r (left r)

-- or stops
pub record Halts (words : List ℕ) (p : Player) (old now : List ℕ) (q : Player) (out : List ℕ) (may : Run → Type 0) (stop : Stop) : Type 0 where
  pub is : (w : World) (lines : List Line) (r : Run) → IsAt w lines words p old r → may r → Stops w lines now q out r stop

-- the last event has moved this session's call
abbrev pub IsMoved : ℕ → Run → Type 0
IsMoved s r = r.mover ≡ Some s

abbrev pub doing_in : Run → Doing
doing_in r = r.doing

-- the last event had this outcome, by a lane's action
abbrev pub IsMovedBy : Outcome → Run → Type 0
IsMovedBy o r = r.mover ≡ answered_to o

abbrev pub IsToSession : Outcome → Type 0
IsToSession o = (s : ℕ) → answered_to o ≡ Some s → IsSession s

-- this event is next
abbrev pub Awaits : Event → Run → Type 0
Awaits e r = IsNext r e

-- the event lines once what comes of a lane's action is printed behind them
abbrev pub printed_step : Player → List ℕ → ℕ → Outcome → List ℕ
printed_step p out n o = out ++ step_text n (receipt_if (makes_call o) p.world.history) o

-- what is left by this outcome
abbrev pub left_by : Outcome → Run → Doing
left_by o r = left_of r.world r.doing o

-- the event that is asked for
abbrev pub event_by : Action → Event
event_by (action.Step n) = Step n
event_by (action.Merge n) = Merge n
event_by action.Monitor = Monitor
event_by (action.Flow n index) = Flow n index
event_by action.Add = Add
event_by (action.Tell s t) = Tell s t
event_by (action.Trim n) = Queue n Trim

-- ---- no deed is to be loaded, and this is left to do
pub record IsBefore (r : Run) (d : Doing) : Type 0 where
  pub loads : loader r ≡ None
  pub doing : r.doing ≡ d

abbrev pub Undone : Doing → Run → Type 0
Undone d r = IsBefore r d

abbrev pub Repeats : Event → ℕ → Run → Type 0
Repeats e k = Undone (Repeat e k)

abbrev pub Finishes : ℕ → Run → Type 0
Finishes s = Undone (Finish s)

-- a call that has a number goes on, unless it is only started
abbrev pub runs_on : Bool → Outcome → Bool
runs_on only (Numbered number) = not only
runs_on only refused = false

-- ---- an order that was given is run to its end, unless it is only started
abbrev pub moves_on : Bool → Outcome → Bool
moves_on whole Acted = whole
moves_on whole refused = false

-- what is left of one of a slot
abbrev pub order_doing : ℕ → Option Moving → Doing
order_doing slot None = Rest
order_doing slot (Some (moving.Order n)) = doing.Order slot n
order_doing slot (Some moving.Merge) = doing.Merge slot
order_doing slot (Some moving.Drop) = doing.Drop

-- ---- all is done of the line under way
pub record EndsLine (w : World) (lines : List Line) (now : List ℕ) (q : Player) (out : List ℕ) (r : Run) : Type 0 where
  pub count : ℕ
  pub at : IsAt w lines now q out (after_steps count r)
  pub between : IsBetween (after_steps count r)
  pub left : (after_steps count r).lines ≡ r.lines

pub record Ends (words : List ℕ) (p : Player) (old now : List ℕ) (q : Player) (out : List ℕ) (may : Run → Type 0) : Type 0 where
  pub is : (w : World) (lines : List Line) (r : Run) → IsAt w lines words p old r → may r → EndsLine w lines now q out r

-- ---- nothing of a line is under way, and these lines follow
pub record IsFollowed (r : Run) (rest : List Line) : Type 0 where
  pub between : IsBetween r
  pub lines : r.lines ≡ rest

abbrev pub Follow : List Line → Run → Type 0
Follow rest r = IsFollowed r rest

-- it has gone on to such a moment
pub record Reached (w : World) (lines : List Line) (now : List ℕ) (q : Player) (out : List ℕ) (r : Run) (rest : List Line) : Type 0 where
  pub count : ℕ
  pub at : IsAt w lines now q out (after_steps count r)
  pub followed : IsFollowed (after_steps count r) rest

pub record Reaches (words : List ℕ) (p : Player) (old now : List ℕ) (q : Player) (out : List ℕ) (may : Run → Type 0) (rest : List Line) : Type 0 where
  pub is : (w : World) (lines : List Line) (r : Run) → IsAt w lines words p old r → may r → Reached w lines now q out r rest

-- ---- A player over a world that was opened is at the start of the run of any lines over it.
pub record IsStarted (before words : List ℕ) (p : Player) (segments nodes : ℕ) : Type 0 where
  pub opened : IsOpened before words p.world segments nodes
  pub is : (lines : List Line) → All IsLine lines
      → IsAt (world_of words p.world.crew [] []) lines words p [] (run_of (world_of words p.world.crew [] []) lines)

abbrev pub StopsOpening : List ℕ → List ℕ → Stop → Type 0
StopsOpening words now Long = ⊥
StopsOpening words now Pool = Unit {0}
StopsOpening words now OutOfMemory = now ≡ words
