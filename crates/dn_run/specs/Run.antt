use Rattle.std.specs.Prelude.{◌≡◌, ℕ, zero, suc, Bool, true, false, List, [], ◌∷◌, ◌++◌, Option, Some, None}
use Rattle.dn_outcomes.specs.Does.{does}
use Rattle.dn_outcomes.specs.Runs.{after, IsRun}
use Rattle.dn_outcomes.specs.State.{World, Done}
use Rattle.dn_outcomes.specs.declared.events.Event.{Event}
use Rattle.dn_outcomes.specs.declared.events.Event.TheVariants.{Start, Step, Refresh}
use Rattle.dn_outcomes.specs.declared.outcomes.Outcome.{Outcome}
use Rattle.dn_outcomes.specs.declared.outcomes.Outcome.TheVariants.{Answered}
use Rattle.dn_script.specs.declared.scripts.Line.{Line}
use Rattle.dn_monitor.specs.Heirs.{no_heirs}
use Rattle.dn_run.specs.Doing.{Doing, Rest, doing_of, next_of, left_of, order_after}
use Rattle.dn_run.specs.Happening.{Happening, happening, loads}
use Rattle.dn_run.specs.Text.{happening_text}
use Rattle.dn_run.specs.declared.orders.MoveOrder.{MoveOrder}

-- A run of a script's lines: event after event over a world.

-- A world; the session whose call the last event has moved, if any; the order of a move that is under way, if any; what is left
-- to do of the line under way; the lines that follow it; what has happened so far; and what was printed of that.
pub record Run : Type 0 where
  pub world : World
  pub mover : Option ℕ
  pub order : Option MoveOrder
  pub doing : Doing
  pub lines : List Line
  pub past : List Happening
  pub printed : List ℕ

-- before the first line
abbrev pub run_of : World → List Line → Run
run_of w lines = record { world = w; mover = None; order = None; doing = Rest; lines = lines; past = []; printed = [] }

-- ---- the session whose call an event moves
abbrev pub answered_to : Outcome → Option ℕ
answered_to (Answered s number answer given) = Some s
answered_to other = None

abbrev pub mover_of : Event → Outcome → Option ℕ
mover_of (Start s lane call) o = Some s
mover_of (Step n) o = answered_to o
mover_of (Refresh s) o = Some s
mover_of other o = None

-- ---- Where its deed is to be loaded, that follows at once.
abbrev pub loader_if : ℕ → Bool → Option ℕ
loader_if s true = Some s
loader_if s false = None

abbrev pub loader_of : World → Option ℕ → Option ℕ
loader_of w None = None
loader_of w (Some s) = loader_if s (loads w s)

abbrev pub loader : Run → Option ℕ
loader r = loader_of r.world r.mover

-- ---- an event happens, which does this, and this is left to do
abbrev pub with_event : Run → Event → Done → Doing → Run
with_event r e d doing = record {
  world = d.world;
  mover = mover_of e d.outcome;
  order = order_after r.doing r.order e d.outcome;
  doing = doing;
  lines = r.lines;
  past = r.past ++ happening e d ∷ [];
  printed = r.printed ++ happening_text r.order (happening e d);
}

abbrev pub loads_deed : Run → ℕ → Run
loads_deed r s = with_event r (Refresh s) (does r.world (Refresh s) no_heirs) r.doing

abbrev pub goes_on : Run → Event → Done → Run
goes_on r e d = with_event r e d (left_of r.world r.doing d.outcome)

-- ---- or the next line begins, where there is one
abbrev pub begins : Run → List Line → Run
begins r [] = r
begins r (line ∷ lines) = record r { doing = doing_of line; lines = lines }

-- ---- A step of a run is one of these three.
abbrev pub acts : Run → Option Event → Run
acts r None = begins r r.lines
acts r (Some e) = goes_on r e (does r.world e no_heirs)

abbrev pub steps : Run → Option ℕ → Run
steps r None = acts r (next_of r.world r.doing)
steps r (Some s) = loads_deed r s

abbrev pub step : Run → Run
step r = steps r (loader r)

-- so many steps
abbrev pub after_steps : ℕ → Run → Run
after_steps zero r = r
after_steps (suc n) r = step (after_steps n r)

-- ---- nothing of a line is under way
pub record IsBetween (r : Run) : Type 0 where
  pub loads : loader r ≡ None
  pub doing : next_of r.world r.doing ≡ None

-- and no line follows: the run is over
pub record IsOver (r : Run) : Type 0 where
  pub between : IsBetween r
  pub lines : r.lines ≡ []

-- ---- as events one after the other
-- what happens by them
abbrev pub happenings : World → List (Event × List ℕ) → List Happening
happenings w [] = []
happenings w (x ∷ xs) = happening x.0 (does w x.0 x.1) ∷ happenings (does w x.0 x.1).world xs

-- these, each of which might be given, have led to the run's world, and to what has happened
pub record IsRunOf (w : World) (r : Run) : Type 0 where
  pub es : List (Event × List ℕ)
  pub may : IsRun w es
  pub world : r.world ≡ after w es
  pub past : r.past ≡ happenings w es
