use Rattle.std.specs.Prelude.{ℕ, Bool, true, false, Option, Some, None, nat_lt, slice_index, if◌then◌else◌}
use Rattle.dn_hist.specs.Calls.{key_of}
use Rattle.dn_hist.specs.declared.calls.Call.{Call}
use Rattle.dn_model.specs.Regions.{slot_of}
use Rattle.dn_route.specs.SessionState.{SessionState, view_of}
use Rattle.dn_machine.specs.Events.{Session, Acts, Numbers}
use Rattle.dn_waiting.specs.State.{call_of}
use Rattle.dn_waiting.specs.Attempts.{at_first, course_to, started, loaded, after_load, named_in, course_loaded}
use Rattle.dn_waiting.specs.declared.calls.Course.{Course}
use Rattle.dn_waiting.specs.declared.calls.Course.TheVariants as course
use Rattle.dn_waiting.specs.declared.calls.OpenCall.{OpenCall}
use Rattle.dn_outcomes.specs.declared.outcomes.Outcome.{Outcome}
use Rattle.dn_outcomes.specs.declared.outcomes.Outcome.TheVariants.{Nothing, Acted, Numbered, Busy, Closed, NoLane, GivenUp}
use Rattle.dn_outcomes.specs.State.{World, Done, done, with_event, with_waiting, may_name}
use Rattle.dn_outcomes.specs.Going.{goes_on}

-- What sessions do: they start calls, and load deeds.

abbrev pub session_at : World → ℕ → SessionState
session_at w s = w.machine.callers.sessions s

-- a session's route of a slot: a lane, or 0 where it knows none
abbrev pub lane_or_none : ℕ → ℕ
lane_or_none n = if nat_lt n 64 then n else 0

abbrev pub route_in : SessionState → ℕ → ℕ
route_in s slot = lane_or_none (slice_index s.routes slot)

-- ---- A session that isn't closed and has no call starts one, which gets the next number.
abbrev pub starts_by : World → ℕ → Option ℕ → Call → ℕ → World
starts_by w s lane call route = goes_on (with_waiting w (started w.waiting call (view_of (session_at w s) (key_of call)) lane route)) s (course_to (at_first lane route))

abbrev pub starts : World → ℕ → Option ℕ → Call → Done
starts w s lane call = record {
  world = starts_by w s lane call (route_in (session_at w s) (slot_of (key_of call)));
  outcome = Numbered (session_at w s).number;
}

abbrev pub start_unless : World → ℕ → Option ℕ → Call → Bool → Done
start_unless w s lane call true = done w Closed
start_unless w s lane call false = starts (with_event w (Numbers s)) s lane call

abbrev pub start_beside : World → ℕ → Option ℕ → Call → Option OpenCall → Done
start_beside w s lane call None = start_unless w s lane call (w.machine.callers.closed s)
start_beside w s lane call (Some c) = done w Busy

abbrev pub start : World → ℕ → Option ℕ → Call → Done
start w s lane call = if may_name w lane then start_beside w s lane call (call_of w.waiting s) else done w NoLane

-- ---- A session loads a deed: its call goes to the lane that its line named, else by the route, else the load is a refused
-- attempt.
abbrev pub given_by : OpenCall → ℕ → Course → Outcome
given_by c s course.Load = Acted
given_by c s (course.Wait lane) = Acted
given_by c s course.Answered = Acted
given_by c s course.GivenUp = GivenUp s c.number

abbrev pub routes_by : World → ℕ → OpenCall → ℕ → Course → Done
routes_by w s c route course = record {
  world = goes_on (with_waiting w (loaded w.waiting (view_of (session_at w s) (key_of c.call)) route)) s course;
  outcome = given_by c s course;
}

abbrev pub routes_to : World → ℕ → OpenCall → ℕ → Done
routes_to w s c route = routes_by w s c route (course_loaded (Some c) (after_load (named_in (Some c)) route))

abbrev pub routes : World → ℕ → Option OpenCall → Done
routes w s None = done w Acted
routes w s (Some c) = routes_to w s c (route_in (session_at w s) (slot_of (key_of c.call)))

abbrev pub refresh_of : World → ℕ → Option ℕ → Done
refresh_of w s None = done w Nothing
refresh_of w s (Some slot) = routes (with_event w (Acts (Session s))) s (call_of w.waiting s)

abbrev pub refresh : World → ℕ → Done
refresh w s = refresh_of w s (w.machine.loads s)
