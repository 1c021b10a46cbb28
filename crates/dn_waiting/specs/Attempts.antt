use Rattle.std.specs.Prelude.{ℕ, ◌+◌, ◌==◌, List, [], ◌∷◌, Option, Some, None, nat_lt, set, if◌then◌else◌}
use Rattle.dn_hist.specs.declared.calls.Call.{Call}
use Rattle.dn_hist.specs.declared.receipts.SessionView.{SessionView}
use Rattle.dn_waiting.specs.declared.calls.OpenCall.{OpenCall}
use Rattle.dn_waiting.specs.declared.calls.Place.{Place}
use Rattle.dn_waiting.specs.declared.calls.Place.TheVariants.{Loading, Queued, Begun}
use Rattle.dn_waiting.specs.declared.calls.Course.{Course}
use Rattle.dn_waiting.specs.declared.calls.Course.TheVariants.{Load, Wait, Answered, GivenUp}
use Rattle.dn_waiting.specs.declared.calls.AttemptEnd.{AttemptEnd}
use Rattle.dn_waiting.specs.declared.calls.AttemptEnd.TheVariants.{Made, Spent, Refused}
use Rattle.dn_waiting.specs.Queues.{with_attempt}
use Rattle.dn_waiting.specs.State.{WaitingState, call_of, at_lane, with_call}

-- How a call goes on: to a lane, or to a load of its deed. Lane 0 as a route stands for none.

-- the lane that a route names
abbrev pub by_route : ℕ → Option ℕ
by_route route = if route == 0 then None else Some route

-- the lane that the line named, else the route
abbrev pub named_or : Option ℕ → Option ℕ → Option ℕ
named_or (Some lane) by = Some lane
named_or None by = by

-- where the first attempt goes: nowhere before a load, where no route is known; be there a named lane or not
abbrev pub at_first : Option ℕ → ℕ → Option ℕ
at_first named route = if route == 0 then None else named_or named (Some route)

-- where the attempt goes after a load
abbrev pub after_load : Option ℕ → ℕ → Option ℕ
after_load named route = named_or named (by_route route)

-- the call stands elsewhere
abbrev pub placed : Option OpenCall → Place → Option OpenCall
placed None place = None
placed (Some c) place = Some (record c { place = place })

-- one more of its attempts is refused: the eighth gives it up; else its deed is loaded next
abbrev pub refused_once : Option OpenCall → Option ℕ → Option OpenCall
refused_once None named = None
refused_once (Some c) named =
    if nat_lt c.refused 7 then Some (record c { refused = c.refused + 1; place = Loading named }) else None

abbrev pub course_refused : Option OpenCall → Course
course_refused None = Load
course_refused (Some c) = if nat_lt c.refused 7 then Load else GivenUp

-- the lane to which the call goes after the load that it stands at
abbrev pub named_at : Place → Option ℕ
named_at (Loading named) = named
named_at (Queued lane) = None
named_at (Begun lane) = None

abbrev pub named_in : Option OpenCall → Option ℕ
named_in None = None
named_in (Some c) = named_at c.place

-- ---- what becomes of all that waits
-- an attempt waits at a lane
abbrev pub queued : WaitingState → SessionView → ℕ → WaitingState
queued w view lane = record {
  calls = set w.calls view.session (placed (call_of w view.session) (Queued lane));
  lanes = set w.lanes lane (with_attempt (at_lane w lane) view);
}

-- a call begins, its deed to be loaded first
abbrev pub opened : WaitingState → Call → SessionView → Option ℕ → WaitingState
opened w call view named =
    with_call w view.session (Some (record { number = view.number; call = call; refused = 0; place = Loading named }))

abbrev pub begun_to : WaitingState → SessionView → Option ℕ → WaitingState
begun_to w view None = w
begun_to w view (Some lane) = queued w view lane

-- a call begins: its first attempt waits at once where its lane is known
abbrev pub started : WaitingState → Call → SessionView → Option ℕ → ℕ → WaitingState
started w call view named route = begun_to (opened w call view named) view (at_first named route)

abbrev pub course_to : Option ℕ → Course
course_to None = Load
course_to (Some lane) = Wait lane

-- an attempt or a load is refused
abbrev pub refused : WaitingState → ℕ → Option ℕ → WaitingState
refused w session named = with_call w session (refused_once (call_of w session) named)

-- a load has found a route: the next attempt waits; where there is nowhere to go, it is refused
abbrev pub loaded_to : WaitingState → SessionView → Option ℕ → WaitingState
loaded_to w view (Some lane) = queued w view lane
loaded_to w view None = refused w view.session None

abbrev pub loaded : WaitingState → SessionView → ℕ → WaitingState
loaded w view route = loaded_to w view (after_load (named_in (call_of w view.session)) route)

abbrev pub course_loaded : Option OpenCall → Option ℕ → Course
course_loaded c (Some lane) = Wait lane
course_loaded c None = course_refused c

-- a load failed: it is refused, and made again
abbrev pub unloaded : WaitingState → ℕ → WaitingState
unloaded w session = refused w session (named_in (call_of w session))

-- what an attempt's end leaves of its call
abbrev pub settled : AttemptEnd → Option OpenCall → Option OpenCall
settled Made c = None
settled Spent c = None
settled Refused c = refused_once c None

abbrev pub course_settled : AttemptEnd → Option OpenCall → Course
course_settled Made c = Answered
course_settled Spent c = GivenUp
course_settled Refused c = course_refused c

abbrev pub settled_of : WaitingState → ℕ → AttemptEnd → Option SessionView → WaitingState
settled_of w lane end None = w
settled_of w lane end (Some view) = record {
  calls = set w.calls view.session (settled end (call_of w view.session));
  lanes = set w.lanes lane (record (at_lane w lane) { begun = None });
}

-- the attempt under way at a lane ends
abbrev pub answered : WaitingState → ℕ → AttemptEnd → WaitingState
answered w lane end = settled_of w lane end (at_lane w lane).begun

abbrev pub course_at : WaitingState → AttemptEnd → Option SessionView → Course
course_at w end None = Load
course_at w end (Some view) = course_settled end (call_of w view.session)

-- ---- many refused attempts
-- the call after a refused attempt for each of these places, at which it stands in turn
abbrev pub refused_through : List Place → Option OpenCall → Option OpenCall
refused_through [] c = c
refused_through (place ∷ places) c = refused_through places (placed (refused_once c None) place)

-- how many attempts of a call were refused
abbrev pub refusals_of : Option OpenCall → Option ℕ
refusals_of None = None
refusals_of (Some c) = Some c.refused
