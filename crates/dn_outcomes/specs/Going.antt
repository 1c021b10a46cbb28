use Rattle.std.specs.Prelude.{ℕ, Bool, true, false, Option, Some, None}
use Rattle.dn_hist.specs.Calls.{key_of}
use Rattle.dn_hist.specs.declared.calls.Call.{Call}
use Rattle.dn_hist.specs.declared.calls.Call.TheVariants.{Get}
use Rattle.dn_hist.specs.declared.receipts.SessionView.{SessionView}
use Rattle.dn_model.specs.Regions.{slot_of}
use Rattle.dn_lane.specs.declared.answers.Answer.{Answer}
use Rattle.dn_lane.specs.declared.answers.Answer.TheVariants as answer
use Rattle.dn_machine.specs.Events.{Loads}
use Rattle.dn_waiting.specs.State.{call_of, at_lane}
use Rattle.dn_waiting.specs.Attempts.{answered, course_settled}
use Rattle.dn_waiting.specs.declared.calls.AttemptEnd.{AttemptEnd}
use Rattle.dn_waiting.specs.declared.calls.AttemptEnd.TheVariants as end
use Rattle.dn_waiting.specs.declared.calls.Course.{Course}
use Rattle.dn_waiting.specs.declared.calls.Course.TheVariants as course
use Rattle.dn_waiting.specs.declared.calls.OpenCall.{OpenCall}
use Rattle.dn_outcomes.specs.declared.outcomes.CallAnswer.{CallAnswer}
use Rattle.dn_outcomes.specs.declared.outcomes.CallAnswer.TheVariants.{Made, NotOwner, Fenced, Full, Worn}
use Rattle.dn_outcomes.specs.declared.outcomes.Outcome.TheVariants.{Acted, Answered}
use Rattle.dn_outcomes.specs.State.{World, Done, done, with_event, with_waiting}

-- How calls go on.

-- the call that a session has; where it has none, a get of key 0, which is no call's
abbrev pub called : Option OpenCall → Call
called None = Get 0
called (Some c) = c.call

abbrev pub slot_at : Option OpenCall → ℕ
slot_at c = slot_of (key_of (called c))

-- a call goes on: where its deed is to be loaded, that is the next action of its session
abbrev pub goes_on : World → ℕ → Course → World
goes_on w s course.Load = with_event w (Loads s (slot_at (call_of w.waiting s)))
goes_on w s (course.Wait lane) = w
goes_on w s course.Answered = w
goes_on w s course.GivenUp = w

abbrev pub is_given : Course → Bool
is_given course.Load = false
is_given (course.Wait lane) = false
is_given course.Answered = false
is_given course.GivenUp = true

-- ---- an attempt ends
-- as it is told: the receipt of a call that was made stands with the machine's
abbrev pub told_of : Answer → CallAnswer
told_of (answer.Made receipt way) = Made way
told_of (answer.NotOwner look cell) = NotOwner look cell
told_of (answer.Fenced word) = Fenced word
told_of (answer.Full counter segments) = Full counter segments
told_of (answer.Worn stamp) = Worn stamp

-- a lane that isn't the owner or is fenced has refused it; without room or stamps no other lane would do better
abbrev pub end_of : CallAnswer → AttemptEnd
end_of (Made way) = end.Made
end_of (NotOwner look cell) = end.Refused
end_of (Fenced word) = end.Refused
end_of (Full counter segments) = end.Spent
end_of (Worn stamp) = end.Spent

abbrev pub ends_by : World → ℕ → CallAnswer → SessionView → Course → Done
ends_by w n told view course = record {
  world = goes_on (with_waiting w (answered w.waiting n (end_of told))) view.session course;
  outcome = Answered view.session view.number told (is_given course);
}

abbrev pub ends_of : World → ℕ → CallAnswer → Option SessionView → Done
ends_of w n told None = done w Acted
ends_of w n told (Some view) = ends_by w n told view (course_settled (end_of told) (call_of w.waiting view.session))

-- the attempt that is under way at lane n ends
abbrev pub ends : World → ℕ → CallAnswer → Done
ends w n told = ends_of w n told (at_lane w.waiting n).begun
