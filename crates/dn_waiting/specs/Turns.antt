use Rattle.std.specs.Prelude.{ℕ, zero, suc, List, [], ◌∷◌, Some, set, if◌then◌else◌}
use Rattle.dn_hist.specs.declared.receipts.SessionView.{SessionView}
use Rattle.dn_tend.specs.declared.tasks.Task.{Task}
use Rattle.dn_tend.specs.declared.tasks.Task.TheVariants.{Release}
use Rattle.dn_waiting.specs.declared.calls.Place.TheVariants.{Begun}
use Rattle.dn_waiting.specs.declared.calls.Next.{Next}
use Rattle.dn_waiting.specs.declared.calls.Next.TheVariants.{Rest, Tend, Try}
use Rattle.dn_waiting.specs.Queues.{AtLane, with_task, is_queued}
use Rattle.dn_waiting.specs.State.{WaitingState, call_of, at_lane, with_lane}
use Rattle.dn_waiting.specs.Attempts.{placed}

-- What a lane with nothing under way takes up: tasks before calls, each in order of arrival.

abbrev pub next_of : List Task → List SessionView → Next
next_of (task ∷ tasks) queue = Tend task
next_of [] (view ∷ queue) = Try view
next_of [] [] = Rest

abbrev pub next_at : AtLane → Next
next_at at = next_of at.tasks at.queue

-- what is left at the lane
abbrev pub left_of : AtLane → List Task → List SessionView → AtLane
left_of at (task ∷ tasks) queue = record at { tasks = tasks }
left_of at [] (view ∷ queue) = record at { queue = queue; begun = Some view }
left_of at [] [] = at

abbrev pub left_at : AtLane → AtLane
left_at at = left_of at at.tasks at.queue

-- and of all that waits
abbrev pub taken : WaitingState → ℕ → Next → WaitingState
taken w lane Rest = w
taken w lane (Tend task) = with_lane w lane (left_at (at_lane w lane))
taken w lane (Try view) = record {
  calls = set w.calls view.session (placed (call_of w view.session) (Begun lane));
  lanes = set w.lanes lane (left_at (at_lane w lane));
}

abbrev pub taken_up : WaitingState → ℕ → WaitingState
taken_up w lane = taken w lane (next_at (at_lane w lane))

-- ---- tasks arrive
abbrev pub tasked : WaitingState → ℕ → Task → WaitingState
tasked w lane task = with_lane w lane (with_task (at_lane w lane) task)

-- a release arrives, unless one of the slot waits
abbrev pub released : WaitingState → ℕ → ℕ → WaitingState
released w lane slot = if is_queued slot (at_lane w lane).tasks then w else tasked w lane (Release slot)

-- what a lane takes up in so many turns at which nothing arrives
abbrev pub turns : ℕ → AtLane → List Next
turns zero at = []
turns (suc n) at = next_at at ∷ turns n (left_at at)
