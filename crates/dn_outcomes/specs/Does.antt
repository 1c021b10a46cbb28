use Rattle.std.specs.Prelude.{ℕ, ◌+◌, Bool, true, false, List, [], ◌∷◌, ◌++◌, Option, Some, None, nat_lt, if◌then◌else◌}
use Rattle.dn_tend.specs.declared.tasks.Task.{Task}
use Rattle.dn_lane.specs.State.{LaneState}
use Rattle.dn_machine.specs.Events.{Adds, Tells}
use Rattle.dn_waiting.specs.Turns.{tasked}
use Rattle.dn_outcomes.specs.declared.events.Event.{Event}
use Rattle.dn_outcomes.specs.declared.events.Event.TheVariants as event
use Rattle.dn_outcomes.specs.declared.outcomes.Outcome.TheVariants.{Nothing, Acted, Added, LanesFull}
use Rattle.dn_outcomes.specs.State.{World, Done, done, with_event, with_waiting, on_lane}
use Rattle.dn_outcomes.specs.Starts.{session_at, start, refresh}
use Rattle.dn_outcomes.specs.Steps.{step, flow, merge}
use Rattle.dn_outcomes.specs.Orders.{monitor, give, drops}

-- What an event does to a world.

-- a task arrives at a lane that runs
abbrev pub queues : World → ℕ → Task → Option LaneState → Done
queues w n t None = done w Nothing
queues w n t (Some l) = done (with_waiting w (tasked w.waiting n t)) Acted

-- a lane is added, which is live and has no slot
abbrev pub adds_lane : World → ℕ → Done
adds_lane w n = done (record (with_event w (Adds n w.segments)) { made = n; live = w.live ++ n ∷ [] }) (Added n)

abbrev pub adds : World → Done
adds w = if nat_lt w.made 63 then adds_lane w (w.made + 1) else done w LanesFull

-- a session is told another one's last position, unless it is closed
abbrev pub tells_unless : World → ℕ → ℕ → Bool → Done
tells_unless w s t true = done w Acted
tells_unless w s t false = done (with_event w (Tells t (session_at w s).last)) Acted

abbrev pub tells : World → ℕ → ℕ → Done
tells w s t = tells_unless w s t (w.machine.callers.closed t)

-- All events. The lanes that a takeover gives each slot to are its own choice; other orders don't look at them.
abbrev pub does : World → Event → List ℕ → Done
does w (event.Start s lane call) heirs = start w s lane call
does w (event.Step n) heirs = on_lane w n (step w n)
does w (event.Flow n index) heirs = on_lane w n (flow w n index)
does w (event.Merge n) heirs = on_lane w n (merge w n)
does w event.Monitor heirs = monitor w
does w (event.Refresh s) heirs = refresh w s
does w (event.Give o) heirs = give w o heirs
does w event.DropOrder heirs = drops w
does w (event.Queue n t) heirs = on_lane w n (queues w n t (w.machine.lanes n))
does w event.Add heirs = adds w
does w (event.Tell s t) heirs = tells w s t
