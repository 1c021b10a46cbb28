use Rattle.std.specs.Prelude.{ℕ, Bool, true, List, [], Option, Some, None, nat_lt, nat_le, ◌&&◌, ◌==◌, if◌then◌else◌}
use Rattle.std.specs.List.{list_any}
use Rattle.dn_machine.specs.State.{Machine, resting}
use Rattle.dn_machine.specs.Events.{Event, happens}
use Rattle.dn_waiting.specs.State.{WaitingState, nothing_waits}
use Rattle.dn_outcomes.specs.declared.outcomes.Outcome.{Outcome}
use Rattle.dn_outcomes.specs.declared.outcomes.Outcome.TheVariants.{NoLane}

-- A world: a machine over a pool of so many segments, of whose lanes so many were made, numbered from 1; the calls and
-- tasks that wait; and the lanes that are live.
pub record World : Type 0 where
  pub segments : ℕ
  pub made : ℕ
  pub machine : Machine
  pub waiting : WaitingState
  pub live : List ℕ

-- over these words no lane was made, nothing waits, and nobody acts
abbrev pub opened : ℕ → List ℕ → World
opened segments words = record { segments = segments; made = 0; machine = resting words; waiting = nothing_waits; live = [] }

-- what an event leaves, and its outcome
pub record Done : Type 0 where
  pub world : World
  pub outcome : Outcome

abbrev pub done : World → Outcome → Done
done w outcome = record { world = w; outcome = outcome }

-- an event of the machine
abbrev pub with_event : World → Event → World
with_event w e = record w { machine = happens w.machine e }

abbrev pub with_waiting : World → WaitingState → World
with_waiting w x = record w { waiting = x }

-- ---- lanes by their numbers
abbrev pub is_made : World → ℕ → Bool
is_made w n = nat_lt 0 n && nat_le n w.made

abbrev pub is_live : World → ℕ → Bool
is_live w n = list_any (λ (k : ℕ). k == n) w.live

-- an event that names a lane which wasn't made
abbrev pub on_lane : World → ℕ → Done → Done
on_lane w n d = if is_made w n then d else done w NoLane

-- a lane that may be named
abbrev pub may_name : World → Option ℕ → Bool
may_name w None = true
may_name w (Some n) = is_made w n
