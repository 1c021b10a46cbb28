use Rattle.std.specs.Prelude.{ℕ, List, Option, None, get_or, set, replicate}
use Rattle.dn_waiting.specs.declared.calls.OpenCall.{OpenCall}
use Rattle.dn_waiting.specs.Queues.{AtLane, idle}

-- The calls of sessions between their start and their end, and what waits at lanes; each list by number, from 0, which
-- is nobody's.
pub record WaitingState : Type 0 where
  pub calls : List (Option OpenCall)
  pub lanes : List AtLane

-- the session's call that has no end yet
abbrev pub call_of : WaitingState → ℕ → Option OpenCall
call_of w session = get_or w.calls session None

-- what there is at a lane
abbrev pub at_lane : WaitingState → ℕ → AtLane
at_lane w lane = get_or w.lanes lane idle

abbrev pub with_call : WaitingState → ℕ → Option OpenCall → WaitingState
with_call w session call = record w { calls = set w.calls session call }

abbrev pub with_lane : WaitingState → ℕ → AtLane → WaitingState
with_lane w lane at = record w { lanes = set w.lanes lane at }

-- no session has a call, and nothing waits at any lane
unfoldable pub nothing_waits : WaitingState
nothing_waits = record { calls = replicate 1001 None; lanes = replicate 64 idle }
