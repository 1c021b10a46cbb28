use Rattle.std.specs.Prelude.{ℕ, ◌+◌, ◌<◌, All, List, [], ◌∷◌, Option, Some, None, set, map, length}
use Rattle.dn_hist.specs.declared.receipts.SessionView.{SessionView}
use Rattle.dn_waiting.specs.declared.calls.OpenCall.{OpenCall}
use Rattle.dn_waiting.specs.Queues.{idle, attempts_at}
use Rattle.dn_waiting.specs.State.{WaitingState, at_lane}

-- the calls of these attempts are gone
abbrev pub without : List (Option OpenCall) → List SessionView → List (Option OpenCall)
without calls [] = calls
without calls (view ∷ views) = without (set calls view.session None) views

-- the attempts are of sessions below a number
abbrev pub AreBelow : ℕ → List SessionView → Type 0
AreBelow n views = All (λ (view : SessionView). view.session < n) views

-- a call by its session and its number there
abbrev pub named_by : SessionView → ℕ × ℕ
named_by view = (view.session, view.number)

-- the calls at a lane, in order: the one under way, and behind it those that wait
abbrev pub calls_at : WaitingState → ℕ → List (ℕ × ℕ)
calls_at w lane = map named_by (attempts_at (at_lane w lane))

-- how many they are
abbrev pub count_at : WaitingState → ℕ → ℕ
count_at w lane = length (calls_at w lane)

-- the lane is stopped: its calls and tasks are gone
abbrev pub stopped : WaitingState → ℕ → WaitingState
stopped w lane = record {
  calls = without w.calls (attempts_at (at_lane w lane));
  lanes = set w.lanes lane idle;
}

-- the calls that have no end yet, in order of session, where the first is this session's
abbrev pub waiting_from : ℕ → List (Option OpenCall) → List (ℕ × ℕ)
waiting_from session [] = []
waiting_from session (None ∷ calls) = waiting_from (session + 1) calls
waiting_from session (Some c ∷ calls) = (session, c.number) ∷ waiting_from (session + 1) calls
