use Rattle.std.specs.Prelude.{◌≡◌, ℕ, Bool, false, List, [], ◌∷◌, ◌++◌, Option, Some, None, Contains, map, if◌then◌else◌}
use Rattle.dn_hist.specs.declared.calls.Call.{Call}
use Rattle.dn_hist.specs.declared.receipts.Receipt.{Receipt}
use Rattle.dn_callers.specs.Callers.{Standing}
use Rattle.dn_waiting.specs.State.{call_of}
use Rattle.dn_waiting.specs.declared.calls.OpenCall.{OpenCall}
use Rattle.dn_outcomes.specs.declared.events.Event.{Event}
use Rattle.dn_outcomes.specs.declared.events.Event.TheVariants as event
use Rattle.dn_outcomes.specs.Does.{does}
use Rattle.dn_outcomes.specs.State.{World}
use Rattle.dn_outcomes.specs.Told.{is_made_by, is_end, starts}
use Rattle.dn_outcomes.specs.declared.outcomes.Outcome.{Outcome}
use Rattle.dn_outcomes.specs.declared.outcomes.Outcome.TheVariants as outcome

-- What a session has asked, and which of it has ended, over events one after the other.

-- ---- a call that a session asks, with the number that it was told
pub record Asked : Type 0 where
  pub number : ℕ
  pub call : Call

-- the one that it has at a world, if any
abbrev pub asked_of : Option OpenCall → List Asked
asked_of None = []
asked_of (Some c) = (record { number = c.number; call = c.call }) ∷ []

abbrev pub open_in : World → ℕ → List Asked
open_in w s = asked_of (call_of w.waiting s)

-- that of a start which was told a number
abbrev pub numbered_by : Call → Outcome → List Asked
numbered_by call outcome.Nothing = []
numbered_by call outcome.Acted = []
numbered_by call (outcome.Numbered number) = (record { number = number; call = call }) ∷ []
numbered_by call outcome.Busy = []
numbered_by call outcome.Closed = []
numbered_by call (outcome.Answered s number answer given) = []
numbered_by call (outcome.GivenUp s number) = []
numbered_by call (outcome.Ordered answer) = []
numbered_by call outcome.MonitorBusy = []
numbered_by call (outcome.Tended answer) = []
numbered_by call (outcome.Added lane) = []
numbered_by call outcome.LanesFull = []
numbered_by call outcome.NoLane = []
numbered_by call (outcome.Merged turn) = []
numbered_by call (outcome.Fault actor) = []

abbrev pub asked_by : Event → Outcome → List Asked
asked_by (event.Start s lane call) o = numbered_by call o
asked_by (event.Step n) o = []
asked_by (event.Flow n index) o = []
asked_by (event.Merge n) o = []
asked_by event.Monitor o = []
asked_by (event.Refresh s) o = []
asked_by (event.Give order) o = []
asked_by event.DropOrder o = []
asked_by (event.Queue n t) o = []
asked_by event.Add o = []
asked_by (event.Tell s t) o = []

-- those of session s, in order
abbrev pub asked_in : ℕ → World → List (Event × List ℕ) → List Asked
asked_in s w [] = []
asked_in s w (x ∷ xs) = (if starts x.0 s then asked_by x.0 (does w x.0 x.1).outcome else []) ++ asked_in s (does w x.0 x.1).world xs

-- ---- a call that is told as ended: it was made, or is given up
pub record Ended : Type 0 where
  pub number : ℕ
  pub made : Bool

abbrev pub ended_as : Outcome → List Ended
ended_as outcome.Nothing = []
ended_as outcome.Acted = []
ended_as (outcome.Numbered number) = []
ended_as outcome.Busy = []
ended_as outcome.Closed = []
ended_as (outcome.Answered s number answer given) = (record { number = number; made = is_made_by answer }) ∷ []
ended_as (outcome.GivenUp s number) = (record { number = number; made = false }) ∷ []
ended_as (outcome.Ordered answer) = []
ended_as outcome.MonitorBusy = []
ended_as (outcome.Tended answer) = []
ended_as (outcome.Added lane) = []
ended_as outcome.LanesFull = []
ended_as outcome.NoLane = []
ended_as (outcome.Merged turn) = []
ended_as (outcome.Fault actor) = []

-- those of session s, in order
abbrev pub ended_in : ℕ → World → List (Event × List ℕ) → List Ended
ended_in s w [] = []
ended_in s w (x ∷ xs) = (if is_end (does w x.0 x.1).outcome s then ended_as (does w x.0 x.1).outcome else []) ++ ended_in s (does w x.0 x.1).world xs

-- ---- numbers alone
abbrev pub numbers_asked : List Asked → List ℕ
numbers_asked xs = map (λ (x : Asked). x.number) xs

abbrev pub numbers_ended : List Ended → List ℕ
numbers_ended xs = map (λ (x : Ended). x.number) xs

-- ---- receipts
-- what the session of a receipt had asked
abbrev pub asked_for : Receipt → Asked
asked_for r = record { number = r.number; call = r.call }

-- the call of session s with this number has a receipt that stands
pub record HasReceipt (w : World) (s number : ℕ) : Type 0 where
  pub standing : Standing
  pub stands : Contains w.machine.callers.receipts standing
  pub session : standing.receipt.position.session ≡ s
  pub its : standing.receipt.number ≡ number
