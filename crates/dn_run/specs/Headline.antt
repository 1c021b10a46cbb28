use Rattle.std.specs.Prelude.{◌≡◌, ℕ, Bool, true, false, List, [], ◌∷◌, ◌++◌, Option, Some, None, Contains, All, length, if◌then◌else◌}
use Rattle.std.specs.List.{flat_map, filter_map, range_with_len}
use Rattle.std.specs.List.Sorted.{IsPermutation}
use Rattle.dn_hist.specs.Receipt.{IsInOrder}
use Rattle.dn_hist.specs.Replay.{IsLegal, map_left}
use Rattle.dn_hist.specs.declared.calls.Call.{Call}
use Rattle.dn_hist.specs.declared.receipts.Receipt.{Receipt}
use Rattle.dn_callers.specs.Callers.{Standing, receipts_of}
use Rattle.dn_callers.specs.Sessions.{IsSession}
use Rattle.dn_model.specs.PoolMap.{HoldsMap}
use Rattle.dn_outcomes.specs.Accounts.{Asked, Ended, asked_by, asked_for, ended_as, numbers_asked, numbers_ended, open_in}
use Rattle.dn_outcomes.specs.Runs.{made_in}
use Rattle.dn_outcomes.specs.Told.{is_end, starts}
use Rattle.dn_outcomes.specs.declared.events.Event.{Event}
use Rattle.dn_outcomes.specs.declared.events.Event.TheVariants as event
use Rattle.dn_outcomes.specs.declared.outcomes.CallAnswer.TheVariants.{NotOwner}
use Rattle.dn_outcomes.specs.declared.outcomes.Outcome.{Outcome}
use Rattle.dn_outcomes.specs.declared.outcomes.Outcome.TheVariants as outcome
use Rattle.dn_plan.specs.Plan.{is_owner}
use Rattle.dn_route.specs.CallersOrder.{KeepsCallersOrder}
use Rattle.dn_script.specs.declared.scripts.Line.{Line}
use Rattle.dn_run.specs.Doing.{Doing, Start, doing_of}
use Rattle.dn_run.specs.Happening.{Happening}
use Rattle.dn_run.specs.Run.{Run}

-- What is so of every run, whatever its lines let interleave.

-- ---- receipts
-- those that came to stand, in the order of the events
abbrev pub receipts_in : List Happening → List Receipt
receipts_in past = filter_map (λ (x : Happening). x.receipt) past

-- what happened has a receipt exactly where a call was made, and it is of the session and number that were told
abbrev pub call_by : Option Receipt → List (ℕ × ℕ)
call_by None = []
call_by (Some r) = (r.position.session, r.number) ∷ []

abbrev pub TellsReceipt : Happening → Type 0
TellsReceipt x = call_by x.receipt ≡ made_in x.outcome

-- a receipt of this session and number stands
pub record Stands (history : List Standing) (s number : ℕ) : Type 0 where
  pub standing : Standing
  pub stands : Contains history standing
  pub session : standing.receipt.position.session ≡ s
  pub its : standing.receipt.number ≡ number

-- ---- a lane is told as no owner by a look that doesn't show it as owner
abbrev pub LooksSo : Happening → Type 0
LooksSo x = (n s number look : ℕ) (cell : Option ℕ) (given : Bool) → x.event ≡ event.Step n
    → x.outcome ≡ outcome.Answered s number (NotOwner look cell) given → is_owner n look ≡ false

-- ---- what session s has asked, and which of it was told as ended, in order
abbrev pub asks : ℕ → Happening → List Asked
asks s x = if starts x.event s then asked_by x.event x.outcome else []

abbrev pub asked_of : ℕ → List Happening → List Asked
asked_of s past = flat_map (asks s) past

abbrev pub ends : ℕ → Happening → List Ended
ends s x = if is_end x.outcome s then ended_as x.outcome else []

abbrev pub ended_of : ℕ → List Happening → List Ended
ended_of s past = flat_map (ends s) past

-- ---- the calls of lines, each by its session and the lane that it names, in order; and those that sessions have started
pub record CallLine : Type 0 where
  pub session : ℕ
  pub lane : Option ℕ
  pub call : Call

abbrev pub call_left : Doing → List CallLine
call_left (Start s lane start call) = (record { session = s; lane = lane; call = call }) ∷ []
call_left other = []

abbrev pub calls_left : List Line → List CallLine
calls_left lines = flat_map (λ (line : Line). call_left (doing_of line)) lines

abbrev pub call_started : Event → List CallLine
call_started (event.Start s lane call) = (record { session = s; lane = lane; call = call }) ∷ []
call_started other = []

abbrev pub calls_started : List Happening → List CallLine
calls_started past = flat_map (λ (x : Happening). call_started x.event) past

-- ---- a call line is answered in one of these ways: the call has a number, or it was refused at once
abbrev pub IsStarted : Outcome → Type 0
IsStarted (outcome.Numbered number) = Unit {0}
IsStarted outcome.Busy = Unit {0}
IsStarted outcome.Closed = Unit {0}
IsStarted outcome.NoLane = Unit {0}
IsStarted other = ⊥

abbrev pub StartsSo : Happening → Type 0
StartsSo x = (s : ℕ) (lane : Option ℕ) (call : Call) → x.event ≡ event.Start s lane call → IsStarted x.outcome

-- ---- all, of the lines so far, with the words of the pool and a history
pub record IsHeadline (lines : List Line) (r : Run) (words : List ℕ) (history : List Standing) : Type 0 where
  -- The history is all that stands, in order of position: a plain map that starts empty and is given its calls gives each call its
  -- receipt's reply.
  pub once : IsPermutation r.world.machine.callers.receipts history
  pub sorted : IsInOrder (receipts_of history)
  pub legal : IsLegal (receipts_of history)
  -- Each session's calls stand in the order in which it made them, behind all that it had been told.
  pub order : KeepsCallersOrder r.world.machine.callers.told (receipts_of history)
  -- The words hold the map that the history leaves.
  pub map : HoldsMap words (map_left (receipts_of history))
  -- What stands are the receipts of the calls that were told as made, each once; so each is answered.
  pub made : receipts_in r.past ≡ receipts_of r.world.machine.callers.receipts
  pub tells : All TellsReceipt r.past
  pub answered : All (λ (x : Standing). x.answered ≡ true) history
  -- The calls that were started are those of the lines so far, in their order. A session's calls have the numbers from 1 on, but
  -- for those that were refused at once. Each receipt's call is the one that its session asked with its number.
  pub starts : calls_started r.past ++ (call_left r.doing ++ calls_left r.lines) ≡ calls_left lines
  pub started : All StartsSo r.past
  pub numbers : (s : ℕ) → numbers_asked (asked_of s r.past) ≡ range_with_len 1 (length (asked_of s r.past))
  pub asked : (x : Standing) → Contains history x → Contains (asked_of x.receipt.position.session r.past) (asked_for x.receipt)
  -- Each call that a session has asked ends once, made or given up, or has no answer; one that is given up or has no answer stands
  -- nowhere.
  pub all : (s : ℕ) → numbers_asked (asked_of s r.past) ≡ numbers_ended (ended_of s r.past) ++ numbers_asked (open_in r.world s)
  pub given_up : (s : ℕ) (x : Ended) → IsSession s → Contains (ended_of s r.past) x → x.made ≡ false → Stands history s x.number → ⊥
  pub unanswered : (s : ℕ) (x : Asked) → IsSession s → Contains (open_in r.world s) x → Stands history s x.number → ⊥
  -- A lane is told as no owner by its own look.
  pub looks : All LooksSo r.past
