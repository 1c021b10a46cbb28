use Rattle.std.specs.Prelude.{◌≡◌, ◌+◌, ◌==◌, ◌&&◌, ◌||◌, ◌++◌, ◌∷◌, [], ℕ, Bool, true, false, Option, Some, None}
use Rattle.dn_act.specs.Words.{word_at}
use Rattle.dn_hist.specs.declared.calls.Call.{Call}
use Rattle.dn_hist.specs.declared.receipts.Receipt.{Receipt}
use Rattle.dn_model.specs.Regions.{deed_at}
use Rattle.dn_plan.specs.Plan.{is_owner}
use Rattle.dn_waiting.specs.State.{WaitingState, call_of}
use Rattle.dn_waiting.specs.declared.calls.OpenCall.{OpenCall}
use Rattle.dn_outcomes.specs.Going.{called, slot_at}
use Rattle.dn_outcomes.specs.State.{World}
use Rattle.dn_outcomes.specs.declared.events.Event.{Event}
use Rattle.dn_outcomes.specs.declared.events.Event.TheVariants as event
use Rattle.dn_outcomes.specs.declared.outcomes.CallAnswer.{CallAnswer}
use Rattle.dn_outcomes.specs.declared.outcomes.CallAnswer.TheVariants as answer
use Rattle.dn_outcomes.specs.declared.outcomes.Outcome.{Outcome}
use Rattle.dn_outcomes.specs.declared.outcomes.Outcome.TheVariants as outcome

-- What an outcome tells of receipts and of calls.

-- ---- a receipt comes to stand, answered: that of the call of session s, which has this number
pub record IsMade (w now : World) (s number : ℕ) : Type 0 where
  pub receipt : Receipt
  pub joins : now.machine.callers.receipts ≡ w.machine.callers.receipts ++ (record { receipt = receipt; answered = true }) ∷ []
  pub session : receipt.position.session ≡ s
  pub its : receipt.number ≡ number
  pub call : receipt.call ≡ called (call_of w.waiting s)

-- or none does
abbrev pub IsQuiet : World → World → Type 0
IsQuiet w now = now.machine.callers.receipts ≡ w.machine.callers.receipts

abbrev pub Joins : World → World → ℕ → ℕ → CallAnswer → Type 0
Joins w now s number (answer.Made way) = IsMade w now s number
Joins w now s number (answer.NotOwner look cell) = IsQuiet w now
Joins w now s number (answer.Fenced word) = IsQuiet w now
Joins w now s number (answer.Full counter segments) = IsQuiet w now
Joins w now s number (answer.Worn stamp) = IsQuiet w now

abbrev pub Stands : World → World → Outcome → Type 0
Stands w now outcome.Nothing = IsQuiet w now
Stands w now outcome.Acted = IsQuiet w now
Stands w now (outcome.Numbered number) = IsQuiet w now
Stands w now outcome.Busy = IsQuiet w now
Stands w now outcome.Closed = IsQuiet w now
Stands w now (outcome.Answered s number answer given) = Joins w now s number answer
Stands w now (outcome.GivenUp s number) = IsQuiet w now
Stands w now (outcome.Ordered answer) = IsQuiet w now
Stands w now outcome.MonitorBusy = IsQuiet w now
Stands w now (outcome.Tended answer) = IsQuiet w now
Stands w now (outcome.Added lane) = IsQuiet w now
Stands w now outcome.LanesFull = IsQuiet w now
Stands w now outcome.NoLane = IsQuiet w now
Stands w now (outcome.Merged turn) = IsQuiet w now
Stands w now (outcome.Fault actor) = IsQuiet w now

-- ---- what lane n has looked at for the call of session s, which doesn't show it as owner: the deed of its slot
pub record IsNoOwner (w : World) (n s look : ℕ) : Type 0 where
  pub found : look ≡ word_at w.machine.words (deed_at (slot_at (call_of w.waiting s)))
  pub other : is_owner n look ≡ false

-- ---- the call of session s ends by this outcome
abbrev pub is_made_by : CallAnswer → Bool
is_made_by (answer.Made way) = true
is_made_by (answer.NotOwner look cell) = false
is_made_by (answer.Fenced word) = false
is_made_by (answer.Full counter segments) = false
is_made_by (answer.Worn stamp) = false

abbrev pub is_end : Outcome → ℕ → Bool
is_end outcome.Nothing s = false
is_end outcome.Acted s = false
is_end (outcome.Numbered number) s = false
is_end outcome.Busy s = false
is_end outcome.Closed s = false
is_end (outcome.Answered t number answer given) s = (t == s) && (is_made_by answer || given)
is_end (outcome.GivenUp t number) s = t == s
is_end (outcome.Ordered answer) s = false
is_end outcome.MonitorBusy s = false
is_end (outcome.Tended answer) s = false
is_end (outcome.Added lane) s = false
is_end outcome.LanesFull s = false
is_end outcome.NoLane s = false
is_end (outcome.Merged turn) s = false
is_end (outcome.Fault actor) s = false

-- a call is there still, the same
abbrev pub IsStill : OpenCall → Option OpenCall → Type 0
IsStill c None = ⊥
IsStill c (Some x) = (x.number ≡ c.number) × (x.call ≡ c.call)

-- it is gone where it has ended, and else still there; and none begins
abbrev pub GoesOn : Bool → Option OpenCall → Option OpenCall → Type 0
GoesOn end None now = now ≡ None
GoesOn true (Some c) now = now ≡ None
GoesOn false (Some c) now = IsStill c now

-- ---- session s starts a call by this event
abbrev pub starts : Event → ℕ → Bool
starts (event.Start t lane call) s = t == s
starts (event.Step n) s = false
starts (event.Flow n index) s = false
starts (event.Merge n) s = false
starts event.Monitor s = false
starts (event.Refresh t) s = false
starts (event.Give o) s = false
starts event.DropOrder s = false
starts (event.Queue n t) s = false
starts event.Add s = false
starts (event.Tell t u) s = false

-- its call, which has the next number
abbrev pub IsNew : Option OpenCall → ℕ → Call → Type 0
IsNew None number call = ⊥
IsNew (Some c) number call = (c.number ≡ number) × (c.call ≡ call)

pub record HasBegun (w now : World) (s number : ℕ) (call : Call) : Type 0 where
  pub free : call_of w.waiting s ≡ None
  pub next : number ≡ (w.machine.callers.sessions s).number + 1
  pub new : IsNew (call_of now.waiting s) number call

-- or nothing has happened
abbrev pub Starts : World → World → ℕ → Call → Outcome → Type 0
Starts w now s call outcome.Nothing = now ≡ w
Starts w now s call outcome.Acted = now ≡ w
Starts w now s call (outcome.Numbered number) = HasBegun w now s number call
Starts w now s call outcome.Busy = now ≡ w
Starts w now s call outcome.Closed = now ≡ w
Starts w now s call (outcome.Answered t number answer given) = now ≡ w
Starts w now s call (outcome.GivenUp t number) = now ≡ w
Starts w now s call (outcome.Ordered answer) = now ≡ w
Starts w now s call outcome.MonitorBusy = now ≡ w
Starts w now s call (outcome.Tended answer) = now ≡ w
Starts w now s call (outcome.Added lane) = now ≡ w
Starts w now s call outcome.LanesFull = now ≡ w
Starts w now s call outcome.NoLane = now ≡ w
Starts w now s call (outcome.Merged turn) = now ≡ w
Starts w now s call (outcome.Fault actor) = now ≡ w

-- ---- the number that is told is the call's
abbrev pub HasNumber : Option OpenCall → ℕ → Type 0
HasNumber None number = ⊥
HasNumber (Some c) number = c.number ≡ number

abbrev pub Names : WaitingState → Outcome → Type 0
Names w outcome.Nothing = Unit {0}
Names w outcome.Acted = Unit {0}
Names w (outcome.Numbered number) = Unit {0}
Names w outcome.Busy = Unit {0}
Names w outcome.Closed = Unit {0}
Names w (outcome.Answered s number answer given) = HasNumber (call_of w s) number
Names w (outcome.GivenUp s number) = HasNumber (call_of w s) number
Names w (outcome.Ordered answer) = Unit {0}
Names w outcome.MonitorBusy = Unit {0}
Names w (outcome.Tended answer) = Unit {0}
Names w (outcome.Added lane) = Unit {0}
Names w outcome.LanesFull = Unit {0}
Names w outcome.NoLane = Unit {0}
Names w (outcome.Merged turn) = Unit {0}
Names w (outcome.Fault actor) = Unit {0}
