use Rattle.std.specs.Prelude.{◌≡◌, ◌≤◌, ◌<◌, ◌^◌, ℕ, Bool, true, false, List, [], Option, Some, None, Contains, All}
use Rattle.std.specs.List.Sorted.{IsStrictlyIncreasing}
use Rattle.dn_hist.specs.declared.receipts.Receipt.{Receipt}
use Rattle.dn_hist.specs.declared.receipts.SessionView.{SessionView}
use Rattle.dn_merge.specs.Merge.{Merging}
use Rattle.dn_model.specs.Regions.{IsLane}
use Rattle.dn_monitor.specs.Heirs.{AreHeirs, no_heirs}
use Rattle.dn_monitor.specs.Monitor.{IsOrder}
use Rattle.dn_monitor.specs.declared.orders.Order.{Order}
use Rattle.dn_monitor.specs.declared.orders.Order.TheVariants as order
use Rattle.dn_route.specs.SessionState.{SessionState}
use Rattle.dn_ask.specs.declared.asks.Act.TheVariants as act
use Rattle.dn_ask.specs.declared.asks.FindRoom.TheVariants as room
use Rattle.dn_ask.specs.declared.asks.Locate.TheVariants as locate
use Rattle.dn_ask.specs.declared.asks.Seal.TheVariants as seal
use Rattle.dn_lane.specs.State.{LaneState}
use Rattle.dn_lane.specs.declared.asked.Asked.{Asked}
use Rattle.dn_lane.specs.declared.asked.Asked.TheVariants as asked
use Rattle.dn_lane.specs.declared.modes.Mode.{Mode}
use Rattle.dn_lane.specs.declared.modes.Mode.TheVariants as mode
use Rattle.dn_lanes.specs.Begun.{IsOwnTask}
use Rattle.dn_lanes.specs.Calls.{IsCall}
use Rattle.dn_tend.specs.declared.tasks.Task.{Task}
use Rattle.dn_callers.specs.Callers.{Callers, receipts_of}
use Rattle.dn_callers.specs.Sessions.{IsSession, IsUnderWay}
use Rattle.dn_machine.specs.Sound.{IsSound}
use Rattle.dn_waiting.specs.Sound.{IsSound as AreSound}
use Rattle.dn_waiting.specs.State.{WaitingState, call_of, at_lane}
use Rattle.dn_waiting.specs.declared.calls.OpenCall.{OpenCall}
use Rattle.dn_waiting.specs.declared.calls.Place.{Place}
use Rattle.dn_waiting.specs.declared.calls.Place.TheVariants.{Loading, Queued, Begun}
use Rattle.dn_outcomes.specs.declared.events.Event.{Event}
use Rattle.dn_outcomes.specs.declared.events.Event.TheVariants as event
use Rattle.dn_outcomes.specs.Orders.{may_order}
use Rattle.dn_outcomes.specs.State.{World}
use Rattle.dn_outcomes.specs.Going.{called, slot_at}

-- What is sound of a world.

-- ---- calls and their sessions
-- a session knows no cells, and its last stamp has its range
pub record IsCaller (s : SessionState) : Type 0 where
  pub hints : s.hints ≡ []
  pub stamp : s.last.stamp < 2 ^ 31

-- the call of session s, which isn't closed, is its last one, and isn't made
pub record IsCallOf (c : Callers) (s : ℕ) (x : OpenCall) : Type 0 where
  pub unclosed : c.closed s ≡ false
  pub number : x.number ≡ (c.sessions s).number
  pub fits : IsCall x.call
  pub unmade : (r : Receipt) → Contains (receipts_of c.receipts) r → r.position.session ≡ s → r.number < x.number

-- the deed that a session loads next: that of its call's slot, where the call stands at a load
abbrev pub load_at : Place → ℕ → Option ℕ
load_at (Loading named) slot = Some slot
load_at (Queued lane) slot = None
load_at (Begun lane) slot = None

abbrev pub load_of : Option OpenCall → Option ℕ
load_of None = None
load_of (Some c) = load_at c.place (slot_at (Some c))

-- an attempt that waits may begin
pub record MayBegin (c : Callers) (view : SessionView) : Type 0 where
  pub good : IsUnderWay c view
  pub hint : view.hint ≡ None
  pub stamp : view.last.stamp < 2 ^ 31

pub record AreCalls (w : WaitingState) (c : Callers) (loads : ℕ → Option ℕ) : Type 0 where
  pub callers : (s : ℕ) → IsSession s → IsCaller (c.sessions s)
  pub calls : (s : ℕ) (x : OpenCall) → IsSession s → call_of w s ≡ Some x → IsCallOf c s x
  pub loads_are : (s : ℕ) → IsSession s → loads s ≡ load_of (call_of w s)
  pub queued : (n : ℕ) (view : SessionView) → IsLane n → Contains (at_lane w n).queue view → MayBegin c view
  pub tasks : (n : ℕ) (t : Task) → IsLane n → Contains (at_lane w n).tasks t → IsOwnTask t

-- ---- lanes
-- what a lane was asked is the attempt under way there
abbrev pub view_by : Asked → Option SessionView
view_by asked.Nothing = None
view_by (asked.Call call view room) = Some view
view_by asked.Task = None

abbrev pub view_at : Option LaneState → Option SessionView
view_at None = None
view_at (Some l) = view_by l.asked

abbrev pub IsAskedBy : WaitingState → Asked → Type 0
IsAskedBy w asked.Nothing = Unit {0}
IsAskedBy w (asked.Call call view room) = called (call_of w view.session) ≡ call
IsAskedBy w asked.Task = Unit {0}

-- the plan that a lane carries out is none of a task
abbrev pub is_calling : Mode → Bool
is_calling mode.Idle = true
is_calling (mode.Acting (act.Call phase)) = true
is_calling (mode.Acting (act.Task phase)) = false
is_calling (mode.Finding (locate.Call phase) find) = true
is_calling (mode.Finding (locate.Task phase) find) = false
is_calling (mode.Claiming (room.Call phase) claim) = true
is_calling (mode.Claiming (room.Task phase) claim) = false
is_calling (mode.Sealing (seal.Call phase) sealing) = true
is_calling (mode.Sealing (seal.Task phase) sealing) = false

-- a call has a call's plan
abbrev pub IsPlanOf : Asked → Mode → Type 0
IsPlanOf asked.Nothing m = Unit {0}
IsPlanOf (asked.Call call view room) m = is_calling m ≡ true
IsPlanOf asked.Task m = Unit {0}

pub record AreAsked (w : WaitingState) (lanes : ℕ → Option LaneState) : Type 0 where
  pub begun : (n : ℕ) → IsLane n → (at_lane w n).begun ≡ view_at (lanes n)
  pub calls : (n : ℕ) (l : LaneState) → IsLane n → lanes n ≡ Some l → IsAskedBy w l.asked
  pub plans : (n : ℕ) (l : LaneState) → IsLane n → lanes n ≡ Some l → IsPlanOf l.asked l.mode

-- lanes are made in the order of their numbers
pub record AreMade (made : ℕ) (mergers : ℕ → Option Merging) : Type 0 where
  pub most : made ≤ 63
  pub yes_made : (n : ℕ) → 1 ≤ n → n ≤ made → (x : Merging) × (mergers n ≡ Some x)
  pub not_made : (n : ℕ) → made < n → mergers n ≡ None

pub record AreLive (made : ℕ) (live : List ℕ) : Type 0 where
  pub rising : IsStrictlyIncreasing live
  pub lanes : All (λ (n : ℕ). (1 ≤ n) × (n ≤ made)) live

pub record IsWorld (w : World) : Type 0 where
  pub machine : IsSound w.segments w.machine
  pub waiting : AreSound w.waiting
  pub calls : AreCalls w.waiting w.machine.callers w.machine.loads
  pub asked : AreAsked w.waiting w.machine.lanes
  pub made : AreMade w.made w.machine.mergers
  pub live : AreLive w.made w.live

-- ---- when an event may be given
abbrev pub IsTake : List ℕ → Order → List ℕ → Type 0
IsTake live (order.Format segments) heirs = ⊥
IsTake live (order.Look slot) heirs = heirs ≡ no_heirs
IsTake live (order.Move slot to) heirs = heirs ≡ no_heirs
IsTake live (order.Fence lane) heirs = heirs ≡ no_heirs
IsTake live (order.Takeover lane) heirs = AreHeirs live heirs

-- where the order isn't refused
abbrev pub TakesSo : World → Order → List ℕ → Type 0
TakesSo w o heirs = may_order w o ≡ true → w.machine.monitor ≡ None → IsTake w.live o heirs

abbrev pub MayHappen : World → Event → List ℕ → Type 0
MayHappen w (event.Start s lane call) heirs = IsSession s × IsCall call
MayHappen w (event.Step n) heirs = Unit {0}
MayHappen w (event.Flow n index) heirs = Unit {0}
MayHappen w (event.Merge n) heirs = Unit {0}
MayHappen w event.Monitor heirs = Unit {0}
MayHappen w (event.Refresh s) heirs = IsSession s
MayHappen w (event.Give o) heirs = IsOrder o × TakesSo w o heirs
MayHappen w event.DropOrder heirs = Unit {0}
MayHappen w (event.Queue n t) heirs = IsOwnTask t
MayHappen w event.Add heirs = Unit {0}
MayHappen w (event.Tell s t) heirs = IsSession s × IsSession t
