use Rattle.std.specs.Prelude.{◌≡◌, ◌<◌, ◌^◌, ℕ, false, List, Some, None}
use Rattle.dn_hist.specs.declared.calls.Call.{Call}
use Rattle.dn_hist.specs.declared.receipts.SessionView.{SessionView}
use Rattle.dn_model.specs.Regions.{IsLane}
use Rattle.dn_monitor.specs.Monitor.{IsOrder}
use Rattle.dn_monitor.specs.declared.orders.Order.{Order}
use Rattle.dn_monitor.specs.declared.orders.Order.TheVariants.{Format, Takeover}
use Rattle.dn_lane.specs.State.{LaneState}
use Rattle.dn_lane.specs.declared.asked.Asked.{Asked}
use Rattle.dn_lane.specs.declared.asked.Asked.TheVariants as asked
use Rattle.dn_lane.specs.declared.modes.Mode.TheVariants.{Idle}
use Rattle.dn_lanes.specs.Begun.{IsOwnTask}
use Rattle.dn_lanes.specs.Calls.{IsCall}
use Rattle.dn_orders.specs.Knowing.{AreLanes}
use Rattle.dn_callers.specs.Sessions.{IsSession, IsUnderWay}
use Rattle.dn_machine.specs.State.{Machine}
use Rattle.dn_machine.specs.Events.{Event, Acts, Flows, Fails, FlowFails, Asks, Tends, Orders, Loads, Adds, Numbers, Tells, Hints, Stops, Closes, Renews, Drops}

-- When a thing may be given.

-- the session of a lane's call, where it has one
abbrev pub IsOfSession : ℕ → Asked → Type 0
IsOfSession s asked.Nothing = ⊥
IsOfSession s (asked.Call call view room) = view.session ≡ s
IsOfSession s asked.Task = ⊥

-- no lane that runs has a call of this session
abbrev pub HasNoCall : Machine → ℕ → Type 0
HasNoCall m s = (n : ℕ) (l : LaneState) → IsLane n → m.lanes n ≡ Some l → IsOfSession s l.asked → ⊥

-- lane n runs, and has nothing under way
pub record IsFree (m : Machine) (n : ℕ) : Type 0 where
  pub lane : LaneState
  pub runs : m.lanes n ≡ Some lane
  pub idle : lane.mode ≡ Idle

-- a call of a session that has no other, with a view that it gave
pub record MayAsk (m : Machine) (n : ℕ) (view : SessionView) (call : Call) : Type 0 where
  pub free : IsFree m n
  pub fits : IsCall call
  pub last : view.last.stamp < 2 ^ 31
  pub hint : view.hint ≡ None
  pub good : IsUnderWay m.callers view
  pub alone : HasNoCall m view.session

-- no order is under way; a pool is formatted by its opening alone
pub record MayOrder (m : Machine) (order : Order) (heirs : List ℕ) : Type 0 where
  pub free : m.monitor ≡ None
  pub fits : IsOrder order
  pub formatted : (segments : ℕ) → order ≡ Format segments → ⊥
  pub lanes : (lane : ℕ) → order ≡ Takeover lane → AreLanes heirs

abbrev pub IsGiven : ℕ → Machine → Event → Type 0
IsGiven pool m (Acts who) = Unit {0}
IsGiven pool m (Flows n index) = Unit {0}
IsGiven pool m (Fails who done) = Unit {0}
IsGiven pool m (FlowFails n index done) = Unit {0}
IsGiven pool m (Asks n view call) = MayAsk m n view call
IsGiven pool m (Tends n task) = IsFree m n × IsOwnTask task
IsGiven pool m (Orders order heirs) = MayOrder m order heirs
IsGiven pool m (Loads s slot) = slot < 64
IsGiven pool m (Adds n segments) = IsLane n × (m.mergers n ≡ None) × (segments ≡ pool)
IsGiven pool m (Numbers s) = Unit {0}
IsGiven pool m (Tells s position) = IsSession s × (m.callers.closed s ≡ false)
IsGiven pool m (Hints s pairs) = Unit {0}
IsGiven pool m (Stops n) = Unit {0}
IsGiven pool m (Closes s) = HasNoCall m s
IsGiven pool m (Renews n) = Unit {0}
IsGiven pool m Drops = Unit {0}
