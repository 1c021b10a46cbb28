use Rattle.std.specs.Prelude.{ℕ, Bool, true, false, List, Option, Some, None, if◌then◌else◌}
use Rattle.dn_word.specs.Regions.{deed_at}
use Rattle.dn_word.specs.declared.positions.Position.{Position}
use Rattle.dn_act.specs.Action.{at_of, words_after}
use Rattle.dn_act.specs.Words.{word_at}
use Rattle.dn_act.specs.declared.actions.Action.{Action}
use Rattle.dn_act.specs.declared.actions.Action.TheVariants.{Load}
use Rattle.dn_hist.specs.declared.calls.Call.{Call}
use Rattle.dn_hist.specs.declared.receipts.Receipt.{Receipt}
use Rattle.dn_hist.specs.declared.receipts.SessionView.{SessionView}
use Rattle.dn_log.specs.Staged.{flow_of}
use Rattle.dn_model.specs.Register.{may_write}
use Rattle.dn_store.specs.State.{with_at}
use Rattle.dn_tend.specs.declared.tasks.Task.{Task}
use Rattle.dn_merge.specs.Merge.{Merging, started, merge_next, merge_after}
use Rattle.dn_monitor.specs.Monitor.{Monitoring, begun as begun_order, monitor_next, monitor_turn, monitor_after, is_last}
use Rattle.dn_monitor.specs.declared.orders.Order.{Order}
use Rattle.dn_lane.specs.Next.{next_of}
use Rattle.dn_lane.specs.State.{LaneState, fresh, begun, begun_task}
use Rattle.dn_lane.specs.Turns.{turn_of, left_of, flowed_of}
use Rattle.dn_lane.specs.declared.asked.Asked.{Asked}
use Rattle.dn_lane.specs.declared.asked.Asked.TheVariants as asked
use Rattle.dn_lanes.specs.Stepped.{receipt_by}
use Rattle.dn_callers.specs.Callers.{Callers}
use Rattle.dn_callers.specs.Changes.{numbered_at, told_at, answered_by, closed_at, unanswered_by, routed_at, hinted_at}
use Rattle.dn_machine.specs.State.{Machine}

-- What happens to a machine, an event at a time.

pub data Actor : Type 0 where
  Lane : (n : ℕ) → Actor
  Merger : (n : ℕ) → Actor
  Monitor : Actor
  Session : (s : ℕ) → Actor

pub data Event : Type 0 where
  -- An actor makes its next action, or a lane's staged word flows out of turn.
  Acts : (who : Actor) → Event
  Flows : (n index : ℕ) → Event
  -- The action failed, and was done or not done: a lane is stopped, its merger begins anew, the order is dropped, the
  -- session loads nothing.
  Fails : (who : Actor) → (done : Bool) → Event
  FlowFails : (n index : ℕ) → (done : Bool) → Event
  -- A thing is given.
  Asks : (n : ℕ) → (view : SessionView) → (call : Call) → Event
  Tends : (n : ℕ) → (task : Task) → Event
  Orders : (order : Order) → (heirs : List ℕ) → Event
  Loads : (s slot : ℕ) → Event
  Adds : (n segments : ℕ) → Event
  Numbers : (s : ℕ) → Event
  Tells : (s : ℕ) → (position : Position) → Event
  Hints : (s : ℕ) → (pairs : List (ℕ × ℕ)) → Event
  -- A lane is stopped; a session is closed; a merger begins anew; an order is dropped.
  Stops : (n : ℕ) → Event
  Closes : (s : ℕ) → Event
  Renews : (n : ℕ) → Event
  Drops : Event

-- ---- an action on the words
abbrev pub found : Machine → Action → ℕ
found m action = word_at m.words (at_of action)

abbrev pub acted : Machine → Action → Machine
acted m action = record m { words = words_after action m.words }

abbrev pub acted_if : Machine → Action → Bool → Machine
acted_if m action true = acted m action
acted_if m action false = m

-- ---- receipts
abbrev pub answered : Callers → Option Receipt → Callers
answered c None = c
answered c (Some r) = answered_by c r

-- A lane is stopped: the session of its call is closed, which has no answer then. The receipt of a put or delete stands
-- where the exchange that would have ended it was done.
abbrev pub closed_for : Callers → Asked → Callers
closed_for c asked.Nothing = c
closed_for c (asked.Call call view room) = closed_at c view.session
closed_for c asked.Task = c

abbrev pub unanswered : Callers → Asked → Option Receipt → Callers
unanswered c a None = closed_for c a
unanswered c a (Some r) = unanswered_by c r

abbrev pub written : Option Receipt → Option Receipt
written None = None
written (Some r) = if may_write r.call then Some r else None

abbrev pub receipt_if : Bool → LaneState → ℕ → Option Receipt
receipt_if true l word = written (receipt_by (turn_of l word))
receipt_if false l word = None

-- ---- lanes
abbrev pub with_lane : Machine → ℕ → Option LaneState → Machine
with_lane m n l = record m { lanes = with_at m.lanes n l }

abbrev pub lane_does : Machine → ℕ → LaneState → Option Action → Machine
lane_does m n l None = m
lane_does m n l (Some action) = record (with_lane (acted m action) n (Some (left_of l (found m action)))) {
  callers = answered m.callers (receipt_by (turn_of l (found m action)));
}

abbrev pub lane_flows : Machine → ℕ → LaneState → ℕ → Option Action → Machine
lane_flows m n l index None = m
lane_flows m n l index (Some action) = with_lane (acted m action) n (Some (flowed_of l index))

abbrev pub lane_stops : Machine → ℕ → LaneState → Option Receipt → Machine
lane_stops m n l r = record (with_lane m n None) { callers = unanswered m.callers l.asked r }

abbrev pub lane_fails : Machine → ℕ → LaneState → Bool → Option Action → Machine
lane_fails m n l done None = m
lane_fails m n l done (Some action) = lane_stops (acted_if m action done) n l (receipt_if done l (found m action))

abbrev pub flow_fails : Machine → ℕ → LaneState → Bool → Option Action → Machine
flow_fails m n l done None = m
flow_fails m n l done (Some action) = lane_stops (acted_if m action done) n l None

-- of the lane with a number, where it runs
abbrev pub of_lane : Machine → Option LaneState → (LaneState → Machine) → Machine
of_lane m None change = m
of_lane m (Some l) change = change l

-- ---- mergers, the monitor, sessions
abbrev pub with_merger : Machine → ℕ → Option Merging → Machine
with_merger m n x = record m { mergers = with_at m.mergers n x }

abbrev pub of_merger : Machine → Option Merging → (Merging → Machine) → Machine
of_merger m None change = m
of_merger m (Some x) change = change x

abbrev pub ordered : Monitoring → ℕ → Option Monitoring
ordered x word = if is_last (monitor_turn x word) then None else Some (monitor_after x word)

abbrev pub monitor_does : Machine → Monitoring → Option Action → Machine
monitor_does m x None = m
monitor_does m x (Some action) = record (acted m action) { monitor = ordered x (found m action) }

abbrev pub monitor_fails : Machine → Bool → Option Action → Machine
monitor_fails m done None = m
monitor_fails m done (Some action) = record (acted_if m action done) { monitor = None }

abbrev pub of_monitor : Machine → Option Monitoring → (Monitoring → Machine) → Machine
of_monitor m None change = m
of_monitor m (Some x) change = change x

abbrev pub loaded : Machine → ℕ → Option ℕ → Machine
loaded m s None = m
loaded m s (Some slot) = record m {
  callers = routed_at m.callers s slot (found m (Load (deed_at slot)));
  loads = with_at m.loads s None;
}

-- ---- all events
abbrev pub acts : Machine → Actor → Machine
acts m (Lane n) = of_lane m (m.lanes n) (λ l. lane_does m n l (next_of l))
acts m (Merger n) = of_merger m (m.mergers n)
    (λ x. with_merger (acted m (merge_next x)) n (Some (merge_after x (found m (merge_next x)))))
acts m Monitor = of_monitor m m.monitor (λ x. monitor_does m x (monitor_next x))
acts m (Session s) = loaded m s (m.loads s)

abbrev pub fails : Machine → Actor → Bool → Machine
fails m (Lane n) done = of_lane m (m.lanes n) (λ l. lane_fails m n l done (next_of l))
fails m (Merger n) done = of_merger m (m.mergers n)
    (λ x. with_merger (acted_if m (merge_next x) done) n (Some (started n)))
fails m Monitor done = of_monitor m m.monitor (λ x. monitor_fails m done (monitor_next x))
fails m (Session s) done = record m { loads = with_at m.loads s None }

abbrev pub happens : Machine → Event → Machine
happens m (Acts who) = acts m who
happens m (Flows n index) = of_lane m (m.lanes n) (λ l. lane_flows m n l index (flow_of l.base.staging index))
happens m (Fails who done) = fails m who done
happens m (FlowFails n index done) =
    of_lane m (m.lanes n) (λ l. flow_fails m n l done (flow_of l.base.staging index))
happens m (Asks n view call) = of_lane m (m.lanes n) (λ l. with_lane m n (Some (begun l view call)))
happens m (Tends n task) = of_lane m (m.lanes n) (λ l. with_lane m n (Some (begun_task l task)))
happens m (Orders order heirs) = record m { monitor = Some (begun_order order heirs) }
happens m (Loads s slot) = record m { loads = with_at m.loads s (Some slot) }
happens m (Adds n segments) = with_merger (with_lane m n (Some (fresh n segments))) n (Some (started n))
happens m (Numbers s) = record m { callers = numbered_at m.callers s }
happens m (Tells s position) = record m { callers = told_at m.callers s position }
happens m (Hints s pairs) = record m { callers = hinted_at m.callers s pairs }
happens m (Stops n) = of_lane m (m.lanes n) (λ l. lane_stops m n l None)
happens m (Closes s) = record m { callers = closed_at m.callers s }
happens m (Renews n) = of_merger m (m.mergers n) (λ x. with_merger m n (Some (started n)))
happens m Drops = record m { monitor = None }
