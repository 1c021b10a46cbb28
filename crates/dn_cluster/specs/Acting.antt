use Rattle.std.specs.Prelude.{◌≡◌, ◌<◌, ℕ, Bool, true, false, List, [], ◌∷◌, Option, Some, None}
use Rattle.dn_word.specs.Format.{format_word}
use Rattle.dn_word.specs.Regions.{format_at, deed_at}
use Rattle.dn_act.specs.Action.{at_of}
use Rattle.dn_act.specs.Words.{word_at}
use Rattle.dn_act.specs.declared.actions.Action.{Action}
use Rattle.dn_act.specs.declared.actions.Action.TheVariants.{Load, Store}
use Rattle.dn_hist.specs.Calls.{key_of}
use Rattle.dn_hist.specs.declared.receipts.Receipt.{Receipt}
use Rattle.dn_model.specs.Regions.{slot_of}
use Rattle.dn_log.specs.Staged.{flow_of}
use Rattle.dn_plan.specs.Plan.{is_owner}
use Rattle.dn_merge.specs.Merge.{Merging, merge_next, merge_turn}
use Rattle.dn_monitor.specs.Monitor.{Monitoring, monitor_next, monitor_turn}
use Rattle.dn_monitor.specs.declared.orders.MonitorAnswer.TheVariants.{Formatted}
use Rattle.dn_monitor.specs.declared.orders.MonitorTurn.TheVariants.{Answered}
use Rattle.dn_lane.specs.Asked.{call_in}
use Rattle.dn_lane.specs.Next.{next_of}
use Rattle.dn_lane.specs.State.{LaneState}
use Rattle.dn_lane.specs.Turns.{turn_of}
use Rattle.dn_lane.specs.declared.answers.Turn.TheVariants.{More, Done}
use Rattle.dn_lane.specs.declared.answers.Answer.TheVariants.{NotOwner}
use Rattle.dn_lanes.specs.Stepped.{receipt_by}
use Rattle.dn_callers.specs.Callers.{Standing}
use Rattle.dn_machine.specs.Events.{Actor as Acting, Lane as ALane, Merger as AMerger, Monitor as AMonitor, Session as ASession}
use Rattle.dn_cluster.specs.State.{ClusterState, numbered}
use Rattle.dn_cluster.specs.Machine.{lane_in, merger_in, load_in}
use Rattle.dn_cluster.specs.declared.actors.Acted.{Acted}
use Rattle.dn_cluster.specs.declared.actors.Acted.TheVariants.{Nothing, Lane, Merger, Monitor, Session, Fault}
use Rattle.dn_cluster.specs.declared.actors.Actor.{Actor}
use Rattle.dn_cluster.specs.declared.actors.Actor.TheVariants as actor

-- What comes of an action where the access answers: it is by the word that the actor's next action finds.

-- the machine's actor
abbrev pub actor_of : Actor → Acting
actor_of (actor.Lane n) = ALane n
actor_of (actor.Merger n) = AMerger n
actor_of actor.Monitor = AMonitor
actor_of (actor.Session s) = ASession s

abbrev pub lane_found : List ℕ → LaneState → Option Action → Acted
lane_found words l None = Nothing
lane_found words l (Some action) = Lane (turn_of l (word_at words (at_of action)))

abbrev pub lane_answer : List ℕ → Option LaneState → Acted
lane_answer words None = Nothing
lane_answer words (Some l) = lane_found words l (next_of l)

abbrev pub merger_answer : List ℕ → Option Merging → Acted
merger_answer words None = Nothing
merger_answer words (Some x) = Merger (merge_turn x (word_at words (at_of (merge_next x))))

abbrev pub monitor_found : List ℕ → Monitoring → Option Action → Acted
monitor_found words x None = Nothing
monitor_found words x (Some action) = Monitor (monitor_turn x (word_at words (at_of action)))

abbrev pub monitor_answer : List ℕ → Option Monitoring → Acted
monitor_answer words None = Nothing
monitor_answer words (Some x) = monitor_found words x (monitor_next x)

abbrev pub session_answer : List ℕ → Option ℕ → Acted
session_answer words None = Nothing
session_answer words (Some slot) = Session (word_at words (deed_at slot))

abbrev pub answer_of : List ℕ → ClusterState → Actor → Acted
answer_of words c (actor.Lane n) = lane_answer words (lane_in (numbered c.nodes n))
answer_of words c (actor.Merger n) = merger_answer words (merger_in (numbered c.nodes n))
answer_of words c actor.Monitor = monitor_answer words c.monitor
answer_of words c (actor.Session s) = session_answer words (load_in (numbered c.clients s))

-- a staged word that flows
abbrev pub flow_found : Option Action → Acted
flow_found None = Nothing
flow_found (Some action) = Lane More

abbrev pub flow_answer : Option LaneState → ℕ → Acted
flow_answer None index = Nothing
flow_answer (Some l) index = flow_found (flow_of l.base.staging index)

-- the receipt that joins: that of a call that is made
abbrev pub standing_of : Option Receipt → List Standing
standing_of None = []
standing_of (Some r) = (record { receipt = r; answered = true }) ∷ []

abbrev pub joined : Acted → List Standing
joined Nothing = []
joined (Lane turn) = standing_of (receipt_by turn)
joined (Merger turn) = []
joined (Monitor turn) = []
joined (Session word) = []
joined Fault = []

-- ---- the store that formats a pool, and what the monitor answers to the word that it found
abbrev pub format_of : ℕ → Action
format_of segments = Store format_at (format_word (record { segments = segments; number = 1 }))

abbrev pub formatted_by : List ℕ → Acted
formatted_by words = Monitor (Answered (Formatted (word_at words format_at)))

-- ---- whether there is no next action
abbrev pub is_nothing : Acted → Bool
is_nothing Nothing = true
is_nothing (Lane turn) = false
is_nothing (Merger turn) = false
is_nothing (Monitor turn) = false
is_nothing (Session word) = false
is_nothing Fault = false

-- ---- whether the access failed
abbrev pub failed : Acted → Bool
failed Nothing = false
failed (Lane turn) = false
failed (Merger turn) = false
failed (Monitor turn) = false
failed (Session word) = false
failed Fault = true

abbrev pub OnDone : Acted → Type 0 → Type 0
OnDone acted P = failed acted ≡ false → P

abbrev pub OnFault : Acted → Type 0 → Type 0
OnFault acted P = failed acted ≡ true → P

-- an access that failed raised the count of faults, any other left it
pub record CountsActed (acted : Acted) (old new : ℕ) : Type 0 where
  pub done : OnDone acted (new ≡ old)
  pub fault : OnFault acted (old < new)

-- ---- A lane answers not owner by its own look: its action was the load of the deed of its call's slot, and the word that
-- it found doesn't show it as owner.
pub record IsNoOwner (words : List ℕ) (n : ℕ) (l : LaneState) (look : ℕ) : Type 0 where
  pub loads : next_of l ≡ Some (Load (deed_at (slot_of (key_of (call_in l.asked)))))
  pub found : look ≡ word_at words (deed_at (slot_of (key_of (call_in l.asked))))
  pub other : is_owner n look ≡ false

abbrev pub not_owner : ℕ → Option ℕ → Acted
not_owner look cell = Lane (Done (NotOwner look cell))
