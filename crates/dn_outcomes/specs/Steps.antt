use Rattle.std.specs.Prelude.{ℕ, Bool, true, false, Option, Some, None}
use Rattle.dn_act.specs.declared.actions.Action.{Action}
use Rattle.dn_hist.specs.declared.receipts.SessionView.{SessionView}
use Rattle.dn_log.specs.Staged.{flow_of}
use Rattle.dn_merge.specs.Merge.{Merging, merge_next, merge_turn}
use Rattle.dn_merge.specs.declared.mergers.MergeTurn.{MergeTurn}
use Rattle.dn_merge.specs.declared.mergers.MergeTurn.TheVariants as merging
use Rattle.dn_tend.specs.declared.tasks.Task.{Task}
use Rattle.dn_tend.specs.declared.tasks.TaskAnswer.TheVariants as task
use Rattle.dn_lane.specs.Left.{is_working}
use Rattle.dn_lane.specs.Next.{next_of}
use Rattle.dn_lane.specs.State.{LaneState}
use Rattle.dn_lane.specs.Turns.{turn_of}
use Rattle.dn_lane.specs.declared.answers.Turn.{Turn}
use Rattle.dn_lane.specs.declared.answers.Turn.TheVariants.{More, Done as Ended, Tended as EndedTask}
use Rattle.dn_machine.specs.Events.{Lane, Merger, Acts, Flows, Asks, Tends, found}
use Rattle.dn_waiting.specs.State.{call_of, at_lane}
use Rattle.dn_waiting.specs.Turns.{next_at, taken_up}
use Rattle.dn_waiting.specs.declared.calls.Next.{Next}
use Rattle.dn_waiting.specs.declared.calls.Next.TheVariants.{Rest, Tend, Try}
use Rattle.dn_outcomes.specs.declared.outcomes.CallAnswer.TheVariants.{Fenced}
use Rattle.dn_outcomes.specs.declared.outcomes.Outcome.{Outcome}
use Rattle.dn_outcomes.specs.declared.outcomes.Outcome.TheVariants.{Nothing, Acted, Tended, Merged}
use Rattle.dn_outcomes.specs.State.{World, Done, done, with_event, with_waiting}
use Rattle.dn_outcomes.specs.Going.{called, told_of, ends}

-- What lanes and their mergers do.

-- ---- A lane makes its next action.
abbrev pub by_turn : World → ℕ → Turn → Done
by_turn w n More = done w Acted
by_turn w n (Ended answer) = ends w n (told_of answer)
by_turn w n (EndedTask answer) = done w (Tended answer)

abbrev pub acts_by : World → ℕ → LaneState → Option Action → Done
acts_by w n l None = done w Nothing
acts_by w n l (Some action) = by_turn (with_event w (Acts (Lane n))) n (turn_of l (found w.machine action))

abbrev pub acts_of : World → ℕ → Option LaneState → Done
acts_of w n None = done w Nothing
acts_of w n (Some l) = acts_by w n l (next_of l)

abbrev pub acts : World → ℕ → Done
acts w n = acts_of w n (w.machine.lanes n)

-- ---- With nothing under way it takes up what waits, and makes its first action. A lane that has read the bit of a fence
-- begins nothing: what it takes up is refused with the gate word that it read.
abbrev pub takes_up : World → ℕ → World
takes_up w n = with_waiting w (taken_up w.waiting n)

abbrev pub tends : World → ℕ → Task → Option ℕ → Done
tends w n t None = acts (with_event (takes_up w n) (Tends n t)) n
tends w n t (Some word) = done (takes_up w n) (Tended (task.Fenced word))

abbrev pub tries : World → ℕ → SessionView → Option ℕ → Done
tries w n view None = acts (with_event (takes_up w n) (Asks n view (called (call_of w.waiting view.session)))) n
tries w n view (Some word) = ends (takes_up w n) n (Fenced word)

abbrev pub begins : World → ℕ → Option ℕ → Next → Done
begins w n barred Rest = done w Nothing
begins w n barred (Tend t) = tends w n t barred
begins w n barred (Try view) = tries w n view barred

abbrev pub steps_by : World → ℕ → LaneState → Bool → Done
steps_by w n l true = acts_by w n l (next_of l)
steps_by w n l false = begins w n l.base.known.barred (next_at (at_lane w.waiting n))

abbrev pub steps_of : World → ℕ → Option LaneState → Done
steps_of w n None = done w Nothing
steps_of w n (Some l) = steps_by w n l (is_working l.mode)

abbrev pub step : World → ℕ → Done
step w n = steps_of w n (w.machine.lanes n)

-- ---- A staged word flows out of turn.
abbrev pub flow_by : World → ℕ → ℕ → Option Action → Done
flow_by w n index None = done w Nothing
flow_by w n index (Some action) = done (with_event w (Flows n index)) Acted

abbrev pub flow_at : World → ℕ → ℕ → Option LaneState → Done
flow_at w n index None = done w Nothing
flow_at w n index (Some l) = flow_by w n index (flow_of l.base.staging index)

abbrev pub flow : World → ℕ → ℕ → Done
flow w n index = flow_at w n index (w.machine.lanes n)

-- ---- A merger makes its next action.
abbrev pub told_by : MergeTurn → Outcome
told_by merging.More = Acted
told_by (merging.Idle gate mark) = Merged (merging.Idle gate mark)
told_by (merging.IndexFull counter) = Merged (merging.IndexFull counter)

abbrev pub merges : World → ℕ → Option Merging → Done
merges w n None = done w Nothing
merges w n (Some x) = done (with_event w (Acts (Merger n))) (told_by (merge_turn x (found w.machine (merge_next x))))

abbrev pub merge : World → ℕ → Done
merge w n = merges w n (w.machine.mergers n)
