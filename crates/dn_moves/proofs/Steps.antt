use Rattle.std.proofs.Common.{ℕ, ◌≡◌, ◌<◌, inl, Bool, true, false, List, Option, Some, None, refl, sym, ◌∙◌, ap, subst}
use Rattle.dn_word.specs.declared.packed.deed.Deed.{Deed}
use Rattle.dn_act.specs.declared.actions.Action.{Action}
use Rattle.dn_hist.specs.declared.calls.Call.{Call}
use Rattle.dn_hist.specs.declared.receipts.SessionView.{SessionView}
use Rattle.dn_model.specs.Regions.{IsLane, deed}
use Rattle.dn_monitor.specs.Monitor.{Monitoring}
use Rattle.dn_tend.specs.declared.tasks.Task.{Task}
use Rattle.dn_lane.specs.Left.{is_working}
use Rattle.dn_lane.specs.Next.{next_of}
use Rattle.dn_lane.specs.State.{LaneState}
use Rattle.dn_lane.specs.Turns.{turn_of}
use Rattle.dn_lane.specs.declared.answers.Turn.{Turn}
use Rattle.dn_lane.specs.declared.answers.Turn.TheVariants.{More, Done as Ended, Tended as EndedTask}
use Rattle.dn_machine.specs.Events.{Lane, Acts, Asks, Tends, found}
use Rattle.dn_machine.specs.State.{Machine}
use Rattle.dn_waiting.specs.Attempts.{course_settled, answered}
use Rattle.dn_waiting.specs.State.{call_of, at_lane}
use Rattle.dn_waiting.specs.Turns.{next_at}
use Rattle.dn_waiting.specs.declared.calls.Course.{Course}
use Rattle.dn_waiting.specs.declared.calls.Course.TheVariants as course
use Rattle.dn_waiting.specs.declared.calls.Next.{Next}
use Rattle.dn_waiting.specs.declared.calls.Next.TheVariants.{Rest, Tend, Try}
use Rattle.dn_outcomes.specs.Going.{called, told_of, end_of, goes_on, ends_of}
use Rattle.dn_outcomes.specs.Sound.{IsWorld}
use Rattle.dn_outcomes.specs.State.{World, with_event, with_waiting}
use Rattle.dn_outcomes.specs.Steps.{by_turn, acts_by, acts_of, acts, takes_up, tends, tries, begins, steps_by, steps_of, step}
use Rattle.dn_outcomes.specs.declared.outcomes.CallAnswer.{CallAnswer}
use Rattle.dn_outcomes.specs.declared.outcomes.CallAnswer.TheVariants.{Fenced}
use Rattle.dn_outcomes.proofs.Acts.{acted_is}
use Rattle.dn_outcomes.proofs.Steps.{IsAtRest, asks_kept, tends_kept, asking, tending}
use Rattle.dn_moves.specs.Changes.{GivesUp}
use Rattle.dn_moves.proofs.Actors.{lane_gives}

-- What a lane's step leaves of the deeds, and of the monitor's order.

-- what is so of a machine's words and order
abbrev pub At : (List ℕ → Option Monitoring → Type 0) → Machine → Type 0
At P m = P m.words m.monitor

-- each deed may change like this, and the order stays
pub record Leaves (Of : Deed → Deed → Type 0) (words : List ℕ) (was : Option Monitoring) (now : List ℕ) (is : Option Monitoring) : Type 0 where
  pub deeds : (t : ℕ) → t < 64 → Of (deed words t) (deed now t)
  pub order : is ≡ was

abbrev pub Kept : Machine → Machine → Type 0
Kept m x = Leaves GivesUp m.words m.monitor x.words x.monitor

pub kept_same : (m : Machine) → Kept m m
kept_same m = record { deeds = λ t lt. inl refl; order = refl }

-- ---- a call goes on or ends: no word is stored by that
pub goes_on_at : (P : List ℕ → Option Monitoring → Type 0) (w : World) (s : ℕ) (to : Course) → At P w.machine → At P (goes_on w s to).machine
goes_on_at P w s course.Load h = h
goes_on_at P w s (course.Wait lane) h = h
goes_on_at P w s course.Answered h = h
goes_on_at P w s course.GivenUp h = h

ends_of_at : (P : List ℕ → Option Monitoring → Type 0) (w : World) (n : ℕ) (told : CallAnswer) (o : Option SessionView) → At P w.machine → At P (ends_of w n told o).world.machine
ends_of_at P w n told None h = h
ends_of_at P w n told (Some view) h = goes_on_at P (with_waiting w (answered w.waiting n (end_of told))) view.session (course_settled (end_of told) (call_of w.waiting view.session)) h

by_turn_at : (P : List ℕ → Option Monitoring → Type 0) (w : World) (n : ℕ) (t : Turn) → At P w.machine → At P (by_turn w n t).world.machine
by_turn_at P w n More h = h
by_turn_at P w n (Ended answer) h = ends_of_at P w n (told_of answer) (at_lane w.waiting n).begun h
by_turn_at P w n (EndedTask answer) h = h

-- ---- a lane's action
acts_by_kept : (w : World) (n : ℕ) (l : LaneState) (o : Option Action) → IsWorld w → w.machine.lanes n ≡ Some l → next_of l ≡ o → Kept w.machine (acts_by w n l o).world.machine
acts_by_kept w n l None h is e = kept_same w.machine
acts_by_kept w n l (Some action) h is e =
    let P : List ℕ → Option Monitoring → Type 0 = Leaves GivesUp w.machine.words w.machine.monitor in
    by_turn_at P (with_event w (Acts (Lane n))) n (turn_of l (found w.machine action))
    (subst (λ (x : Machine). At P x) (sym (acted_is w.machine n l action is e)) (record { deeds = λ t lt. lane_gives w.segments w.machine n l action t h.machine is e lt; order = refl }))

acts_kept : (w : World) (n : ℕ) → IsWorld w → Kept w.machine (acts w n).world.machine
acts_kept w n h = by_lane (w.machine.lanes n) refl where
  by_lane : (o : Option LaneState) → w.machine.lanes n ≡ o → Kept w.machine (acts_of w n o).world.machine
  by_lane None e = kept_same w.machine
  by_lane (Some l) e = acts_by_kept w n l (next_of l) h e refl

-- ---- it takes up what waits: it is asked, by which no word changes
asked_kept : (w v : World) (n : ℕ) (m : Machine) → IsWorld v → v.machine ≡ m → m.words ≡ w.machine.words → m.monitor ≡ w.machine.monitor → Kept w.machine (acts v n).world.machine
asked_kept w v n m h is words order =
    let now : Machine = (acts v n).world.machine in
    subst (λ o. Leaves GivesUp w.machine.words o now.words now.monitor) (ap (λ (x : Machine). x.monitor) is ∙ order)
    (subst (λ ws. Leaves GivesUp ws v.machine.monitor now.words now.monitor) (ap (λ (x : Machine). x.words) is ∙ words) (acts_kept v n h))

tends_so : (w : World) (n : ℕ) (l : LaneState) (task : Task) (barred : Option ℕ) → IsAtRest w n l → next_at (at_lane w.waiting n) ≡ Tend task → Kept w.machine (tends w n task barred).world.machine
tends_so w n l task None h e = asked_kept w (with_event (takes_up w n) (Tends n task)) n _ (tends_kept w n l task h e) (tending w.machine n l task h.is) refl refl
tends_so w n l task (Some word) h e = kept_same w.machine

tries_so : (w : World) (n : ℕ) (l : LaneState) (view : SessionView) (barred : Option ℕ) → IsAtRest w n l → next_at (at_lane w.waiting n) ≡ Try view → Kept w.machine (tries w n view barred).world.machine
tries_so w n l view None h e =
    let call : Call = called (call_of w.waiting view.session) in
    asked_kept w (with_event (takes_up w n) (Asks n view call)) n _ (asks_kept w n l view h e) (asking w.machine n l view call h.is) refl refl
tries_so w n l view (Some word) h e = ends_of_at (Leaves GivesUp w.machine.words w.machine.monitor) (takes_up w n) n (Fenced word) (at_lane (takes_up w n).waiting n).begun (kept_same w.machine)

begins_so : (w : World) (n : ℕ) (l : LaneState) (barred : Option ℕ) (next : Next) → IsAtRest w n l → next_at (at_lane w.waiting n) ≡ next → Kept w.machine (begins w n barred next).world.machine
begins_so w n l barred Rest h e = kept_same w.machine
begins_so w n l barred (Tend task) h e = tends_so w n l task barred h e
begins_so w n l barred (Try view) h e = tries_so w n l view barred h e

pub step_kept : (w : World) (n : ℕ) → IsWorld w → IsLane n → Kept w.machine (step w n).world.machine
step_kept w n h lane = by_lane (w.machine.lanes n) refl where
  by_work : (l : LaneState) (b : Bool) → w.machine.lanes n ≡ Some l → is_working l.mode ≡ b → Kept w.machine (steps_by w n l b).world.machine
  by_work l true is e = acts_by_kept w n l (next_of l) h is refl
  by_work l false is e = begins_so w n l l.base.known.barred (next_at (at_lane w.waiting n)) (record { world = h; lane = lane; is = is; rests = e }) refl

  by_lane : (o : Option LaneState) → w.machine.lanes n ≡ o → Kept w.machine (steps_of w n o).world.machine
  by_lane None is = kept_same w.machine
  by_lane (Some l) is = by_work l (is_working l.mode) is refl
