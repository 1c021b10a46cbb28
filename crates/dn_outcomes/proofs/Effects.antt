use Rattle.std.proofs.Common.{ℕ, ◌≡◌, Bool, true, false, List, Option, Some, None, refl, sym, ◌∙◌, ap, subst}
use Rattle.dn_act.specs.Action.{words_after}
use Rattle.dn_act.specs.declared.actions.Action.{Action}
use Rattle.dn_hist.specs.Calls.{Bytes, reply_of, map_after}
use Rattle.dn_hist.specs.declared.calls.Call.{Call}
use Rattle.dn_hist.specs.declared.receipts.Receipt.{Receipt}
use Rattle.dn_hist.specs.declared.receipts.SessionView.{SessionView}
use Rattle.dn_model.specs.PoolMap.{HoldsMap}
use Rattle.dn_model.specs.Regions.{IsLane}
use Rattle.dn_plan.specs.declared.results.Ending.{Ending}
use Rattle.dn_plan.specs.declared.results.Ending.TheVariants as ending
use Rattle.dn_ask.specs.declared.asks.End.TheVariants as end
use Rattle.dn_tend.specs.declared.tasks.Task.{Task}
use Rattle.dn_lane.specs.Ends.{receipt_of, answer_of as answer_to}
use Rattle.dn_lane.specs.Left.{is_working}
use Rattle.dn_lane.specs.Next.{next_of}
use Rattle.dn_lane.specs.State.{LaneState}
use Rattle.dn_lane.specs.Taken.{Taken}
use Rattle.dn_lane.specs.Turns.{turn_of, turn_going}
use Rattle.dn_lane.specs.declared.asked.Asked.{Asked}
use Rattle.dn_lane.specs.declared.asked.Asked.TheVariants as asked
use Rattle.dn_lane.specs.declared.base.Base.{Base}
use Rattle.dn_lane.specs.declared.modes.Going.{Going}
use Rattle.dn_lane.specs.declared.modes.Going.TheVariants.{On, End}
use Rattle.dn_lanes.specs.Stepped.{receipt_by}
use Rattle.dn_callers.specs.Callers.{Standing}
use Rattle.dn_machine.specs.Events.{Asks, Tends, found}
use Rattle.dn_machine.specs.State.{Machine}
use Rattle.dn_machine.proofs.Attempts.{IsActing, made_reply, made_map, unmade_keeps}
use Rattle.dn_waiting.specs.Attempts.{course_settled, answered}
use Rattle.dn_waiting.specs.State.{WaitingState, call_of, at_lane}
use Rattle.dn_waiting.specs.Turns.{next_at}
use Rattle.dn_waiting.specs.declared.calls.Course.{Course}
use Rattle.dn_waiting.specs.declared.calls.Course.TheVariants as course
use Rattle.dn_waiting.specs.declared.calls.Next.{Next}
use Rattle.dn_waiting.specs.declared.calls.Next.TheVariants.{Rest, Tend, Try}
use Rattle.dn_outcomes.specs.Effects.{EffectBy, Effect}
use Rattle.dn_outcomes.specs.Going.{called, told_of, end_of, goes_on, ends_of, ends}
use Rattle.dn_outcomes.specs.Sound.{IsWorld}
use Rattle.dn_outcomes.specs.State.{World, Done, with_event, with_waiting}
use Rattle.dn_outcomes.specs.Steps.{by_turn, acts_by, acts_of, acts, takes_up, tends, tries, begins, steps_by, steps_of, step}
use Rattle.dn_outcomes.specs.declared.outcomes.CallAnswer.{CallAnswer}
use Rattle.dn_outcomes.specs.declared.outcomes.CallAnswer.TheVariants as answer
use Rattle.dn_outcomes.proofs.Acts.{world_after, IsAction, begun_there, acted_is, taken_of, lane_action}
use Rattle.dn_outcomes.proofs.Steps.{IsAtRest, HasTried, has_tried, asks_kept, tends_kept, asking, tending}
use Rattle.dn_outcomes.proofs.Told.{goes_on_receipts}

-- What a lane's step does to the map.

-- ---- a call goes on: no word is stored by that
pub goes_on_map : (w : World) (s : ℕ) (to : Course) (held : Bytes) → HoldsMap w.machine.words held → HoldsMap (goes_on w s to).machine.words held
goes_on_map w s course.Load held h = h
goes_on_map w s (course.Wait lane) held h = h
goes_on_map w s course.Answered held h = h
goes_on_map w s course.GivenUp held h = h

effect_on : (before : List Standing) (w : World) (s : ℕ) (to : Course) (held : Bytes) (a : CallAnswer) → EffectBy before w held a → EffectBy before (goes_on w s to) held a
effect_on before w s to held (answer.Made way) h = record {
  receipt = h.receipt;
  joins = goes_on_receipts w s to ∙ h.joins;
  reply = h.reply;
  leaves = goes_on_map w s to (map_after h.receipt.call held) h.leaves;
}
effect_on before w s to held (answer.NotOwner look cell) h = goes_on_map w s to held h
effect_on before w s to held (answer.Fenced word) h = goes_on_map w s to held h
effect_on before w s to held (answer.Full counter segments) h = goes_on_map w s to held h
effect_on before w s to held (answer.Worn stamp) h = goes_on_map w s to held h

-- an attempt ends, over a world whose waiting part no effect tells
waits_by : (before : List Standing) (w : World) (v : WaitingState) (held : Bytes) (a : CallAnswer) → EffectBy before w held a → EffectBy before (with_waiting w v) held a
waits_by before w v held (answer.Made way) h = record { receipt = h.receipt; joins = h.joins; reply = h.reply; leaves = h.leaves }
waits_by before w v held (answer.NotOwner look cell) h = h
waits_by before w v held (answer.Fenced word) h = h
waits_by before w v held (answer.Full counter segments) h = h
waits_by before w v held (answer.Worn stamp) h = h

ends_effect : (before : List Standing) (w : World) (n : ℕ) (view : SessionView) (told : CallAnswer) (held : Bytes) → (at_lane w.waiting n).begun ≡ Some view → EffectBy before w held told
    → Effect before (ends w n told).world held (ends w n told).outcome
ends_effect before w n view told held begun h =
    let v : World = with_waiting w (answered w.waiting n (end_of told)) in
    subst (λ b. Effect before (ends_of w n told b).world held (ends_of w n told b).outcome) (sym begun)
    (effect_on before v view.session (course_settled (end_of told) (call_of w.waiting view.session)) held told (waits_by before w v.waiting held told h))

-- ---- a lane's action
-- what it does to the words, by its receipt
record Changes (words : List ℕ) (held : Bytes) (o : Option Receipt) : Type 0 where
  unmade : o ≡ None → HoldsMap words held
  reply : (r : Receipt) → o ≡ Some r → r.reply ≡ reply_of r.call held
  made : (r : Receipt) → o ≡ Some r → HoldsMap words (map_after r.call held)

call_effect : (w : World) (n : ℕ) (words : List ℕ) (g : Base) (call : Call) (view : SessionView) (room : List ℕ) (e : Ending) (held : Bytes) → Changes words held (receipt_by (turn_going (asked.Call call view room) (End (end.Call e))))
    → EffectBy w.machine.callers.receipts (world_after w n words g (asked.Call call view room) (End (end.Call e))) held (told_of (answer_to call view room e))
call_effect w n words g call view room (ending.Made to place located) held c = (
    let r : Receipt = receipt_of call view room to place located.held in record {
      receipt = r;
      joins = refl;
      reply = c.reply r refl;
      leaves = c.made r refl;
    })
call_effect w n words g call view room (ending.NotOwner look) held c = c.unmade refl
call_effect w n words g call view room (ending.Fenced word) held c = c.unmade refl
call_effect w n words g call view room (ending.Full counter segments) held c = c.unmade refl
call_effect w n words g call view room (ending.Worn stamp) held c = c.unmade refl

action_effect : (w : World) (n : ℕ) (l : LaneState) (words : List ℕ) (g : Base) (b : Asked) (going : Going) (held : Bytes) → IsAction w n l words g b going → Changes words held (receipt_by (turn_going b going))
    → (let d : Done = by_turn (world_after w n words g b going) n (turn_going b going) in Effect w.machine.callers.receipts d.world held d.outcome)
action_effect w n l words g b (On m) held h c = c.unmade refl
action_effect w n l words g asked.Nothing (End (end.Call e)) held h c = c.unmade refl
action_effect w n l words g asked.Nothing (End (end.Task answer)) held h c = c.unmade refl
action_effect w n l words g asked.Task (End (end.Call e)) held h c = c.unmade refl
action_effect w n l words g asked.Task (End (end.Task answer)) held h c = c.unmade refl
action_effect w n l words g (asked.Call call view room) (End (end.Call e)) held h c =
    ends_effect w.machine.callers.receipts (world_after w n words g (asked.Call call view room) (End (end.Call e))) n view (told_of (answer_to call view room e)) held
    (begun_there w n l words g (asked.Call call view room) (End (end.Call e)) h) (call_effect w n words g call view room e held c)
action_effect w n l words g (asked.Call call view room) (End (end.Task answer)) held h c = absurd (cc h.plan)

changes : (w : World) (n : ℕ) (l : LaneState) (action : Action) (held : Bytes) → IsWorld w → w.machine.lanes n ≡ Some l → next_of l ≡ Some action → HoldsMap w.machine.words held
    → Changes (words_after action w.machine.words) held (receipt_by (turn_of l (found w.machine action)))
changes w n l action held h is next holds =
    let a : IsActing w.segments w.machine n l action = record { sound = h.machine; there = is; next = next } in record {
      unmade = λ e. unmade_keeps w.segments w.machine n l action held a e holds;
      reply = λ r e. made_reply w.segments w.machine n l action r held a e holds;
      made = λ r e. made_map w.segments w.machine n l action r held a e holds;
    }

-- what is told of a thing done
abbrev pub EffectOf : World → Done → Bytes → Type 0
EffectOf w d held = Effect w.machine.callers.receipts d.world held d.outcome

acts_so : (w : World) (n : ℕ) (l : LaneState) (action : Action) (held : Bytes) → IsWorld w → IsLane n → w.machine.lanes n ≡ Some l → next_of l ≡ Some action → HoldsMap w.machine.words held → EffectOf w (acts_by w n l (Some action)) held
acts_so w n l action held h lane is next holds =
    let t : Taken = taken_of w l action in
    subst (λ (x : Machine). EffectOf w (by_turn (record w { machine = x }) n (turn_of l (found w.machine action))) held) (sym (acted_is w.machine n l action is next))
    (action_effect w n l (words_after action w.machine.words) t.base t.asked t.going held (lane_action w n l action h lane is next) (changes w n l action held h is next holds))

acts_by_effect : (w : World) (n : ℕ) (l : LaneState) (held : Bytes) → IsWorld w → IsLane n → w.machine.lanes n ≡ Some l → HoldsMap w.machine.words held → EffectOf w (acts_by w n l (next_of l)) held
acts_by_effect w n l held h lane is holds = by_next (next_of l) refl where
  by_next : (o : Option Action) → next_of l ≡ o → EffectOf w (acts_by w n l o) held
  by_next None e = holds
  by_next (Some action) e = acts_so w n l action held h lane is e holds

acts_effect : (w : World) (n : ℕ) (held : Bytes) → IsWorld w → IsLane n → HoldsMap w.machine.words held → EffectOf w (acts w n) held
acts_effect w n held h lane holds = by_lane (w.machine.lanes n) refl where
  by_lane : (o : Option LaneState) → w.machine.lanes n ≡ o → EffectOf w (acts_of w n o) held
  by_lane None e = holds
  by_lane (Some l) e = acts_by_effect w n l held h lane e holds

-- ---- it takes up what waits
-- a lane that is asked stores no word, and no receipt comes to stand
asked_effect : (w v : World) (n : ℕ) (m : Machine) (held : Bytes) → IsWorld v → IsLane n → v.machine ≡ m → m.words ≡ w.machine.words → m.callers.receipts ≡ w.machine.callers.receipts
    → HoldsMap w.machine.words held → EffectOf w (acts v n) held
asked_effect w v n m held h lane is words receipts holds =
    subst (λ rs. Effect rs (acts v n).world held (acts v n).outcome) (ap (λ (x : Machine). x.callers.receipts) is ∙ receipts)
    (acts_effect v n held h lane (subst (λ ws. HoldsMap ws held) (sym (ap (λ (x : Machine). x.words) is ∙ words)) holds))

tends_effect : (w : World) (n : ℕ) (l : LaneState) (task : Task) (barred : Option ℕ) (held : Bytes) → IsAtRest w n l → next_at (at_lane w.waiting n) ≡ Tend task → HoldsMap w.machine.words held → EffectOf w (tends w n task barred) held
tends_effect w n l task None held h e holds =
    asked_effect w (with_event (takes_up w n) (Tends n task)) n _ held (tends_kept w n l task h e) h.lane (tending w.machine n l task h.is) refl refl holds
tends_effect w n l task (Some word) held h e holds = holds

tries_effect : (w : World) (n : ℕ) (l : LaneState) (view : SessionView) (barred : Option ℕ) (held : Bytes) → IsAtRest w n l → next_at (at_lane w.waiting n) ≡ Try view → HoldsMap w.machine.words held → EffectOf w (tries w n view barred) held
tries_effect w n l view None held h e holds =
    let call : Call = called (call_of w.waiting view.session) in
    asked_effect w (with_event (takes_up w n) (Asks n view call)) n _ held (asks_kept w n l view h e) h.lane (asking w.machine n l view call h.is) refl refl holds
tries_effect w n l view (Some word) held h e holds =
    let t : HasTried w n view = has_tried w n l view h e in
    ends_effect w.machine.callers.receipts (takes_up w n) n view (answer.Fenced word) held t.taken.begun_is holds

begins_effect : (w : World) (n : ℕ) (l : LaneState) (barred : Option ℕ) (next : Next) (held : Bytes) → IsAtRest w n l → next_at (at_lane w.waiting n) ≡ next → HoldsMap w.machine.words held → EffectOf w (begins w n barred next) held
begins_effect w n l barred Rest held h e holds = holds
begins_effect w n l barred (Tend task) held h e holds = tends_effect w n l task barred held h e holds
begins_effect w n l barred (Try view) held h e holds = tries_effect w n l view barred held h e holds

pub step_effect : (w : World) (n : ℕ) (held : Bytes) → IsWorld w → IsLane n → HoldsMap w.machine.words held → EffectOf w (step w n) held
step_effect w n held h lane holds = by_lane (w.machine.lanes n) refl where
  by_work : (l : LaneState) (b : Bool) → w.machine.lanes n ≡ Some l → is_working l.mode ≡ b → EffectOf w (steps_by w n l b) held
  by_work l true is e = acts_by_effect w n l held h lane is holds
  by_work l false is e = begins_effect w n l l.base.known.barred (next_at (at_lane w.waiting n)) held (record { world = h; lane = lane; is = is; rests = e }) refl holds

  by_lane : (o : Option LaneState) → w.machine.lanes n ≡ o → EffectOf w (steps_of w n o) held
  by_lane None is = holds
  by_lane (Some l) is = by_work l (is_working l.mode) is refl
