use Rattle.std.proofs.Common.{ℕ, ◌≡◌, inl, inr, Bool, true, false, List, Option, Some, None, refl, sym, ◌∙◌, ap, subst, arith}
use Rattle.std.proofs.lemmas.Bool.{cases_eq}
use Rattle.dn_act.specs.Action.{words_after}
use Rattle.dn_act.specs.declared.actions.Action.{Action}
use Rattle.dn_hist.specs.declared.calls.Call.{Call}
use Rattle.dn_hist.specs.declared.receipts.Receipt.{Receipt}
use Rattle.dn_hist.specs.declared.receipts.SessionView.{SessionView}
use Rattle.dn_model.specs.Regions.{IsLane}
use Rattle.dn_plan.specs.declared.results.Ending.{Ending}
use Rattle.dn_plan.specs.declared.results.Ending.TheVariants as ending
use Rattle.dn_ask.specs.declared.asks.End.{End as EndOf}
use Rattle.dn_ask.specs.declared.asks.End.TheVariants as end
use Rattle.dn_tend.specs.declared.tasks.Task.{Task}
use Rattle.dn_lane.specs.Ends.{receipt_of, answer_of as answer_to}
use Rattle.dn_lane.specs.Left.{is_working}
use Rattle.dn_lane.specs.Next.{next_of}
use Rattle.dn_lane.specs.State.{LaneState}
use Rattle.dn_lane.specs.Taken.{Taken}
use Rattle.dn_lane.specs.Turns.{turn_of, turn_going}
use Rattle.dn_lane.specs.declared.asked.Asked.{Asked}
use Rattle.dn_lane.specs.declared.asked.Asked.TheVariants as asked
use Rattle.dn_lane.specs.declared.base.Base.{Base}
use Rattle.dn_lane.specs.declared.modes.Going.{Going}
use Rattle.dn_lane.specs.declared.modes.Going.TheVariants.{On, End}
use Rattle.dn_callers.specs.Sessions.{IsUnderWay}
use Rattle.dn_machine.specs.Events.{Asks, Tends, found}
use Rattle.dn_machine.specs.State.{Machine}
use Rattle.dn_waiting.specs.Attempts.{placed}
use Rattle.dn_waiting.specs.Queues.{AtLane}
use Rattle.dn_waiting.specs.State.{WaitingState, call_of, at_lane}
use Rattle.dn_waiting.specs.Turns.{next_at, taken_up}
use Rattle.dn_waiting.specs.declared.calls.Next.{Next}
use Rattle.dn_waiting.specs.declared.calls.Next.TheVariants.{Rest, Tend, Try}
use Rattle.dn_waiting.specs.declared.calls.OpenCall.{OpenCall}
use Rattle.dn_waiting.specs.declared.calls.Place.{Place}
use Rattle.dn_waiting.specs.declared.calls.Place.TheVariants.{Begun}
use Rattle.dn_outcomes.specs.Going.{called, told_of, ends}
use Rattle.dn_outcomes.specs.State.{World, done, with_event}
use Rattle.dn_outcomes.specs.Steps.{by_turn, acts_by, acts_of, acts, takes_up, tends, tries, begins, steps_by, steps_of, step}
use Rattle.dn_outcomes.specs.Sound.{IsWorld}
use Rattle.dn_outcomes.specs.Told.{Joins}
use Rattle.dn_outcomes.specs.declared.outcomes.CallAnswer.TheVariants.{Fenced}
use Rattle.dn_outcomes.specs.declared.outcomes.Outcome.TheVariants.{Nothing, Acted}
use Rattle.dn_outcomes.proofs.Acts.{world_after, IsAction, view_same, asked_same, its_view, under_way, begun_there, acted_is, taken_of, lane_action}
use Rattle.dn_outcomes.proofs.Facts.{IsFirst, IsFirstTask, is_first, is_first_task}
use Rattle.dn_outcomes.proofs.Steps.{IsAtRest, HasTried, has_tried, asks_kept, tends_kept, asking, tending}
use Rattle.dn_outcomes.proofs.Told.{IsTold, IsCalm, Alike, alike_is, calm_same, calm_goes, told_then, ends_told}
use Rattle.dn_outcomes.proofs.Waits.{Changed, taken_changed, tended_changed}

-- What a lane's step tells.

-- ---- nothing ends, or no call
pub told_nothing : (w : World) → IsTold w (done w Nothing)
told_nothing w = (let h : IsCalm w w = calm_same w w refl refl in record { receipts = refl; calls = calm_goes w w h; names = tt })

pub told_acted : (w v : World) → IsCalm w v → IsTold w (done v Acted)
told_acted w v h = record { receipts = h.quiet; calls = calm_goes w v h; names = tt }

-- ---- a call ends
joins_so : (w : World) (n : ℕ) (l : LaneState) (words : List ℕ) (g : Base) (call : Call) (view : SessionView) (room : List ℕ) (e : Ending) → IsAction w n l words g (asked.Call call view room) (End (end.Call e))
    → Joins w (world_after w n words g (asked.Call call view room) (End (end.Call e))) view.session view.number (told_of (answer_to call view room e))
joins_so w n l words g call view room (ending.Made to place located) h =
    let b : Asked = asked.Call call view room in
    let r : Receipt = receipt_of call view room to place located.held in record {
      receipt = r;
      joins = refl;
      session = (h.its r refl).session ∙ ap (λ (v : SessionView). v.session) (its_view l.asked view (sym (view_same l.asked b h.same)));
      its = refl;
      call = sym (asked_same w.waiting l.asked b h.same (h.world.asked.calls n l h.lane h.is));
    }
joins_so w n l words g call view room (ending.NotOwner look) h = refl
joins_so w n l words g call view room (ending.Fenced word) h = refl
joins_so w n l words g call view room (ending.Full counter segments) h = refl
joins_so w n l words g call view room (ending.Worn stamp) h = refl

call_told : (w : World) (n : ℕ) (l : LaneState) (words : List ℕ) (g : Base) (call : Call) (view : SessionView) (room : List ℕ) (e : Ending) → IsAction w n l words g (asked.Call call view room) (End (end.Call e))
    → IsTold w (ends (world_after w n words g (asked.Call call view room) (End (end.Call e))) n (told_of (answer_to call view room e)))
call_told w n l words g call view room e h =
    let b : Asked = asked.Call call view room in
    let going : Going = End (end.Call e) in
    let u : IsUnderWay w.machine.callers view = under_way w.machine.callers l.asked view (sym (view_same l.asked b h.same)) (h.world.machine.at.actors.calls n l h.is) in
    ends_told w (world_after w n words g b going) n view (told_of (answer_to call view room e)) (record {
      sound = h.world.waiting;
      begun = begun_there w n l words g b going h;
      session = omega (arith, h.world.waiting.sessions, u.session.most);
      lane = omega (arith, h.world.waiting.made, h.lane.below);
    }) refl (joins_so w n l words g call view room e h)

-- ---- a lane's action
ends_so : (w : World) (n : ℕ) (l : LaneState) (words : List ℕ) (g : Base) (b : Asked) (e : EndOf) → IsAction w n l words g b (End e) → IsTold w (by_turn (world_after w n words g b (End e)) n (turn_going b (End e)))
ends_so w n l words g asked.Nothing (end.Call e) h = record { receipts = refl; calls = λ s. calm_goes w w (calm_same w w refl refl) s; names = tt }
ends_so w n l words g asked.Nothing (end.Task answer) h = record { receipts = refl; calls = λ s. calm_goes w w (calm_same w w refl refl) s; names = tt }
ends_so w n l words g asked.Task (end.Call e) h = record { receipts = refl; calls = λ s. calm_goes w w (calm_same w w refl refl) s; names = tt }
ends_so w n l words g asked.Task (end.Task answer) h = record { receipts = refl; calls = λ s. calm_goes w w (calm_same w w refl refl) s; names = tt }
ends_so w n l words g (asked.Call call view room) (end.Call e) h = call_told w n l words g call view room e h
ends_so w n l words g (asked.Call call view room) (end.Task answer) h = absurd (cc h.plan)

action_told : (w : World) (n : ℕ) (l : LaneState) (words : List ℕ) (g : Base) (b : Asked) (going : Going) → IsAction w n l words g b going → IsTold w (by_turn (world_after w n words g b going) n (turn_going b going))
action_told w n l words g b (On m) h = record { receipts = refl; calls = λ s. calm_goes w w (calm_same w w refl refl) s; names = tt }
action_told w n l words g b (End e) h = ends_so w n l words g b e h

acts_so : (w : World) (n : ℕ) (l : LaneState) (action : Action) → IsWorld w → IsLane n → w.machine.lanes n ≡ Some l → next_of l ≡ Some action → IsTold w (acts_by w n l (Some action))
acts_so w n l action h lane is next =
    let t : Taken = taken_of w l action in
    subst (λ (x : Machine). IsTold w (by_turn (record w { machine = x }) n (turn_of l (found w.machine action)))) (sym (acted_is w.machine n l action is next))
    (action_told w n l (words_after action w.machine.words) t.base t.asked t.going (lane_action w n l action h lane is next))

acts_by_told : (w : World) (n : ℕ) (l : LaneState) → IsWorld w → IsLane n → w.machine.lanes n ≡ Some l → IsTold w (acts_by w n l (next_of l))
acts_by_told w n l h lane is = by_next (next_of l) refl where
  by_next : (o : Option Action) → next_of l ≡ o → IsTold w (acts_by w n l o)
  by_next None e = told_nothing w
  by_next (Some action) e = acts_so w n l action h lane is e

acts_told : (w : World) (n : ℕ) → IsWorld w → IsLane n → IsTold w (acts w n)
acts_told w n h lane = by_lane (w.machine.lanes n) refl where
  by_lane : (o : Option LaneState) → w.machine.lanes n ≡ o → IsTold w (acts_of w n o)
  by_lane None e = told_nothing w
  by_lane (Some l) e = acts_by_told w n l h lane e

-- ---- what waits is taken up
alike_placed : (o : Option OpenCall) (p : Place) → Alike o (placed o p)
alike_placed None p = refl
alike_placed (Some c) p = (refl, refl)

-- one call stands elsewhere
alike_changed : (w v : WaitingState) (s l : ℕ) (o : Option OpenCall) (q : AtLane) → Changed w v s l o q → Alike (call_of w s) o → (k : ℕ) → Alike (call_of w k) (call_of v k)
alike_changed w v s l o q ch h k = elim (cases_eq k s) [
  | inl e ↦ subst (λ j. Alike (call_of w j) (call_of v j)) (sym e) (subst (Alike (call_of w s)) (sym ch.call) h)
  | inr d ↦ alike_is (call_of w k) (call_of v k) (ch.calls k d)
]

pub taken_calm : (w : World) (n : ℕ) (l : LaneState) (view : SessionView) → IsAtRest w n l → next_at (at_lane w.waiting n) ≡ Try view → IsCalm w (takes_up w n)
taken_calm w n l view h e =
    let s : ℕ = view.session in
    let f : IsFirst (at_lane w.waiting n) view = is_first (at_lane w.waiting n) view e in
    let o : Option OpenCall = placed (call_of w.waiting s) (Begun n) in
    let q : AtLane = record (at_lane w.waiting n) { queue = f.rest; begun = Some view } in
    let t : HasTried w n view = has_tried w n l view h e in
    let ch : Changed w.waiting (taken_up w.waiting n) s n o q = taken_changed w.waiting n view f e (omega (arith, h.world.waiting.sessions, t.session.most)) (omega (arith, h.world.waiting.made, h.lane.below)) in
    record { quiet = refl; calls = alike_changed w.waiting (taken_up w.waiting n) s n o q ch (alike_placed (call_of w.waiting s) (Begun n)) }

pub tended_calm : (w : World) (n : ℕ) (l : LaneState) (task : Task) → IsAtRest w n l → next_at (at_lane w.waiting n) ≡ Tend task → IsCalm w (takes_up w n)
tended_calm w n l task h e =
    let f : IsFirstTask (at_lane w.waiting n) task = is_first_task (at_lane w.waiting n) task e in
    let q : AtLane = record (at_lane w.waiting n) { tasks = f.rest } in
    let ch : Changed w.waiting (taken_up w.waiting n) 0 n (call_of w.waiting 0) q = tended_changed w.waiting 0 n task f e (omega (arith, h.world.waiting.made, h.lane.below)) in
    record { quiet = refl; calls = alike_changed w.waiting (taken_up w.waiting n) 0 n (call_of w.waiting 0) q ch (alike_is (call_of w.waiting 0) (call_of w.waiting 0) refl) }

-- the lane is asked, which no receipt tells
quiet_event : (w v u : World) (m : Machine) → IsCalm w v → u.machine ≡ m → u.waiting ≡ v.waiting → m.callers.receipts ≡ w.machine.callers.receipts → IsCalm w u
quiet_event w v u m h is same quiet = record {
  quiet = ap (λ (x : Machine). x.callers.receipts) is ∙ quiet;
  calls = λ s. subst (λ (x : WaitingState). Alike (call_of w.waiting s) (call_of x s)) (sym same) (h.calls s);
}

-- ---- it begins
tends_told : (w : World) (n : ℕ) (l : LaneState) (task : Task) (barred : Option ℕ) → IsAtRest w n l → next_at (at_lane w.waiting n) ≡ Tend task → IsTold w (tends w n task barred)
tends_told w n l task None h e =
    let v : World = with_event (takes_up w n) (Tends n task) in
    told_then w v (acts v n) (quiet_event w (takes_up w n) v _ (tended_calm w n l task h e) (tending w.machine n l task h.is) refl refl)
    (acts_told v n (tends_kept w n l task h e) h.lane)
tends_told w n l task (Some word) h e = (let c : IsCalm w (takes_up w n) = tended_calm w n l task h e in record { receipts = c.quiet; calls = calm_goes w (takes_up w n) c; names = tt })

tries_told : (w : World) (n : ℕ) (l : LaneState) (view : SessionView) (barred : Option ℕ) → IsAtRest w n l → next_at (at_lane w.waiting n) ≡ Try view → IsTold w (tries w n view barred)
tries_told w n l view None h e =
    let call : Call = called (call_of w.waiting view.session) in
    let v : World = with_event (takes_up w n) (Asks n view call) in
    told_then w v (acts v n) (quiet_event w (takes_up w n) v _ (taken_calm w n l view h e) (asking w.machine n l view call h.is) refl refl)
    (acts_told v n (asks_kept w n l view h e) h.lane)
tries_told w n l view (Some word) h e =
    let v : World = takes_up w n in
    let t : HasTried w n view = has_tried w n l view h e in
    told_then w v (ends v n (Fenced word)) (taken_calm w n l view h e) (ends_told v v n view (Fenced word) (record {
      sound = t.taken.sound;
      begun = t.taken.begun_is;
      session = omega (arith, t.taken.sound.sessions, t.session.most);
      lane = omega (arith, t.taken.sound.made, h.lane.below);
    }) refl refl)

begins_told : (w : World) (n : ℕ) (l : LaneState) (barred : Option ℕ) (next : Next) → IsAtRest w n l → next_at (at_lane w.waiting n) ≡ next → IsTold w (begins w n barred next)
begins_told w n l barred Rest h e = told_nothing w
begins_told w n l barred (Tend task) h e = tends_told w n l task barred h e
begins_told w n l barred (Try view) h e = tries_told w n l view barred h e

pub step_told : (w : World) (n : ℕ) → IsWorld w → IsLane n → IsTold w (step w n)
step_told w n h lane = by_lane (w.machine.lanes n) refl where
  by_work : (l : LaneState) (b : Bool) → w.machine.lanes n ≡ Some l → is_working l.mode ≡ b → IsTold w (steps_by w n l b)
  by_work l true is e = acts_by_told w n l h lane is
  by_work l false is e = begins_told w n l l.base.known.barred (next_at (at_lane w.waiting n)) (record { world = h; lane = lane; is = is; rests = e }) refl

  by_lane : (o : Option LaneState) → w.machine.lanes n ≡ o → IsTold w (steps_of w n o)
  by_lane None is = told_nothing w
  by_lane (Some l) is = by_work l (is_working l.mode) is refl
