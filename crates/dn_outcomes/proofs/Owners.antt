use Rattle.std.proofs.Common.{ℕ, ◌≡◌, Bool, true, false, List, Option, Some, None, if◌then◌else◌, refl, sym, ◌∙◌, ap, subst}
use Rattle.std.proofs.lemmas.Option.{same_Some, none-some}
use Rattle.dn_act.specs.Action.{at_of, words_after}
use Rattle.dn_act.specs.Words.{word_at}
use Rattle.dn_act.specs.declared.actions.Action.{Action}
use Rattle.dn_act.specs.declared.actions.Action.TheVariants.{Load}
use Rattle.dn_hist.specs.Calls.{key_of}
use Rattle.dn_hist.specs.declared.calls.Call.{Call}
use Rattle.dn_hist.specs.declared.receipts.SessionView.{SessionView}
use Rattle.dn_model.specs.Regions.{IsLane, deed_at, slot_of}
use Rattle.dn_plan.specs.Plan.{is_owner}
use Rattle.dn_plan.specs.declared.results.Ending.{Ending}
use Rattle.dn_plan.specs.declared.results.Ending.TheVariants as ending
use Rattle.dn_ask.specs.declared.asks.End.TheVariants as end
use Rattle.dn_tend.specs.declared.tasks.Task.{Task}
use Rattle.dn_lane.specs.Asked.{call_in}
use Rattle.dn_lane.specs.Ends.{answer_of as answer_to}
use Rattle.dn_lane.specs.Left.{is_working}
use Rattle.dn_lane.specs.Next.{next_in, next_of}
use Rattle.dn_lane.specs.State.{LaneState}
use Rattle.dn_lane.specs.Taken.{Taken}
use Rattle.dn_lane.specs.Turns.{turn_of, turn_going}
use Rattle.dn_lane.specs.declared.asked.Asked.{Asked}
use Rattle.dn_lane.specs.declared.asked.Asked.TheVariants as asked
use Rattle.dn_lane.specs.declared.base.Base.{Base}
use Rattle.dn_lane.specs.declared.modes.Going.{Going}
use Rattle.dn_lane.specs.declared.modes.Going.TheVariants.{On, End}
use Rattle.dn_lane.specs.declared.modes.Mode.{Mode}
use Rattle.dn_machine.specs.Events.{Asks, Tends, found}
use Rattle.dn_machine.specs.State.{Machine}
use Rattle.dn_waiting.specs.State.{call_of, at_lane}
use Rattle.dn_waiting.specs.Turns.{next_at}
use Rattle.dn_waiting.specs.declared.calls.Next.{Next}
use Rattle.dn_waiting.specs.declared.calls.Next.TheVariants.{Rest, Tend, Try}
use Rattle.dn_outcomes.specs.Does.{does}
use Rattle.dn_outcomes.specs.Going.{called, slot_at, told_of, ends_of, ends}
use Rattle.dn_outcomes.specs.Sound.{view_by, is_calling, IsPlanOf, IsWorld}
use Rattle.dn_outcomes.specs.State.{World, done, with_event, is_made}
use Rattle.dn_outcomes.specs.Steps.{by_turn, acts_by, acts_of, acts, takes_up, tends, tries, begins, steps_by, steps_of, step}
use Rattle.dn_outcomes.specs.Told.{IsNoOwner}
use Rattle.dn_outcomes.specs.declared.events.Event.TheVariants as event
use Rattle.dn_outcomes.specs.declared.outcomes.CallAnswer.{CallAnswer}
use Rattle.dn_outcomes.specs.declared.outcomes.CallAnswer.TheVariants as answer
use Rattle.dn_outcomes.specs.declared.outcomes.Outcome.{Outcome}
use Rattle.dn_outcomes.specs.declared.outcomes.Outcome.TheVariants.{Answered, NoLane}
use Rattle.dn_outcomes.proofs.Acts.{world_after, IsAction, view_same, begun_there, acted_is, taken_of, lane_action}
use Rattle.dn_outcomes.proofs.Facts.{made_lane, asked_call}
use Rattle.dn_outcomes.proofs.Refusing.{refusal, LooksBy, refuses_by}
use Rattle.dn_outcomes.proofs.Steps.{IsAtRest, asks_kept, tends_kept, asking, tending}
use Rattle.dn_outcomes.proofs.Told.{IsCalm, alike_called}
use Rattle.dn_outcomes.proofs.ToldSteps.{taken_calm, tended_calm}

-- A lane that isn't owner has looked.

-- ---- what is told so
abbrev pub Tells : Outcome → ℕ → ℕ → Type 0
Tells o s look = (number : ℕ) × (cell : Option ℕ) × (given : Bool) × (o ≡ Answered s number (answer.NotOwner look cell) given)

record Refuses (b : Asked) (going : Going) (s look : ℕ) : Type 0 where
  view : SessionView
  is : view_by b ≡ Some view
  session : view.session ≡ s
  look_is : refusal going ≡ Some look

record EndsSo (o : Option SessionView) (told : CallAnswer) (s look : ℕ) : Type 0 where
  view : SessionView
  is : o ≡ Some view
  session : view.session ≡ s
  cell : Option ℕ
  told_is : told ≡ answer.NotOwner look cell

ends_so : (w : World) (n : ℕ) (told : CallAnswer) (o : Option SessionView) (s look : ℕ) → Tells (ends_of w n told o).outcome s look → EndsSo o told s look
ends_so w n told None s look (number, cell, given, e) = absurd (cc e)
ends_so w n told (Some view) s look (number, cell, given, e) = record { view = view; is = refl; session = cc; cell = cell; told_is = cc }

refusal_so : (call : Call) (view : SessionView) (room : List ℕ) (e : Ending) (look : ℕ) (cell : Option ℕ) → told_of (answer_to call view room e) ≡ answer.NotOwner look cell → refusal (End (end.Call e)) ≡ Some look
refusal_so call view room (ending.Made to place located) look cell e = absurd (cc e)
refusal_so call view room (ending.NotOwner deed) look cell e = (let same : deed ≡ look = cc in ap (λ (k : ℕ). Some k) same)
refusal_so call view room (ending.Fenced word) look cell e = absurd (cc e)
refusal_so call view room (ending.Full counter segments) look cell e = absurd (cc e)
refusal_so call view room (ending.Worn stamp) look cell e = absurd (cc e)

call_refuses : (w : World) (n : ℕ) (l : LaneState) (words : List ℕ) (g : Base) (call : Call) (view : SessionView) (room : List ℕ) (e : Ending) (s look : ℕ) → IsAction w n l words g (asked.Call call view room) (End (end.Call e))
    → Tells (ends (world_after w n words g (asked.Call call view room) (End (end.Call e))) n (told_of (answer_to call view room e))).outcome s look → Refuses (asked.Call call view room) (End (end.Call e)) s look
call_refuses w n l words g call view room e s look h t =
    let x : EndsSo (at_lane w.waiting n).begun (told_of (answer_to call view room e)) s look =
    ends_so (world_after w n words g (asked.Call call view room) (End (end.Call e))) n (told_of (answer_to call view room e)) (at_lane w.waiting n).begun s look t in record {
      view = x.view;
      is = sym (begun_there w n l words g (asked.Call call view room) (End (end.Call e)) h) ∙ x.is;
      session = x.session;
      look_is = refusal_so call view room e look x.cell x.told_is;
    }

action_refuses : (w : World) (n : ℕ) (l : LaneState) (words : List ℕ) (g : Base) (b : Asked) (going : Going) (s look : ℕ) → IsAction w n l words g b going
    → Tells (by_turn (world_after w n words g b going) n (turn_going b going)).outcome s look → Refuses b going s look
action_refuses w n l words g b (On m) s look h (number, cell, given, e) = absurd (cc e)
action_refuses w n l words g asked.Nothing (End (end.Call x)) s look h (number, cell, given, e) = absurd (cc e)
action_refuses w n l words g asked.Nothing (End (end.Task x)) s look h (number, cell, given, e) = absurd (cc e)
action_refuses w n l words g asked.Task (End (end.Call x)) s look h (number, cell, given, e) = absurd (cc e)
action_refuses w n l words g asked.Task (End (end.Task x)) s look h (number, cell, given, e) = absurd (cc e)
action_refuses w n l words g (asked.Call call view room) (End (end.Call x)) s look h t = call_refuses w n l words g call view room x s look h t
action_refuses w n l words g (asked.Call call view room) (End (end.Task x)) s look h t = absurd (cc h.plan)

-- ---- its look is the word of the deed of its call's slot
calling_of : (a : Asked) (m : Mode) (view : SessionView) → view_by a ≡ Some view → IsPlanOf a m → is_calling m ≡ true
calling_of asked.Nothing m view e h = absurd (none-some view e)
calling_of (asked.Call call v room) m view e h = h
calling_of asked.Task m view e h = absurd (none-some view e)

look_so : (w : World) (n : ℕ) (l : LaneState) (action : Action) (s look : ℕ) → IsWorld w → IsLane n → w.machine.lanes n ≡ Some l → next_of l ≡ Some action
    → (let t : Taken = taken_of w l action in Refuses t.asked t.going s look) → IsNoOwner w n s look
look_so w n l action s look h lane is next r =
    let word : ℕ = found w.machine action in
    let t : Taken = taken_of w l action in
    let at : ℕ = deed_at (slot_of (key_of (call_in l.asked))) in
    let view : view_by l.asked ≡ Some r.view = sym (view_same l.asked t.asked (lane_action w n l action h lane is next).same) ∙ r.is in
    let q : LooksBy l.base l.mode word look = refuses_by l.base l.asked l.mode word look (calling_of l.asked l.mode r.view view (h.asked.plans n l lane is)) r.look_is in
    let loads : next_of l ≡ Some (Load at) = ap (next_in l.base l.asked) q.mode_is in
    let there : at_of action ≡ at = ap at_of (same_Some action (Load at) (sym next ∙ loads)) in
    let call : call_in l.asked ≡ called (call_of w.waiting s) = sym (asked_call w n l r.view h lane is view) ∙ ap (λ k. called (call_of w.waiting k)) r.session in
    let number : l.base.known.log.lane ≡ n = (h.machine.at.know.lanes n l is).log.lane in record {
      found = q.word_is ∙ ap (word_at w.machine.words) (there ∙ ap (λ (c : Call). deed_at (slot_of (key_of c))) call);
      other = ap (λ k. is_owner k look) (sym number) ∙ ap (is_owner l.base.known.log.lane) q.word_is ∙ q.other;
    }

acts_so : (w : World) (n : ℕ) (l : LaneState) (action : Action) (s look : ℕ) → IsWorld w → IsLane n → w.machine.lanes n ≡ Some l → next_of l ≡ Some action → Tells (acts_by w n l (Some action)).outcome s look → IsNoOwner w n s look
acts_so w n l action s look h lane is next told =
    let t : Taken = taken_of w l action in
    let after : Tells (by_turn (world_after w n (words_after action w.machine.words) t.base t.asked t.going) n (turn_going t.asked t.going)).outcome s look =
    subst (λ (x : Machine). Tells (by_turn (record w { machine = x }) n (turn_of l (found w.machine action))).outcome s look) (acted_is w.machine n l action is next) told in
    look_so w n l action s look h lane is next
    (action_refuses w n l (words_after action w.machine.words) t.base t.asked t.going s look (lane_action w n l action h lane is next) after)

acts_by_look : (w : World) (n : ℕ) (l : LaneState) (s look : ℕ) → IsWorld w → IsLane n → w.machine.lanes n ≡ Some l → Tells (acts_by w n l (next_of l)).outcome s look → IsNoOwner w n s look
acts_by_look w n l s look h lane is told = by_next (next_of l) refl told where
  by_next : (o : Option Action) → next_of l ≡ o → Tells (acts_by w n l o).outcome s look → IsNoOwner w n s look
  by_next None e (number, cell, given, x) = absurd (cc x)
  by_next (Some action) e t = acts_so w n l action s look h lane is e t

acts_look : (w : World) (n s look : ℕ) → IsWorld w → IsLane n → Tells (acts w n).outcome s look → IsNoOwner w n s look
acts_look w n s look h lane told = by_lane (w.machine.lanes n) refl told where
  by_lane : (o : Option LaneState) → w.machine.lanes n ≡ o → Tells (acts_of w n o).outcome s look → IsNoOwner w n s look
  by_lane None e (number, cell, given, x) = absurd (cc x)
  by_lane (Some l) e t = acts_by_look w n l s look h lane e t

-- ---- also where it has only just begun
look_before : (w v : World) (n s look : ℕ) → IsCalm w v → v.machine.words ≡ w.machine.words → IsNoOwner v n s look → IsNoOwner w n s look
look_before w v n s look calm same h = record {
  found = h.found ∙ ap (λ ws. word_at ws (deed_at (slot_at (call_of v.waiting s)))) same
      ∙ ap (λ (c : Call). word_at w.machine.words (deed_at (slot_of (key_of c)))) (alike_called (call_of w.waiting s) (call_of v.waiting s) (calm.calls s));
  other = h.other;
}

tends_look : (w : World) (n : ℕ) (l : LaneState) (task : Task) (barred : Option ℕ) (s look : ℕ) → IsAtRest w n l → next_at (at_lane w.waiting n) ≡ Tend task → Tells (tends w n task barred).outcome s look → IsNoOwner w n s look
tends_look w n l task None s look h e told =
    let v : World = with_event (takes_up w n) (Tends n task) in
    let calm : IsCalm w (takes_up w n) = tended_calm w n l task h e in
    look_before w v n s look (record { quiet = ap (λ (x : Machine). x.callers.receipts) (tending w.machine n l task h.is); calls = calm.calls })
    (ap (λ (x : Machine). x.words) (tending w.machine n l task h.is)) (acts_look v n s look (tends_kept w n l task h e) h.lane told)
tends_look w n l task (Some word) s look h e (number, cell, given, x) = absurd (cc x)

not_fenced : (w : World) (n word s look : ℕ) → Tells (ends w n (answer.Fenced word)).outcome s look → ⊥
not_fenced w n word s look told =
    let x : EndsSo (at_lane w.waiting n).begun (answer.Fenced word) s look = ends_so w n (answer.Fenced word) (at_lane w.waiting n).begun s look told in
    differ x.cell x.told_is
  where
    differ : (cell : Option ℕ) → (let a : CallAnswer = answer.Fenced word in a) ≡ answer.NotOwner look cell → ⊥
    differ cell e = absurd (cc e)

tries_look : (w : World) (n : ℕ) (l : LaneState) (view : SessionView) (barred : Option ℕ) (s look : ℕ) → IsAtRest w n l → next_at (at_lane w.waiting n) ≡ Try view → Tells (tries w n view barred).outcome s look → IsNoOwner w n s look
tries_look w n l view None s look h e told =
    let call : Call = called (call_of w.waiting view.session) in
    let v : World = with_event (takes_up w n) (Asks n view call) in
    let calm : IsCalm w (takes_up w n) = taken_calm w n l view h e in
    look_before w v n s look (record { quiet = ap (λ (x : Machine). x.callers.receipts) (asking w.machine n l view call h.is); calls = calm.calls })
    (ap (λ (x : Machine). x.words) (asking w.machine n l view call h.is)) (acts_look v n s look (asks_kept w n l view h e) h.lane told)
tries_look w n l view (Some word) s look h e told = absurd (not_fenced (takes_up w n) n word s look told)

begins_look : (w : World) (n : ℕ) (l : LaneState) (barred : Option ℕ) (next : Next) (s look : ℕ) → IsAtRest w n l → next_at (at_lane w.waiting n) ≡ next → Tells (begins w n barred next).outcome s look → IsNoOwner w n s look
begins_look w n l barred Rest s look h e (number, cell, given, x) = absurd (cc x)
begins_look w n l barred (Tend task) s look h e told = tends_look w n l task barred s look h e told
begins_look w n l barred (Try view) s look h e told = tries_look w n l view barred s look h e told

step_look : (w : World) (n s look : ℕ) → IsWorld w → IsLane n → Tells (step w n).outcome s look → IsNoOwner w n s look
step_look w n s look h lane told = by_lane (w.machine.lanes n) refl told where
  by_work : (l : LaneState) (b : Bool) → w.machine.lanes n ≡ Some l → is_working l.mode ≡ b → Tells (steps_by w n l b).outcome s look → IsNoOwner w n s look
  by_work l true is e t = acts_by_look w n l s look h lane is t
  by_work l false is e t = begins_look w n l l.base.known.barred (next_at (at_lane w.waiting n)) s look (record { world = h; lane = lane; is = is; rests = e }) refl t

  by_lane : (o : Option LaneState) → w.machine.lanes n ≡ o → Tells (steps_of w n o).outcome s look → IsNoOwner w n s look
  by_lane None is (number, cell, given, x) = absurd (cc x)
  by_lane (Some l) is t = by_work l (is_working l.mode) is refl t

pub looked : (w : World) (n : ℕ) (heirs : List ℕ) (s number look : ℕ) (cell : Option ℕ) (given : Bool) → IsWorld w → (does w (event.Step n) heirs).outcome ≡ Answered s number (answer.NotOwner look cell) given → IsNoOwner w n s look
looked w n heirs s number look cell given h e = by_made (is_made w n) refl e where
  by_made : (b : Bool) → is_made w n ≡ b → (if b then step w n else done w NoLane).outcome ≡ Answered s number (answer.NotOwner look cell) given → IsNoOwner w n s look
  by_made true is x = step_look w n s look h (made_lane w n h is) (number, cell, given, x)
  by_made false is x = absurd (cc x)
