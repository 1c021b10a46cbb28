use Rattle.std.proofs.Common.{ℕ, ◌≡◌, ◌<◌, ◌^◌, true, List, Option, Some, None, Contains, refl, sym, ◌∙◌, ap, subst, arith}
use Rattle.std.proofs.lemmas.List.Elements.{Contains-push}
use Rattle.std.proofs.lemmas.Option.{same_Some, none-some}
use Rattle.dn_word.specs.Deed.{deed_of}
use Rattle.dn_word.specs.Gate.{gate_of}
use Rattle.dn_act.specs.Action.{words_after}
use Rattle.dn_act.specs.Words.{word_at}
use Rattle.dn_act.specs.declared.actions.Action.{Action}
use Rattle.dn_hist.specs.Calls.{key_of}
use Rattle.dn_hist.specs.declared.calls.Call.{Call}
use Rattle.dn_hist.specs.declared.receipts.Receipt.{Receipt}
use Rattle.dn_hist.specs.declared.receipts.SessionView.{SessionView}
use Rattle.dn_model.specs.Regions.{gate, deed, slot_of, deed_at, gate_at, IsLane}
use Rattle.dn_owners.specs.Sound.{bound_by}
use Rattle.dn_store.specs.State.{with_at}
use Rattle.dn_store.proofs.At.{at_same}
use Rattle.dn_plan.specs.declared.results.Ending.{Ending}
use Rattle.dn_plan.specs.declared.results.Ending.TheVariants as ending
use Rattle.dn_ask.specs.declared.asks.End.{End as EndOf}
use Rattle.dn_ask.specs.declared.asks.End.TheVariants as end
use Rattle.dn_lane.specs.Asked.{view_in}
use Rattle.dn_lane.specs.Ends.{receipt_of, answer_of as answer_to}
use Rattle.dn_lane.specs.Next.{next_of}
use Rattle.dn_lane.specs.State.{LaneState}
use Rattle.dn_lane.specs.Taken.{Taken, taken_by}
use Rattle.dn_lane.specs.Turns.{turn_of, turn_going, left_going}
use Rattle.dn_lane.specs.declared.asked.Asked.{Asked}
use Rattle.dn_lane.specs.declared.asked.Asked.TheVariants as asked
use Rattle.dn_lane.specs.declared.base.Base.{Base}
use Rattle.dn_lane.specs.declared.modes.Going.{Going}
use Rattle.dn_lane.specs.declared.modes.Going.TheVariants.{On, End}
use Rattle.dn_lane.specs.declared.modes.Mode.{Mode}
use Rattle.dn_lane.specs.declared.modes.Mode.TheVariants as mode
use Rattle.dn_lanes.specs.Stepped.{receipt_by, IsOfCall, LaneStepped}
use Rattle.dn_parts.proofs.PartsStamps.{are_bound}
use Rattle.dn_callers.specs.Callers.{Callers, Standing}
use Rattle.dn_callers.specs.Sessions.{IsUnderWay}
use Rattle.dn_machine.specs.Events.{Lane, Acts, found, answered, lane_does, of_lane, with_lane, happens}
use Rattle.dn_machine.specs.Sound.{IsSound, IsCallOf as HasCall}
use Rattle.dn_machine.specs.State.{Machine}
use Rattle.dn_machine.proofs.Calls.{SameCall, taken_same}
use Rattle.dn_machine.proofs.Kept.{sound}
use Rattle.dn_machine.proofs.LaneActs.{lane_comes}
use Rattle.dn_waiting.specs.Attempts.{settled}
use Rattle.dn_waiting.specs.State.{WaitingState, call_of, at_lane}
use Rattle.dn_waiting.specs.declared.calls.AttemptEnd.{AttemptEnd}
use Rattle.dn_waiting.specs.declared.calls.AttemptEnd.TheVariants as attempt
use Rattle.dn_waiting.specs.declared.calls.OpenCall.{OpenCall}
use Rattle.dn_waiting.proofs.PlaceLaws.{not_both}
use Rattle.dn_outcomes.specs.State.{World}
use Rattle.dn_outcomes.specs.Going.{end_of, told_of, ends}
use Rattle.dn_outcomes.specs.Steps.{by_turn, acts_by, acts_of, acts}
use Rattle.dn_outcomes.specs.Sound.{IsCallOf, AreCalls, AreAsked, IsPlanOf, IsAskedBy, view_by, view_at, IsWorld}
use Rattle.dn_outcomes.proofs.Callers.{answered_others}
use Rattle.dn_outcomes.proofs.Ends.{lane_asked, lane_beside, begun_load, settled_call, ends_kept}
use Rattle.dn_outcomes.proofs.Facts.{shown_call}
use Rattle.dn_outcomes.proofs.Goes.{AreOthers, others_of, asked_beside}
use Rattle.dn_outcomes.proofs.Plans.{IsPlanGoing, taken_plan, on_plan}

-- A lane's next action keeps a world.

-- ---- a receipt's stamp
stamp_low : (word : ℕ) → (gate_of word).stamp < 2 ^ 31
stamp_low word = omega arith

floor_low : (word : ℕ) → (deed_of word).floor < 2 ^ 31
floor_low word = omega arith

bound_low : (words : List ℕ) (k : ℕ) → bound_by (deed words) (gate words) k < 2 ^ 31
bound_low words k =
    let t : ℕ = slot_of k in
    omega (arith, floor_low (word_at words (deed_at t)), stamp_low (word_at words (gate_at (deed words t).lane)))

last_stamp : (segments : ℕ) (m : Machine) (c : Callers) (r : Receipt) (o : Option Receipt) → IsSound segments m → m.callers ≡ answered c o → o ≡ Some r → r.position.stamp < 2 ^ 31
last_stamp segments m c r o h is e =
    let x : Standing = record { receipt = r; answered = true } in
    let has : Contains m.callers.receipts x = subst (λ (d : Callers). Contains d.receipts x) (sym is) (subst (λ p. Contains (answered c p).receipts x) (sym e) (Contains-push c.receipts x)) in
    omega (arith, (are_bound segments m h).each x has, bound_low m.words (key_of r.call))

-- ---- what a lane is asked stays
pub view_same : (a b : Asked) → SameCall a b → view_by b ≡ view_by a
view_same asked.Nothing b same = ap view_by same
view_same (asked.Call call view room) b same = ap view_by same.1
view_same asked.Task b same = ap view_by same

pub asked_same : (w : WaitingState) (a b : Asked) → SameCall a b → IsAskedBy w a → IsAskedBy w b
asked_same w asked.Nothing b same h = subst (IsAskedBy w) (sym same) tt
asked_same w (asked.Call call view room) b same h = subst (IsAskedBy w) (sym same.1) h
asked_same w asked.Task b same h = subst (IsAskedBy w) (sym same) tt

pub its_view : (a : Asked) (view : SessionView) → view_by a ≡ Some view → view_in a ≡ view
its_view asked.Nothing view e = absurd (none-some view e)
its_view (asked.Call call v room) view e = same_Some v view e
its_view asked.Task view e = absurd (none-some view e)

pub under_way : (c : Callers) (a : Asked) (view : SessionView) → view_by a ≡ Some view → HasCall c a → IsUnderWay c view
under_way c asked.Nothing view e h = absurd (none-some view e)
under_way c (asked.Call call v room) view e h = subst (IsUnderWay c) (same_Some v view e) h.0
under_way c asked.Task view e h = absurd (none-some view e)

-- ---- the machine after the action of a lane that was asked this and goes on so
abbrev pub machine_after : Machine → ℕ → List ℕ → Base → Asked → Going → Machine
machine_after m n words g b going = record (with_lane (record m { words = words }) n (Some (left_going g b going))) {
  callers = answered m.callers (receipt_by (turn_going b going));
}

pub record IsAction (w : World) (n : ℕ) (l : LaneState) (words : List ℕ) (g : Base) (b : Asked) (going : Going) : Type 0 where
  pub world : IsWorld w
  pub lane : IsLane n
  pub is : w.machine.lanes n ≡ Some l
  pub machine : IsSound w.segments (machine_after w.machine n words g b going)
  pub same : SameCall l.asked b
  pub plan : IsPlanGoing b going
  pub its : (r : Receipt) → receipt_by (turn_going b going) ≡ Some r → IsOfCall l r

abbrev pub world_after : World → ℕ → List ℕ → Base → Asked → Going → World
world_after w n words g b going = record w { machine = machine_after w.machine n words g b going }

pub begun_there : (w : World) (n : ℕ) (l : LaneState) (words : List ℕ) (g : Base) (b : Asked) (going : Going) → IsAction w n l words g b going → (at_lane w.waiting n).begun ≡ view_by b
begun_there w n l words g b going h = h.world.asked.begun n h.lane ∙ ap view_at h.is ∙ sym (view_same l.asked b h.same)

-- where nothing ends, or no call
abbrev HasNoReceipt : Asked → Going → Type 0
HasNoReceipt b going = receipt_by (turn_going b going) ≡ None

still : (w : World) (n : ℕ) (l x : LaneState) (words : List ℕ) (g : Base) (b : Asked) (going : Going) → IsAction w n l words g b going → left_going g b going ≡ x → HasNoReceipt b going
    → IsAskedBy w.waiting x.asked → IsPlanOf x.asked x.mode → view_by x.asked ≡ view_by b → IsWorld (world_after w n words g b going)
still w n l x words g b going h is none call plan same = record {
  machine = h.machine;
  waiting = h.world.waiting;
  calls = subst (λ o. AreCalls w.waiting (answered w.machine.callers o) w.machine.loads) (sym none) h.world.calls;
  asked = subst (λ (y : LaneState). AreAsked w.waiting (with_at w.machine.lanes n (Some y))) (sym is)
      (lane_asked n w.waiting w.machine.lanes x (asked_beside n w.waiting w.machine.lanes h.world.asked) call plan (begun_there w n l words g b going h ∙ sym same));
  made = h.world.made;
  live = h.world.live;
}

goes_on_so : (w : World) (n : ℕ) (l : LaneState) (words : List ℕ) (g : Base) (b : Asked) (m : Mode) → IsAction w n l words g b (On m) → IsWorld (world_after w n words g b (On m))
goes_on_so w n l words g b m h =
    still w n l (record { base = g; asked = b; mode = m }) words g b (On m) h refl refl (asked_same w.waiting l.asked b h.same (h.world.asked.calls n l h.lane h.is)) (on_plan b m h.plan) refl

ends_no_call : (w : World) (n : ℕ) (l : LaneState) (words : List ℕ) (g : Base) (b : Asked) (e : EndOf) → IsAction w n l words g b (End e) → HasNoReceipt b (End e) → view_by b ≡ None → IsWorld (world_after w n words g b (End e))
ends_no_call w n l words g b e h none nobody = still w n l (record { base = g; asked = asked.Nothing; mode = mode.Idle }) words g b (End e) h refl none tt tt (sym nobody)

-- ---- where its call ends
record IsCallEnd (w : World) (n : ℕ) (l : LaneState) (words : List ℕ) (g : Base) (call : Call) (view : SessionView) (room : List ℕ) (e : Ending) : Type 0 where
  action : IsAction w n l words g (asked.Call call view room) (End (end.Call e))
  own : (x : OpenCall) → settled (end_of (told_of (answer_to call view room e))) (call_of w.waiting view.session) ≡ Some x
      → IsCallOf (answered w.machine.callers (receipt_by (turn_going (asked.Call call view room) (End (end.Call e))))) view.session x
  others : AreOthers view.session w.waiting (answered w.machine.callers (receipt_by (turn_going (asked.Call call view room) (End (end.Call e))))) w.machine.loads

ends_call : (w : World) (n : ℕ) (l : LaneState) (words : List ℕ) (g : Base) (call : Call) (view : SessionView) (room : List ℕ) (e : Ending) → IsCallEnd w n l words g call view room e
    → IsWorld (ends (world_after w n words g (asked.Call call view room) (End (end.Call e))) n (told_of (answer_to call view room e))).world
ends_call w n l words g call view room e h =
    let b : Asked = asked.Call call view room in
    let going : Going = End (end.Call e) in
    let v : World = world_after w n words g b going in
    let rest : LaneState = record { base = g; asked = asked.Nothing; mode = mode.Idle } in
    let begun : (at_lane w.waiting n).begun ≡ Some view = begun_there w n l words g b going h.action in
    let u : IsUnderWay w.machine.callers view = under_way w.machine.callers l.asked view (sym (view_same l.asked b h.action.same)) (h.action.world.machine.at.actors.calls n l h.action.is) in
    ends_kept v n view (told_of (answer_to call view room e)) (record {
      lane = h.action.lane;
      session = u.session;
      waiting = h.action.world.waiting;
      begun = begun;
      beside = record {
        machine = h.action.machine;
        others = h.others;
        none = λ i. h.action.world.calls.loads_are view.session i ∙ begun_load w.waiting n view h.action.world.waiting begun;
        made = h.action.world.made;
        live = h.action.world.live;
      };
      asked = lane_beside n w.waiting w.machine.lanes rest (asked_beside n w.waiting w.machine.lanes h.action.world.asked) tt tt;
      free = ap view_at (at_same w.machine.lanes n (Some rest) n refl);
      call = h.own;
    })

-- a call that isn't made is still its session's
still_own : (w : World) (n : ℕ) (l : LaneState) (words : List ℕ) (g : Base) (call : Call) (view : SessionView) (room : List ℕ) (e : Ending) → IsAction w n l words g (asked.Call call view room) (End (end.Call e))
    → (to : AttemptEnd) (x : OpenCall) → settled to (call_of w.waiting view.session) ≡ Some x → IsCallOf w.machine.callers view.session x
still_own w n l words g call view room e h to x is =
    let b : Asked = asked.Call call view room in
    let u : IsUnderWay w.machine.callers view = under_way w.machine.callers l.asked view (sym (view_same l.asked b h.same)) (h.world.machine.at.actors.calls n l h.is) in
    let c = shown_call view (call_of w.waiting view.session) (h.world.waiting.number n view (begun_there w n l words g b (End (end.Call e)) h)) in
    settled_call to w.machine.callers view.session c.0 x (h.world.calls.calls view.session c.0 u.session c.1) (ap (settled to) (sym c.1) ∙ is)

not_made : (w : World) (n : ℕ) (l : LaneState) (words : List ℕ) (g : Base) (call : Call) (view : SessionView) (room : List ℕ) (e : Ending) → IsAction w n l words g (asked.Call call view room) (End (end.Call e))
    → HasNoReceipt (asked.Call call view room) (End (end.Call e)) → IsCallEnd w n l words g call view room e
not_made w n l words g call view room e h none = record {
  action = h;
  own = λ x is. subst (λ o. IsCallOf (answered w.machine.callers o) view.session x) (sym none) (still_own w n l words g call view room e h (end_of (told_of (answer_to call view room e))) x is);
  others = subst (λ o. AreOthers view.session w.waiting (answered w.machine.callers o) w.machine.loads) (sym none) (others_of view.session w.waiting w.machine.callers w.machine.loads h.world.calls);
}

-- one that is made is gone
made : (w : World) (n : ℕ) (l : LaneState) (words : List ℕ) (g : Base) (call : Call) (view : SessionView) (room : List ℕ) (e : Ending) (r : Receipt) → IsAction w n l words g (asked.Call call view room) (End (end.Call e))
    → receipt_by (turn_going (asked.Call call view room) (End (end.Call e))) ≡ Some r → end_of (told_of (answer_to call view room e)) ≡ attempt.Made → IsCallEnd w n l words g call view room e
made w n l words g call view room e r h is ends =
    let b : Asked = asked.Call call view room in
    let going : Going = End (end.Call e) in
    let begun : (at_lane w.waiting n).begun ≡ Some view = begun_there w n l words g b going h in
    let its : r.position.session ≡ view.session = (h.its r is).session ∙ ap (λ (v : SessionView). v.session) (its_view l.asked view (sym (view_same l.asked b h.same))) in
    let low : r.position.stamp < 2 ^ 31 = last_stamp w.segments (machine_after w.machine n words g b going) w.machine.callers r (receipt_by (turn_going b going)) h.machine refl is in
    let others : AreOthers r.position.session w.waiting (answered w.machine.callers (Some r)) w.machine.loads =
    answered_others r w.waiting w.machine.callers w.machine.loads low (λ k u lane has e. not_both w.waiting h.world.waiting k n u view has begun (sym e ∙ its))
    (others_of r.position.session w.waiting w.machine.callers w.machine.loads h.world.calls) in record {
      action = h;
      own = λ x f. absurd (none-some x (ap (λ to. settled to (call_of w.waiting view.session)) (sym ends) ∙ f));
      others = subst (λ o. AreOthers view.session w.waiting (answered w.machine.callers o) w.machine.loads) (sym is)
          (subst (λ s. AreOthers s w.waiting (answered w.machine.callers (Some r)) w.machine.loads) its others);
    }

call_ends : (w : World) (n : ℕ) (l : LaneState) (words : List ℕ) (g : Base) (call : Call) (view : SessionView) (room : List ℕ) (e : Ending) → IsAction w n l words g (asked.Call call view room) (End (end.Call e))
    → IsCallEnd w n l words g call view room e
call_ends w n l words g call view room (ending.Made to place located) h =
    made w n l words g call view room (ending.Made to place located) (receipt_of call view room to place located.held) h refl refl
call_ends w n l words g call view room (ending.NotOwner look) h = not_made w n l words g call view room (ending.NotOwner look) h refl
call_ends w n l words g call view room (ending.Fenced word) h = not_made w n l words g call view room (ending.Fenced word) h refl
call_ends w n l words g call view room (ending.Full counter segments) h = not_made w n l words g call view room (ending.Full counter segments) h refl
call_ends w n l words g call view room (ending.Worn stamp) h = not_made w n l words g call view room (ending.Worn stamp) h refl

-- ---- each way in which it goes on
ends_so : (w : World) (n : ℕ) (l : LaneState) (words : List ℕ) (g : Base) (b : Asked) (e : EndOf) → IsAction w n l words g b (End e) → IsWorld (by_turn (world_after w n words g b (End e)) n (turn_going b (End e))).world
ends_so w n l words g asked.Nothing (end.Call e) h = ends_no_call w n l words g asked.Nothing (end.Call e) h refl refl
ends_so w n l words g asked.Nothing (end.Task answer) h = ends_no_call w n l words g asked.Nothing (end.Task answer) h refl refl
ends_so w n l words g asked.Task (end.Call e) h = ends_no_call w n l words g asked.Task (end.Call e) h refl refl
ends_so w n l words g asked.Task (end.Task answer) h = ends_no_call w n l words g asked.Task (end.Task answer) h refl refl
ends_so w n l words g (asked.Call call view room) (end.Call e) h = ends_call w n l words g call view room e (call_ends w n l words g call view room e h)
ends_so w n l words g (asked.Call call view room) (end.Task answer) h = absurd (cc h.plan)

pub action_kept : (w : World) (n : ℕ) (l : LaneState) (words : List ℕ) (g : Base) (b : Asked) (going : Going) → IsAction w n l words g b going → IsWorld (by_turn (world_after w n words g b going) n (turn_going b going)).world
action_kept w n l words g b (On m) h = goes_on_so w n l words g b m h
action_kept w n l words g b (End e) h = ends_so w n l words g b e h

-- ---- the lane's action
pub acted_is : (m : Machine) (n : ℕ) (l : LaneState) (action : Action) → m.lanes n ≡ Some l → next_of l ≡ Some action → happens m (Acts (Lane n)) ≡ lane_does m n l (Some action)
acted_is m n l action is next = ap (λ (o : Option LaneState). of_lane m o (λ y. lane_does m n y (next_of y))) is ∙ ap (λ (o : Option Action). lane_does m n l o) next

-- what it comes to
abbrev pub taken_of : World → LaneState → Action → Taken
taken_of w l action = taken_by l.base l.asked l.mode (found w.machine action)

pub lane_action : (w : World) (n : ℕ) (l : LaneState) (action : Action) → IsWorld w → IsLane n → w.machine.lanes n ≡ Some l → next_of l ≡ Some action
    → (let t : Taken = taken_of w l action in IsAction w n l (words_after action w.machine.words) t.base t.asked t.going)
lane_action w n l action h lane is next =
    let word : ℕ = found w.machine action in
    let words : List ℕ = words_after action w.machine.words in
    let stepped : LaneStepped h.machine.p n l word words = lane_comes h.machine.p w.machine n l action h.machine.at is next in
    let machine : IsSound w.segments (lane_does w.machine n l (Some action)) =
    subst (λ (x : Machine). IsSound w.segments x) (acted_is w.machine n l action is next) (sound w.segments w.machine (Acts (Lane n)) h.machine tt) in record {
      world = h;
      lane = lane;
      is = is;
      machine = machine;
      same = taken_same l.base l.asked l.mode word;
      plan = taken_plan l.base l.asked l.mode word (taken_same l.base l.asked l.mode word) (h.asked.plans n l lane is);
      its = stepped.its;
    }

acts_so : (w : World) (n : ℕ) (l : LaneState) (action : Action) → IsWorld w → IsLane n → w.machine.lanes n ≡ Some l → next_of l ≡ Some action → IsWorld (acts_by w n l (Some action)).world
acts_so w n l action h lane is next =
    let t : Taken = taken_of w l action in
    subst (λ (x : Machine). IsWorld (by_turn (record w { machine = x }) n (turn_of l (found w.machine action))).world) (sym (acted_is w.machine n l action is next))
    (action_kept w n l (words_after action w.machine.words) t.base t.asked t.going (lane_action w n l action h lane is next))

pub acts_by_kept : (w : World) (n : ℕ) (l : LaneState) → IsWorld w → IsLane n → w.machine.lanes n ≡ Some l → IsWorld (acts_by w n l (next_of l)).world
acts_by_kept w n l h lane is = by_next (next_of l) refl where
  by_next : (o : Option Action) → next_of l ≡ o → IsWorld (acts_by w n l o).world
  by_next None e = h
  by_next (Some action) e = acts_so w n l action h lane is e

pub acts_kept : (w : World) (n : ℕ) → IsWorld w → IsLane n → IsWorld (acts w n).world
acts_kept w n h lane = by_lane (w.machine.lanes n) refl where
  by_lane : (o : Option LaneState) → w.machine.lanes n ≡ o → IsWorld (acts_of w n o).world
  by_lane None e = h
  by_lane (Some l) e = acts_by_kept w n l h lane e
