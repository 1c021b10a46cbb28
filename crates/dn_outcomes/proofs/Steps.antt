use Rattle.std.proofs.Common.{ℕ, suc, ◌≡◌, Bool, true, false, ◌∷◌, Option, Some, None, Contains, refl, sym, ◌∙◌, ap, subst, arith}
use Rattle.std.proofs.lemmas.Option.{same_Some, none-some}
use Rattle.dn_hist.specs.declared.calls.Call.{Call}
use Rattle.dn_hist.specs.declared.receipts.SessionView.{SessionView}
use Rattle.dn_model.specs.Regions.{IsLane}
use Rattle.dn_tend.specs.declared.tasks.Task.{Task}
use Rattle.dn_lane.specs.Left.{is_working}
use Rattle.dn_lane.specs.State.{LaneState, begun, begun_task}
use Rattle.dn_callers.specs.Callers.{Callers}
use Rattle.dn_callers.specs.Sessions.{IsSession}
use Rattle.dn_machine.specs.Events.{Asks, Tends, of_lane, with_lane, happens}
use Rattle.dn_machine.specs.Sound.{IsSound}
use Rattle.dn_machine.specs.State.{Machine}
use Rattle.dn_machine.proofs.Kept.{sound}
use Rattle.dn_waiting.specs.Attempts.{placed, settled}
use Rattle.dn_waiting.specs.Queues.{AtLane}
use Rattle.dn_waiting.specs.Sound.{IsSound as AreSound, waits_at, waits_by, how_often}
use Rattle.dn_waiting.specs.State.{WaitingState, call_of, at_lane}
use Rattle.dn_waiting.specs.Turns.{next_at, taken_up}
use Rattle.dn_waiting.specs.declared.calls.AttemptEnd.TheVariants as attempt
use Rattle.dn_waiting.specs.declared.calls.Next.{Next}
use Rattle.dn_waiting.specs.declared.calls.Next.TheVariants.{Rest, Tend, Try}
use Rattle.dn_waiting.specs.declared.calls.OpenCall.{OpenCall}
use Rattle.dn_waiting.specs.declared.calls.Place.{Place}
use Rattle.dn_waiting.specs.declared.calls.Place.TheVariants.{Loading, Queued, Begun}
use Rattle.dn_waiting.proofs.Changes.{taken_up_sound}
use Rattle.dn_waiting.proofs.Counts.{often_contained, contained_behind}
use Rattle.dn_waiting.proofs.Kept.{waiting_of}
use Rattle.dn_outcomes.specs.State.{World, with_event}
use Rattle.dn_outcomes.specs.Going.{called, slot_at, ends}
use Rattle.dn_outcomes.specs.Steps.{takes_up, tends, tries, begins, steps_by, steps_of, step}
use Rattle.dn_outcomes.specs.Sound.{IsCallOf, load_at, load_of, view_by, view_at, IsAskedBy, IsPlanOf, AreCalls, IsWorld}
use Rattle.dn_outcomes.specs.declared.outcomes.CallAnswer.TheVariants.{Fenced}
use Rattle.dn_outcomes.proofs.Facts.{IsFirst, IsFirstTask, is_first, is_first_task, first_waits, shown_call, rests_asked, rests_begun, try_session, may_ask, may_tend}
use Rattle.dn_outcomes.proofs.Goes.{AskedBeside, others_of, calls_after, asked_beside}
use Rattle.dn_outcomes.proofs.Waits.{Changed, taken_changed, tended_changed}
use Rattle.dn_outcomes.proofs.Ends.{beside_after, asked_of, lane_asked, begun_load, settled_call, ends_kept}
use Rattle.dn_outcomes.proofs.Acts.{acts_by_kept, acts_kept}

-- A lane's step keeps a world: it takes up what waits, and makes its next action.

-- ---- a lane with nothing under way
pub record IsAtRest (w : World) (n : ℕ) (l : LaneState) : Type 0 where
  pub world : IsWorld w
  pub lane : IsLane n
  pub is : w.machine.lanes n ≡ Some l
  pub rests : is_working l.mode ≡ false

rests_view : (w : World) (n : ℕ) (l : LaneState) → IsAtRest w n l → view_at (w.machine.lanes n) ≡ None
rests_view w n l h = ap view_at h.is ∙ ap view_by (rests_asked w.segments w.machine n l h.world.machine h.is h.rests)

-- what waits, and what lanes were asked but for this one, when it has taken something up: the attempt that is under way
pub record HasTaken (w : World) (n : ℕ) (v : WaitingState) (begun : Option SessionView) : Type 0 where
  pub sound : AreSound v
  pub calls : AreCalls v w.machine.callers w.machine.loads
  pub asked : AskedBeside n v w.machine.lanes
  pub begun_is : (at_lane v n).begun ≡ begun

taken_sound : (w : World) (n : ℕ) (l : LaneState) → IsAtRest w n l → AreSound (taken_up w.waiting n)
taken_sound w n l h = taken_up_sound w.waiting n h.world.waiting (omega (arith, h.lane.positive), omega (arith, h.lane.below)) (rests_begun w n l h.world h.lane h.is h.rests)

-- ---- an attempt
waiting_load_at : (n : ℕ) (p : Place) (slot : ℕ) → waits_by n p ≡ true → load_at p slot ≡ None
waiting_load_at n (Loading named) slot e = absurd (cc e)
waiting_load_at n (Queued lane) slot e = refl
waiting_load_at n (Begun lane) slot e = refl

waiting_load : (n : ℕ) (o : Option OpenCall) → waits_at n o ≡ true → load_of o ≡ None
waiting_load n None e = refl
waiting_load n (Some c) e = waiting_load_at n c.place (slot_at (Some c)) e

queued_load : (w : WaitingState) (n : ℕ) (view : SessionView) → AreSound w → Contains (at_lane w n).queue view → load_of (call_of w view.session) ≡ None
queued_load w n view sound has =
    waiting_load n (call_of w view.session)
    (waiting_of n (call_of w view.session) (how_often view.session (at_lane w n).queue) (sound.queues n view.session) (often_contained (at_lane w n).queue view has))

begun_has_no_load : (o : Option OpenCall) (n : ℕ) → load_of (placed o (Begun n)) ≡ None
begun_has_no_load None n = refl
begun_has_no_load (Some c) n = refl

same_called : (o : Option OpenCall) (p : Place) → called (placed o p) ≡ called o
same_called None p = refl
same_called (Some c) p = refl

placed_call : (cs : Callers) (s : ℕ) (o : Option OpenCall) (p : Place) (x : OpenCall) → ((y : OpenCall) → o ≡ Some y → IsCallOf cs s y) → placed o p ≡ Some x → IsCallOf cs s x
placed_call cs s None p x h e = absurd (none-some x e)
placed_call cs s (Some c) p x h e =
    let was : IsCallOf cs s c = h c refl in
    subst (IsCallOf cs s) (same_Some (record c { place = p }) x e) (record { unclosed = was.unclosed; number = was.number; fits = was.fits; unmade = was.unmade })

behind_first : (at : AtLane) (view : SessionView) (f : IsFirst at view) (u : SessionView) → Contains f.rest u → Contains at.queue u
behind_first at view f u has = subst (λ vs. Contains vs u) (sym f.queue_is) (contained_behind view f.rest u has)

behind_task : (at : AtLane) (task : Task) (f : IsFirstTask at task) (t : Task) → Contains f.rest t → Contains at.tasks t
behind_task at task f t has = subst (λ ts. Contains ts t) (sym f.tasks_are) (further has) where
  further : Contains f.rest t → Contains (task ∷ f.rest) t
  further (k, lt, e) = (suc k, omega (arith, lt), e)

pub record HasTried (w : World) (n : ℕ) (view : SessionView) : Type 0 where
  pub taken : HasTaken w n (taken_up w.waiting n) (Some view)
  pub session : IsSession view.session
  pub same : called (call_of (taken_up w.waiting n) view.session) ≡ called (call_of w.waiting view.session)

pub has_tried : (w : World) (n : ℕ) (l : LaneState) (view : SessionView) → IsAtRest w n l → next_at (at_lane w.waiting n) ≡ Try view → HasTried w n view
has_tried w n l view h e =
    let s : ℕ = view.session in
    let f : IsFirst (at_lane w.waiting n) view = is_first (at_lane w.waiting n) view e in
    let has : Contains (at_lane w.waiting n).queue view = first_waits (at_lane w.waiting n) view f in
    let session : IsSession s = try_session w n view h.world h.lane e in
    let v : WaitingState = taken_up w.waiting n in
    let o : Option OpenCall = placed (call_of w.waiting s) (Begun n) in
    let q : AtLane = record (at_lane w.waiting n) { queue = f.rest; begun = Some view } in
    let ch : Changed w.waiting v s n o q = taken_changed w.waiting n view f e (omega (arith, h.world.waiting.sessions, session.most)) (omega (arith, h.world.waiting.made, h.lane.below)) in record {
      taken = record {
        sound = taken_sound w n l h;
        calls = calls_after w.waiting v s n o q w.machine.callers w.machine.loads ch (others_of s w.waiting w.machine.callers w.machine.loads h.world.calls) (record {
          call = λ x i is. placed_call w.machine.callers s (call_of w.waiting s) (Begun n) x (λ y there. h.world.calls.calls s y i there) is;
          load_is = λ i. h.world.calls.loads_are s i ∙ queued_load w.waiting n view h.world.waiting has ∙ sym (begun_has_no_load (call_of w.waiting s) n);
          queued = λ u lane in_rest. h.world.calls.queued n u lane (behind_first (at_lane w.waiting n) view f u in_rest);
          tasks = λ t lane in_tasks. h.world.calls.tasks n t lane in_tasks;
        });
        asked = beside_after w.waiting v s n o q w.machine.lanes ch (asked_beside n w.waiting w.machine.lanes h.world.asked) (λ k x lane is of. same_called (call_of w.waiting s) (Begun n));
        begun_is = ap (λ (y : AtLane). y.begun) ch.at;
      };
      session = session;
      same = ap called ch.call ∙ same_called (call_of w.waiting s) (Begun n);
    }

-- ---- a task
has_tended : (w : World) (n : ℕ) (l : LaneState) (task : Task) → IsAtRest w n l → next_at (at_lane w.waiting n) ≡ Tend task → HasTaken w n (taken_up w.waiting n) None
has_tended w n l task h e =
    let f : IsFirstTask (at_lane w.waiting n) task = is_first_task (at_lane w.waiting n) task e in
    let v : WaitingState = taken_up w.waiting n in
    let o : Option OpenCall = call_of w.waiting 0 in
    let q : AtLane = record (at_lane w.waiting n) { tasks = f.rest } in
    let ch : Changed w.waiting v 0 n o q = tended_changed w.waiting 0 n task f e (omega (arith, h.world.waiting.made, h.lane.below)) in record {
      sound = taken_sound w n l h;
      calls = calls_after w.waiting v 0 n o q w.machine.callers w.machine.loads ch (others_of 0 w.waiting w.machine.callers w.machine.loads h.world.calls) (record {
        call = λ x i is. absurd (omega (arith, i.least));
        load_is = λ i. absurd (omega (arith, i.least));
        queued = λ u lane in_queue. h.world.calls.queued n u lane in_queue;
        tasks = λ t lane in_rest. h.world.calls.tasks n t lane (behind_task (at_lane w.waiting n) task f t in_rest);
      });
      asked = beside_after w.waiting v 0 n o q w.machine.lanes ch (asked_beside n w.waiting w.machine.lanes h.world.asked) (λ k x lane is of. refl);
      begun_is = ap (λ (y : AtLane). y.begun) ch.at ∙ rests_begun w n l h.world h.lane h.is h.rests;
    }

-- ---- the lane that was asked
pub asking : (m : Machine) (n : ℕ) (l : LaneState) (view : SessionView) (call : Call) → m.lanes n ≡ Some l → happens m (Asks n view call) ≡ with_lane m n (Some (begun l view call))
asking m n l view call is = ap (λ o. of_lane m o (λ y. with_lane m n (Some (begun y view call)))) is

pub tending : (m : Machine) (n : ℕ) (l : LaneState) (task : Task) → m.lanes n ≡ Some l → happens m (Tends n task) ≡ with_lane m n (Some (begun_task l task))
tending m n l task is = ap (λ o. of_lane m o (λ y. with_lane m n (Some (begun_task y task)))) is

begun_world : (w : World) (n : ℕ) (l x : LaneState) (v : WaitingState) (b : Option SessionView) → IsAtRest w n l → HasTaken w n v b → IsSound w.segments (with_lane w.machine n (Some x))
    → IsAskedBy v x.asked → IsPlanOf x.asked x.mode → b ≡ view_by x.asked → IsWorld (record w { waiting = v; machine = with_lane w.machine n (Some x) })
begun_world w n l x v b h t machine call plan same = record {
  machine = machine;
  waiting = t.sound;
  calls = t.calls;
  asked = lane_asked n v w.machine.lanes x t.asked call plan (t.begun_is ∙ same);
  made = h.world.made;
  live = h.world.live;
}

pub asks_kept : (w : World) (n : ℕ) (l : LaneState) (view : SessionView) → IsAtRest w n l → next_at (at_lane w.waiting n) ≡ Try view
    → IsWorld (with_event (takes_up w n) (Asks n view (called (call_of w.waiting view.session))))
asks_kept w n l view h e =
    let call : Call = called (call_of w.waiting view.session) in
    let t : HasTried w n view = has_tried w n l view h e in
    let is : happens w.machine (Asks n view call) ≡ with_lane w.machine n (Some (begun l view call)) = asking w.machine n l view call h.is in
    let machine : IsSound w.segments (with_lane w.machine n (Some (begun l view call))) =
    subst (λ (x : Machine). IsSound w.segments x) is (sound w.segments w.machine (Asks n view call) h.world.machine (may_ask w n l view h.world h.lane h.is h.rests e)) in
    subst (λ (x : Machine). IsWorld (record w { waiting = taken_up w.waiting n; machine = x })) (sym is)
    (begun_world w n l (begun l view call) (taken_up w.waiting n) (Some view) h t.taken machine t.same refl refl)

pub tends_kept : (w : World) (n : ℕ) (l : LaneState) (task : Task) → IsAtRest w n l → next_at (at_lane w.waiting n) ≡ Tend task → IsWorld (with_event (takes_up w n) (Tends n task))
tends_kept w n l task h e =
    let is : happens w.machine (Tends n task) ≡ with_lane w.machine n (Some (begun_task l task)) = tending w.machine n l task h.is in
    let machine : IsSound w.segments (with_lane w.machine n (Some (begun_task l task))) =
    subst (λ (x : Machine). IsSound w.segments x) is (sound w.segments w.machine (Tends n task) h.world.machine (may_tend w n l task h.world h.lane h.is h.rests e)) in
    subst (λ (x : Machine). IsWorld (record w { waiting = taken_up w.waiting n; machine = x })) (sym is)
    (begun_world w n l (begun_task l task) (taken_up w.waiting n) None h (has_tended w n l task h e) machine tt tt refl)

-- ---- a lane that has read the bit of a fence
barred_try : (w : World) (n word : ℕ) (l : LaneState) (view : SessionView) → IsAtRest w n l → next_at (at_lane w.waiting n) ≡ Try view → IsWorld (ends (takes_up w n) n (Fenced word)).world
barred_try w n word l view h e =
    let v : WaitingState = taken_up w.waiting n in
    let t : HasTried w n view = has_tried w n l view h e in
    let c = shown_call view (call_of v view.session) (t.taken.sound.number n view t.taken.begun_is) in
    ends_kept (takes_up w n) n view (Fenced word) (record {
      lane = h.lane;
      session = t.session;
      waiting = t.taken.sound;
      begun = t.taken.begun_is;
      beside = record {
        machine = h.world.machine;
        others = others_of view.session v w.machine.callers w.machine.loads t.taken.calls;
        none = λ i. t.taken.calls.loads_are view.session i ∙ begun_load v n view t.taken.sound t.taken.begun_is;
        made = h.world.made;
        live = h.world.live;
      };
      asked = t.taken.asked;
      free = rests_view w n l h;
      call = λ x is. settled_call attempt.Refused w.machine.callers view.session c.0 x (t.taken.calls.calls view.session c.0 t.session c.1) (ap (settled attempt.Refused) (sym c.1) ∙ is);
    })

barred_tend : (w : World) (n : ℕ) (l : LaneState) (task : Task) → IsAtRest w n l → next_at (at_lane w.waiting n) ≡ Tend task → IsWorld (takes_up w n)
barred_tend w n l task h e =
    let t : HasTaken w n (taken_up w.waiting n) None = has_tended w n l task h e in record {
      machine = h.world.machine;
      waiting = t.sound;
      calls = t.calls;
      asked = asked_of n (taken_up w.waiting n) w.machine.lanes t.asked (t.begun_is ∙ sym (rests_view w n l h));
      made = h.world.made;
      live = h.world.live;
    }

-- ---- it begins
tends_so : (w : World) (n : ℕ) (l : LaneState) (task : Task) (barred : Option ℕ) → IsAtRest w n l → next_at (at_lane w.waiting n) ≡ Tend task → IsWorld (tends w n task barred).world
tends_so w n l task None h e = acts_kept (with_event (takes_up w n) (Tends n task)) n (tends_kept w n l task h e) h.lane
tends_so w n l task (Some word) h e = barred_tend w n l task h e

tries_so : (w : World) (n : ℕ) (l : LaneState) (view : SessionView) (barred : Option ℕ) → IsAtRest w n l → next_at (at_lane w.waiting n) ≡ Try view → IsWorld (tries w n view barred).world
tries_so w n l view None h e = acts_kept (with_event (takes_up w n) (Asks n view (called (call_of w.waiting view.session)))) n (asks_kept w n l view h e) h.lane
tries_so w n l view (Some word) h e = barred_try w n word l view h e

begins_kept : (w : World) (n : ℕ) (l : LaneState) (barred : Option ℕ) (next : Next) → IsAtRest w n l → next_at (at_lane w.waiting n) ≡ next → IsWorld (begins w n barred next).world
begins_kept w n l barred Rest h e = h.world
begins_kept w n l barred (Tend task) h e = tends_so w n l task barred h e
begins_kept w n l barred (Try view) h e = tries_so w n l view barred h e

pub step_kept : (w : World) (n : ℕ) → IsWorld w → IsLane n → IsWorld (step w n).world
step_kept w n h lane = by_lane (w.machine.lanes n) refl where
  by_work : (l : LaneState) (b : Bool) → w.machine.lanes n ≡ Some l → is_working l.mode ≡ b → IsWorld (steps_by w n l b).world
  by_work l true is e = acts_by_kept w n l h lane is
  by_work l false is e = begins_kept w n l l.base.known.barred (next_at (at_lane w.waiting n)) (record { world = h; lane = lane; is = is; rests = e }) refl

  by_lane : (o : Option LaneState) → w.machine.lanes n ≡ o → IsWorld (steps_of w n o).world
  by_lane None is = h
  by_lane (Some l) is = by_work l (is_working l.mode) is refl
