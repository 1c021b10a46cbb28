use Rattle.std.proofs.Common.{if◌then◌else◌, Bool, ◌+◌, All, ℕ, ◌≡◌, ◌≢◌, ◌≤◌, ◌<◌, ◌^◌, true, false, List, [], ◌∷◌, Option, Some, None, Contains, nat_lt, nat_le, refl, sym, ◌∙◌, ap, subst, arith}
use Rattle.std.proofs.lemmas.Option.{same_Some, none-some}
use Rattle.dn_monitor.specs.Monitor.{IsOrder}
use Rattle.dn_monitor.specs.declared.orders.Order.{Order}
use Rattle.dn_orders.proofs.Takeovers.{heirs_are}
use Rattle.dn_lane.specs.Asked.{call_in}
use Rattle.dn_outcomes.specs.Starts.{lane_or_none}
use Rattle.std.proofs.lemmas.Bool.{and_parts, ltb-true, leb-true}
use Rattle.dn_hist.specs.Calls.{key_of}
use Rattle.dn_hist.specs.declared.calls.Call.{Call}
use Rattle.dn_hist.specs.declared.calls.Call.TheVariants.{Get, Put, Delete}
use Rattle.dn_hist.specs.declared.receipts.SessionView.{SessionView}
use Rattle.dn_model.specs.Regions.{IsLane}
use Rattle.dn_tend.specs.declared.tasks.Task.{Task}
use Rattle.dn_lane.specs.Left.{is_working}
use Rattle.dn_lane.specs.State.{LaneState}
use Rattle.dn_lane.specs.declared.asked.Asked.{Asked}
use Rattle.dn_lane.specs.declared.asked.Asked.TheVariants as asked
use Rattle.dn_lane.specs.declared.modes.Mode.{Mode}
use Rattle.dn_lane.specs.declared.modes.Mode.TheVariants as mode
use Rattle.dn_lanes.specs.Begun.{IsOwnTask}
use Rattle.dn_lanes.specs.Calls.{IsCall}
use Rattle.dn_lanes.specs.Phases.{IsAt}
use Rattle.dn_callers.specs.Sessions.{IsSession}
use Rattle.dn_machine.specs.State.{Machine}
use Rattle.dn_machine.specs.Given.{IsOfSession, HasNoCall, IsFree, MayAsk, MayOrder}
use Rattle.dn_machine.specs.Sound.{IsSound}
use Rattle.dn_waiting.specs.Queues.{AtLane}
use Rattle.dn_waiting.specs.Sound.{Shows, IsLoading, IsAtLoad, IsLaneOrNone}
use Rattle.dn_waiting.specs.State.{WaitingState, call_of, at_lane}
use Rattle.dn_waiting.specs.Turns.{next_of, next_at}
use Rattle.dn_waiting.specs.declared.calls.Next.TheVariants.{Tend, Try}
use Rattle.dn_waiting.specs.declared.calls.OpenCall.{OpenCall}
use Rattle.dn_waiting.specs.declared.calls.Place.{Place}
use Rattle.dn_waiting.specs.declared.calls.Place.TheVariants.{Loading, Queued, Begun}
use Rattle.dn_waiting.proofs.PlaceLaws.{not_both}
use Rattle.dn_outcomes.specs.State.{World, is_made, may_name}
use Rattle.dn_outcomes.specs.Going.{called, slot_at}
use Rattle.dn_outcomes.specs.Sound.{view_by, view_at, load_at, load_of, MayBegin, IsAskedBy, IsTake, IsWorld}

-- What is so of a world: what its lanes may take up, what its sessions load, and which lanes were made.

-- ---- lanes that were made
pub made_lane : (w : World) (n : ℕ) → IsWorld w → is_made w n ≡ true → IsLane n
made_lane w n h e = (let p = and_parts (nat_lt 0 n) (nat_le n w.made) e in record { positive = ltb-true 0 n p.0; below = omega (arith, leb-true n w.made p.1, h.made.most) })

pub made_most : (w : World) (n : ℕ) → IsWorld w → is_made w n ≡ true → n ≤ w.made
made_most w n h e = leb-true n w.made (and_parts (nat_lt 0 n) (nat_le n w.made) e).1

-- ---- a lane at which nothing is under way
at_rest : (m : Mode) → is_working m ≡ false → m ≡ mode.Idle
at_rest mode.Idle e = refl
at_rest (mode.Acting wait) e = cc
at_rest (mode.Finding wait find) e = cc
at_rest (mode.Claiming wait claim) e = cc
at_rest (mode.Sealing wait seal) e = cc

pub is_free : (m : Machine) (n : ℕ) (l : LaneState) → m.lanes n ≡ Some l → is_working l.mode ≡ false → IsFree m n
is_free m n l is rests = record { lane = l; runs = is; idle = at_rest l.mode rests }

-- was asked nothing
pub rests_asked : (segments : ℕ) (m : Machine) (n : ℕ) (l : LaneState) → IsSound segments m → m.lanes n ≡ Some l → is_working l.mode ≡ false → l.asked ≡ asked.Nothing
rests_asked segments m n l h is rests =
    (subst (IsAt (h.p.owners.knows n).look n l.base l.asked) (at_rest l.mode rests) (h.at.know.lanes n l is).at).2

pub rests_begun : (w : World) (n : ℕ) (l : LaneState) → IsWorld w → IsLane n → w.machine.lanes n ≡ Some l → is_working l.mode ≡ false → (at_lane w.waiting n).begun ≡ None
rests_begun w n l h lane is rests = h.asked.begun n lane ∙ ap view_at is ∙ ap view_by (rests_asked w.segments w.machine n l h.machine is rests)

-- ---- what it takes up
-- an attempt: no task waits, and it is the first of the queue
pub record IsFirst (at : AtLane) (view : SessionView) : Type 0 where
  pub rest : List SessionView
  pub no_tasks : at.tasks ≡ []
  pub queue_is : at.queue ≡ view ∷ rest

pub record IsFirstTask (at : AtLane) (task : Task) : Type 0 where
  pub rest : List Task
  pub tasks_are : at.tasks ≡ task ∷ rest

first_by : (at : AtLane) (tasks : List Task) (queue : List SessionView) (view : SessionView) → at.tasks ≡ tasks → at.queue ≡ queue → next_of tasks queue ≡ Try view → IsFirst at view
first_by at [] [] view t q e = absurd (cc e)
first_by at [] (v ∷ rest) view t q e = (let same : v ≡ view = cc in record { rest = rest; no_tasks = t; queue_is = q ∙ ap (λ u. u ∷ rest) same })
first_by at (task ∷ tasks) queue view t q e = absurd (cc e)

pub is_first : (at : AtLane) (view : SessionView) → next_at at ≡ Try view → IsFirst at view
is_first at view e = first_by at at.tasks at.queue view refl refl e

first_task_by : (at : AtLane) (tasks : List Task) (queue : List SessionView) (task : Task) → at.tasks ≡ tasks → next_of tasks queue ≡ Tend task → IsFirstTask at task
first_task_by at [] [] task t e = absurd (cc e)
first_task_by at [] (v ∷ rest) task t e = absurd (cc e)
first_task_by at (x ∷ tasks) queue task t e = (let same : x ≡ task = cc in record { rest = tasks; tasks_are = t ∙ ap (λ u. u ∷ tasks) same })

pub is_first_task : (at : AtLane) (task : Task) → next_at at ≡ Tend task → IsFirstTask at task
is_first_task at task e = first_task_by at at.tasks at.queue task refl e

pub first_waits : (at : AtLane) (view : SessionView) → IsFirst at view → Contains at.queue view
first_waits at view f = subst (λ vs. Contains vs view) (sym f.queue_is) (0, omega arith, refl)

pub first_task_waits : (at : AtLane) (task : Task) → IsFirstTask at task → Contains at.tasks task
first_task_waits at task f = subst (λ ts. Contains ts task) (sym f.tasks_are) (0, omega arith, refl)

-- ---- an attempt that waits may begin
pub may_begin : (w : World) (n : ℕ) (view : SessionView) → IsWorld w → IsLane n → next_at (at_lane w.waiting n) ≡ Try view → MayBegin w.machine.callers view
may_begin w n view h lane e = h.calls.queued n view lane (first_waits (at_lane w.waiting n) view (is_first (at_lane w.waiting n) view e))

pub try_session : (w : World) (n : ℕ) (view : SessionView) → IsWorld w → IsLane n → next_at (at_lane w.waiting n) ≡ Try view → IsSession view.session
try_session w n view h lane e = (may_begin w n view h lane e).good.session

pub try_hint : (w : World) (n : ℕ) (view : SessionView) → IsWorld w → IsLane n → next_at (at_lane w.waiting n) ≡ Try view → view.hint ≡ None
try_hint w n view h lane e = (may_begin w n view h lane e).hint

pub try_stamp : (w : World) (n : ℕ) (view : SessionView) → IsWorld w → IsLane n → next_at (at_lane w.waiting n) ≡ Try view → view.last.stamp < 2 ^ 31
try_stamp w n view h lane e = (may_begin w n view h lane e).stamp

pub shown_call : (view : SessionView) (o : Option OpenCall) → Shows view o → (c : OpenCall) × (o ≡ Some c)
shown_call view None h = absurd h
shown_call view (Some c) h = (c, refl)

pub try_call : (w : World) (n : ℕ) (view : SessionView) → IsWorld w → IsLane n → next_at (at_lane w.waiting n) ≡ Try view → (c : OpenCall) × (call_of w.waiting view.session ≡ Some c)
try_call w n view h lane e =
    shown_call view (call_of w.waiting view.session) (h.waiting.numbers n view (first_waits (at_lane w.waiting n) view (is_first (at_lane w.waiting n) view e)))

pub try_fits : (w : World) (n : ℕ) (view : SessionView) → IsWorld w → IsLane n → next_at (at_lane w.waiting n) ≡ Try view → IsCall (called (call_of w.waiting view.session))
try_fits w n view h lane e =
    let c = try_call w n view h lane e in
    subst (λ o. IsCall (called o)) (sym c.1) (h.calls.calls view.session c.0 (try_session w n view h lane e) c.1).fits

call_key : (call : Call) → IsCall call → key_of call ≢ 0
call_key (Get key) h = h
call_key (Put key value) h = h.0
call_key (Delete key) h = h

pub try_key : (w : World) (n : ℕ) (view : SessionView) → IsWorld w → IsLane n → next_at (at_lane w.waiting n) ≡ Try view → key_of (called (call_of w.waiting view.session)) ≢ 0
try_key w n view h lane e = call_key (called (call_of w.waiting view.session)) (try_fits w n view h lane e)

-- no lane has a call of its session
pub record HasView (s : ℕ) (a : Asked) : Type 0 where
  pub view : SessionView
  pub is : view_by a ≡ Some view
  pub session : view.session ≡ s

pub has_view : (s : ℕ) (a : Asked) → IsOfSession s a → HasView s a
has_view s asked.Nothing h = absurd h
has_view s (asked.Call call view room) h = record { view = view; is = refl; session = h }
has_view s asked.Task h = absurd h

pub queued_alone : (w : World) (n : ℕ) (view : SessionView) → IsWorld w → Contains (at_lane w.waiting n).queue view → HasNoCall w.machine view.session
queued_alone w n view h has k l lane is of =
    let v : HasView view.session l.asked = has_view view.session l.asked of in
    not_both w.waiting h.waiting n k view v.view has (h.asked.begun k lane ∙ ap view_at is ∙ v.is) (sym v.session)

pub may_ask : (w : World) (n : ℕ) (l : LaneState) (view : SessionView) → IsWorld w → IsLane n → w.machine.lanes n ≡ Some l → is_working l.mode ≡ false → next_at (at_lane w.waiting n) ≡ Try view
    → MayAsk w.machine n view (called (call_of w.waiting view.session))
may_ask w n l view h lane is rests e =
    let may : MayBegin w.machine.callers view = may_begin w n view h lane e in record {
      free = is_free w.machine n l is rests;
      fits = try_fits w n view h lane e;
      last = may.stamp;
      hint = may.hint;
      good = may.good;
      alone = queued_alone w n view h (first_waits (at_lane w.waiting n) view (is_first (at_lane w.waiting n) view e));
    }

-- ---- and so may a task
pub tend_own : (w : World) (n : ℕ) (task : Task) → IsWorld w → IsLane n → next_at (at_lane w.waiting n) ≡ Tend task → IsOwnTask task
tend_own w n task h lane e = h.calls.tasks n task lane (first_task_waits (at_lane w.waiting n) task (is_first_task (at_lane w.waiting n) task e))

pub may_tend : (w : World) (n : ℕ) (l : LaneState) (task : Task) → IsWorld w → IsLane n → w.machine.lanes n ≡ Some l → is_working l.mode ≡ false → next_at (at_lane w.waiting n) ≡ Tend task
    → IsFree w.machine n × IsOwnTask task
may_tend w n l task h lane is rests e = (is_free w.machine n l is rests, tend_own w n task h lane e)

-- ---- what a session loads
pub its_session : (w : World) (s : ℕ) → IsWorld w → IsSession s → (w.machine.callers.sessions s).session ≡ s
its_session w s h i = h.machine.at.callers.numbers s i

pub record LoadsFor (w : World) (s slot : ℕ) (c : OpenCall) : Type 0 where
  pub is : call_of w.waiting s ≡ Some c
  pub named : Option ℕ
  pub place_is : c.place ≡ Loading named
  pub slot_is : slot ≡ slot_at (Some c)
  pub number : c.number ≡ (w.machine.callers.sessions s).number

loads_by : (p : Place) (k slot : ℕ) → load_at p k ≡ Some slot → (named : Option ℕ) × (p ≡ Loading named) × (slot ≡ k)
loads_by (Loading named) k slot e = (named, refl, cc)
loads_by (Queued lane) k slot e = absurd (cc e)
loads_by (Begun lane) k slot e = absurd (cc e)

loads_call : (w : World) (s slot : ℕ) (o : Option OpenCall) → IsWorld w → IsSession s → call_of w.waiting s ≡ o → load_of o ≡ Some slot → (c : OpenCall) × LoadsFor w s slot c
loads_call w s slot None h i is e = absurd (cc e)
loads_call w s slot (Some c) h i is e =
    let l = loads_by c.place (slot_at (Some c)) slot e in
    (c, record { is = is; named = l.0; place_is = l.1; slot_is = l.2; number = (h.calls.calls s c i is).number })

pub loads_for : (w : World) (s slot : ℕ) → IsWorld w → IsSession s → w.machine.loads s ≡ Some slot → (c : OpenCall) × LoadsFor w s slot c
loads_for w s slot h i e = loads_call w s slot (call_of w.waiting s) h i refl (sym (h.calls.loads_are s i) ∙ e)

pub loading : (w : World) (s slot : ℕ) → IsWorld w → IsSession s → w.machine.loads s ≡ Some slot → IsLoading (call_of w.waiting s)
loading w s slot h i e =
    let f = loads_for w s slot h i e in
    subst IsLoading (sym f.1.is) (at_load f.0.place f.1.named f.1.place_is)
  where
    at_load : (p : Place) (named : Option ℕ) → p ≡ Loading named → IsAtLoad p
    at_load (Loading named) other e = tt
    at_load (Queued lane) other e = absurd (cc e)
    at_load (Begun lane) other e = absurd (cc e)

its_call : (w : WaitingState) (a : Asked) (view : SessionView) → view_by a ≡ Some view → IsAskedBy w a → called (call_of w view.session) ≡ call_in a
its_call w asked.Nothing view e h = absurd (none-some view e)
its_call w (asked.Call call v room) view e h = ap (λ (x : SessionView). called (call_of w x.session)) (sym (same_Some v view e)) ∙ h
its_call w asked.Task view e h = absurd (none-some view e)

pub asked_call : (w : World) (n : ℕ) (l : LaneState) (view : SessionView) → IsWorld w → IsLane n → w.machine.lanes n ≡ Some l → view_by l.asked ≡ Some view → called (call_of w.waiting view.session) ≡ call_in l.asked
asked_call w n l view h lane is e = its_call w.waiting l.asked view e (h.asked.calls n l lane is)

-- ---- what the monitor may be given, and which lane may be added
live_below : (w : World) → IsWorld w → All (λ lane. (1 ≤ lane) × (lane < 64)) w.live
live_below w h k d lt = (let p = h.live.lanes k d lt in (p.0, omega (arith, p.1, h.made.most)))

pub may_give : (w : World) (o : Order) (heirs : List ℕ) → IsWorld w → IsOrder o → IsTake w.live o heirs → w.machine.monitor ≡ None → MayOrder w.machine o heirs
may_give w o heirs h fits take none = record {
  free = none;
  fits = fits;
  formatted = λ segments e. subst (λ x. IsTake w.live x heirs) e take;
  lanes = λ lane e. heirs_are w.live heirs (live_below w h) (subst (λ x. IsTake w.live x heirs) e take);
}

pub may_add : (w : World) (n : ℕ) → IsWorld w → n ≡ w.made + 1 → n ≤ 63 → IsLane n × (w.machine.mergers n ≡ None)
may_add w n h is few = (record { positive = omega (arith, is); below = omega (arith, few) }, h.made.not_made n (omega (arith, is)))

-- ---- lanes that sessions name
-- by its route a call goes to a lane, or to 0
pub route_low : (n : ℕ) → lane_or_none n ≤ 63
route_low n = by_test (nat_lt n 64) refl where
  by_test : (b : Bool) → nat_lt n 64 ≡ b → (if b then n else 0) ≤ 63
  by_test true e = omega (arith, ltb-true n 64 e)
  by_test false e = omega arith

pub may_name_lane : (w : World) (named : Option ℕ) → IsWorld w → may_name w named ≡ true → IsLaneOrNone named
may_name_lane w None h e = tt
may_name_lane w (Some n) h e = (let l : IsLane n = made_lane w n h e in (omega (arith, l.positive), omega (arith, l.below)))
