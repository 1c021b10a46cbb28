use Rattle.std.proofs.Common.{ℕ, ◌+◌, ◌≡◌, inl, inr, Bool, true, false, Option, Some, None, Contains, nat_lt, if◌then◌else◌, refl, sym, ◌∙◌, ap, subst, arith}
use Rattle.std.proofs.lemmas.Bool.{false≢true}
use Rattle.std.proofs.lemmas.List.{length-set}
use Rattle.std.proofs.lemmas.List.Elements.{Contains-push_cases}
use Rattle.dn_hist.specs.declared.calls.Call.{Call}
use Rattle.dn_hist.specs.declared.receipts.SessionView.{SessionView}
use Rattle.dn_model.specs.Regions.{IsLane}
use Rattle.dn_lane.specs.State.{LaneState}
use Rattle.dn_callers.specs.Callers.{Callers}
use Rattle.dn_callers.specs.Sessions.{IsSession}
use Rattle.dn_machine.specs.Given.{IsOfSession}
use Rattle.dn_waiting.specs.Attempts.{placed, refused_once, course_refused, named_in, at_first, after_load, opened, begun_to, started, course_to, queued, refused, loaded_to, loaded, course_loaded}
use Rattle.dn_waiting.specs.Queues.{AtLane, with_attempt}
use Rattle.dn_waiting.specs.Sound.{IsSound as AreSound, IsLoading, IsLaneOrNone}
use Rattle.dn_waiting.specs.State.{WaitingState, call_of, at_lane}
use Rattle.dn_waiting.specs.declared.calls.Course.TheVariants as course
use Rattle.dn_waiting.specs.declared.calls.OpenCall.{OpenCall}
use Rattle.dn_waiting.specs.declared.calls.Place.{Place}
use Rattle.dn_waiting.specs.declared.calls.Place.TheVariants.{Loading, Queued}
use Rattle.dn_waiting.proofs.Places.{IsAway, none_away, loading_away}
use Rattle.dn_waiting.proofs.Steps.{is_own}
use Rattle.dn_outcomes.specs.State.{World, with_waiting}
use Rattle.dn_outcomes.specs.Going.{goes_on}
use Rattle.dn_outcomes.specs.Sound.{IsCallOf, MayBegin, load_of, view_at, AreAsked, IsWorld}
use Rattle.dn_outcomes.proofs.Facts.{HasView, has_view}
use Rattle.dn_outcomes.proofs.Goes.{IsBeside, goes, load_next, asked_after, asked_beside}
use Rattle.dn_outcomes.proofs.Waits.{Changed, call_changed, queued_changed, changed_then, opened_changed, new_call}

-- A session's call begins, or goes on past a load.

-- ---- no lane has a call that is under way at none
pub away_asked : (w : WaitingState) (lanes : ℕ → Option LaneState) (s : ℕ) → AreSound w → AreAsked w lanes → IsAway (call_of w s) → (n : ℕ) (x : LaneState) → IsLane n → lanes n ≡ Some x → IsOfSession s x.asked → ⊥
away_asked w lanes s sound h away n x lane is of =
    let v : HasView s x.asked = has_view s x.asked of in
    let begun : (at_lane w n).begun ≡ Some v.view = h.begun n lane ∙ ap view_at is ∙ v.is in
    false≢true (sym (away.runs n) ∙ sym (sound.begun n s) ∙ is_own s (at_lane w n).begun v.view begun v.session)

-- the attempts at a lane, and one more
pub one_more_begins : (c : Callers) (at : AtLane) (view : SessionView) → ((u : SessionView) → Contains at.queue u → MayBegin c u) → MayBegin c view → (u : SessionView) → Contains (with_attempt at view).queue u → MayBegin c u
one_more_begins c at view all own u has = elim (Contains-push_cases at.queue view u has) [
  | inl had ↦ all u had
  | inr is ↦ subst (MayBegin c) is own
]

-- ---- a call begins
pub record IsStarting (w : World) (call : Call) (view : SessionView) : Type 0 where
  pub beside : IsBeside view.session w
  pub waiting : AreSound w.waiting
  pub asked : AreAsked w.waiting w.machine.lanes
  pub session : IsSession view.session
  pub free : call_of w.waiting view.session ≡ None
  pub fresh : (place : Place) → IsCallOf w.machine.callers view.session (record { number = view.number; call = call; refused = 0; place = place })
  pub may : MayBegin w.machine.callers view

call_by : (c : Callers) (s : ℕ) (x y : OpenCall) → IsCallOf c s x → Some x ≡ Some y → IsCallOf c s y
call_by c s x y h e = (let same : x ≡ y = cc in subst (IsCallOf c s) same h)

free_away : (w : WaitingState) (s : ℕ) → call_of w s ≡ None → IsAway (call_of w s)
free_away w s e = subst IsAway (sym e) none_away

starts_to : (w : World) (call : Call) (view : SessionView) (named : Option ℕ) (to : Option ℕ) → IsStarting w call view → IsLaneOrNone to → AreSound (begun_to (opened w.waiting call view named) view to)
    → IsWorld (goes_on (with_waiting w (begun_to (opened w.waiting call view named) view to)) view.session (course_to to))
starts_to w call view named None h there sound =
    let s : ℕ = view.session in
    let o : Option OpenCall = Some (new_call view call named) in
    let q : AtLane = at_lane w.waiting 0 in
    let ch : Changed w.waiting (opened w.waiting call view named) s 0 o q = opened_changed w.waiting call view named 0 (omega (arith, h.waiting.sessions, h.session.most)) in
    goes w (opened w.waiting call view named) s 0 o q course.Load (record {
      beside = h.beside;
      waiting = sound;
      changed = ch;
      asked = asked_after w.waiting (opened w.waiting call view named) s 0 o q w.machine.lanes ch (asked_beside 0 w.waiting w.machine.lanes h.asked)
          (λ n x lane is of. absurd (away_asked w.waiting w.machine.lanes s h.waiting h.asked (free_away w.waiting s h.free) n x lane is of)) (λ lane. h.asked.begun 0 lane);
      call = λ x i e. call_by w.machine.callers s (new_call view call named) x (h.fresh (Loading named)) e;
      queued = λ u lane has. h.beside.others.queued 0 u lane has;
      tasks = λ t lane has. h.beside.others.tasks 0 t lane has;
      course = refl;
    })
starts_to w call view named (Some l) h there sound =
    let s : ℕ = view.session in
    let u : WaitingState = opened w.waiting call view named in
    let new : Option OpenCall = Some (new_call view call named) in
    let o : Option OpenCall = placed new (Queued l) in
    let q : AtLane = with_attempt (at_lane w.waiting l) view in
    let open_it : Changed w.waiting u s l new (at_lane w.waiting l) = opened_changed w.waiting call view named l (omega (arith, h.waiting.sessions, h.session.most)) in
    let wait : Changed u (queued u view l) s l o q = queued_changed u view l new open_it.call (omega (arith, length-set w.waiting.calls s new, h.waiting.sessions, h.session.most)) (omega (arith, h.waiting.made, there.1)) in
    let ch : Changed w.waiting (queued u view l) s l o q = changed_then w.waiting u (queued u view l) s l new o (at_lane w.waiting l) q open_it wait in
    goes w (queued u view l) s l o q (course.Wait l) (record {
      beside = h.beside;
      waiting = sound;
      changed = ch;
      asked = asked_after w.waiting (queued u view l) s l o q w.machine.lanes ch (asked_beside l w.waiting w.machine.lanes h.asked)
          (λ n x lane is of. absurd (away_asked w.waiting w.machine.lanes s h.waiting h.asked (free_away w.waiting s h.free) n x lane is of)) (λ lane. h.asked.begun l lane);
      call = λ x i e. call_by w.machine.callers s (record (new_call view call named) { place = Queued l }) x (h.fresh (Queued l)) e;
      queued = λ v lane has. one_more_begins w.machine.callers (at_lane w.waiting l) view (λ y had. h.beside.others.queued l y lane had) h.may v has;
      tasks = λ t lane has. h.beside.others.tasks l t lane has;
      course = refl;
    })

pub starts_kept : (w : World) (call : Call) (view : SessionView) (named : Option ℕ) (route : ℕ) → IsStarting w call view → IsLaneOrNone (at_first named route) → AreSound (started w.waiting call view named route)
    → IsWorld (goes_on (with_waiting w (started w.waiting call view named route)) view.session (course_to (at_first named route)))
starts_kept w call view named route h there sound = starts_to w call view named (at_first named route) h there sound

-- ---- an attempt is refused
refused_load_by : (c : OpenCall) (named : Option ℕ) (b : Bool)
    → load_of (if b then Some (record c { refused = c.refused + 1; place = Loading named }) else None)
    ≡ load_next (if b then course.Load else course.GivenUp) (if b then Some (record c { refused = c.refused + 1; place = Loading named }) else None)
refused_load_by c named true = refl
refused_load_by c named false = refl

pub refused_load : (c : OpenCall) (named : Option ℕ) → load_of (refused_once (Some c) named) ≡ load_next (course_refused (Some c)) (refused_once (Some c) named)
refused_load c named = refused_load_by c named (nat_lt c.refused 7)

refused_call_by : (cs : Callers) (s : ℕ) (c x : OpenCall) (named : Option ℕ) (b : Bool) → IsCallOf cs s c → (if b then Some (record c { refused = c.refused + 1; place = Loading named }) else None) ≡ Some x → IsCallOf cs s x
refused_call_by cs s c x named true h e =
    call_by cs s (record c { refused = c.refused + 1; place = Loading named }) x (record { unclosed = h.unclosed; number = h.number; fits = h.fits; unmade = h.unmade }) e
refused_call_by cs s c x named false h e = absurd (cc e)

pub refused_call : (cs : Callers) (s : ℕ) (c x : OpenCall) (named : Option ℕ) → IsCallOf cs s c → refused_once (Some c) named ≡ Some x → IsCallOf cs s x
refused_call cs s c x named h e = refused_call_by cs s c x named (nat_lt c.refused 7) h e

-- ---- a call whose deed was loaded
pub record IsRouting (w : World) (view : SessionView) (c : OpenCall) : Type 0 where
  pub beside : IsBeside view.session w
  pub waiting : AreSound w.waiting
  pub asked : AreAsked w.waiting w.machine.lanes
  pub session : IsSession view.session
  pub is : call_of w.waiting view.session ≡ Some c
  pub loads : IsLoading (call_of w.waiting view.session)
  pub call : IsCallOf w.machine.callers view.session c
  pub may : MayBegin w.machine.callers view

routes_to : (w : World) (view : SessionView) (c : OpenCall) (to : Option ℕ) → IsRouting w view c → IsLaneOrNone to → AreSound (loaded_to w.waiting view to)
    → IsWorld (goes_on (with_waiting w (loaded_to w.waiting view to)) view.session (course_loaded (Some c) to))
routes_to w view c None h there sound =
    let s : ℕ = view.session in
    let v : WaitingState = refused w.waiting s None in
    let o : Option OpenCall = refused_once (Some c) None in
    let q : AtLane = at_lane w.waiting 0 in
    let ch : Changed w.waiting v s 0 o q =
    subst (λ x. Changed w.waiting v s 0 (refused_once x None) q) h.is (call_changed w.waiting s 0 (refused_once (call_of w.waiting s) None) (omega (arith, h.waiting.sessions, h.session.most))) in
    goes w v s 0 o q (course_refused (Some c)) (record {
      beside = h.beside;
      waiting = sound;
      changed = ch;
      asked = asked_after w.waiting v s 0 o q w.machine.lanes ch (asked_beside 0 w.waiting w.machine.lanes h.asked)
          (λ n x lane is of. absurd (away_asked w.waiting w.machine.lanes s h.waiting h.asked (loading_away (call_of w.waiting s) h.loads) n x lane is of)) (λ lane. h.asked.begun 0 lane);
      call = λ x i e. refused_call w.machine.callers s c x None h.call e;
      queued = λ u lane has. h.beside.others.queued 0 u lane has;
      tasks = λ t lane has. h.beside.others.tasks 0 t lane has;
      course = refused_load c None;
    })
routes_to w view c (Some l) h there sound =
    let s : ℕ = view.session in
    let v : WaitingState = queued w.waiting view l in
    let o : Option OpenCall = placed (Some c) (Queued l) in
    let q : AtLane = with_attempt (at_lane w.waiting l) view in
    let ch : Changed w.waiting v s l o q = queued_changed w.waiting view l (Some c) h.is (omega (arith, h.waiting.sessions, h.session.most)) (omega (arith, h.waiting.made, there.1)) in
    goes w v s l o q (course.Wait l) (record {
      beside = h.beside;
      waiting = sound;
      changed = ch;
      asked = asked_after w.waiting v s l o q w.machine.lanes ch (asked_beside l w.waiting w.machine.lanes h.asked)
          (λ n x lane is of. absurd (away_asked w.waiting w.machine.lanes s h.waiting h.asked (loading_away (call_of w.waiting s) h.loads) n x lane is of)) (λ lane. h.asked.begun l lane);
      call = λ x i e. call_by w.machine.callers s (record c { place = Queued l }) x (record { unclosed = h.call.unclosed; number = h.call.number; fits = h.call.fits; unmade = h.call.unmade }) e;
      queued = λ u lane has. one_more_begins w.machine.callers (at_lane w.waiting l) view (λ y had. h.beside.others.queued l y lane had) h.may u has;
      tasks = λ t lane has. h.beside.others.tasks l t lane has;
      course = refl;
    })

pub routes_kept : (w : World) (view : SessionView) (c : OpenCall) (route : ℕ) → IsRouting w view c → IsLaneOrNone (after_load (named_in (Some c)) route) → AreSound (loaded w.waiting view route)
    → IsWorld (goes_on (with_waiting w (loaded w.waiting view route)) view.session (course_loaded (Some c) (after_load (named_in (Some c)) route)))
routes_kept w view c route h there sound =
    let P : Option OpenCall → Type 0 = λ x. AreSound (loaded_to w.waiting view (after_load (named_in x) route)) → IsWorld (goes_on (with_waiting w (loaded_to w.waiting view (after_load (named_in x) route))) view.session (course_loaded (Some c) (after_load (named_in (Some c)) route))) in
    subst P (sym h.is) (λ is. routes_to w view c (after_load (named_in (Some c)) route) h there is) sound
