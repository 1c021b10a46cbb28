use Rattle.std.proofs.Common.{ℕ, ◌≡◌, ◌≢◌, ◌<◌, inl, inr, Bool, true, false, Option, Some, None, length, if◌then◌else◌, refl, sym, ◌∙◌, ap, subst, arith}
use Rattle.std.proofs.lemmas.Bool.{cases_eq}
use Rattle.std.proofs.lemmas.List.{get_or-set_same, get_or-set_other}
use Rattle.dn_hist.specs.Calls.{key_of}
use Rattle.dn_hist.specs.declared.calls.Call.{Call}
use Rattle.dn_hist.specs.declared.receipts.SessionView.{SessionView}
use Rattle.dn_model.specs.Regions.{slot_of}
use Rattle.dn_route.specs.SessionState.{view_of}
use Rattle.dn_callers.specs.Sessions.{IsSession}
use Rattle.dn_machine.specs.Events.{Session, Acts, Numbers, loaded as loaded_machine}
use Rattle.dn_machine.specs.State.{Machine}
use Rattle.dn_machine.specs.Sound.{IsSound}
use Rattle.dn_machine.proofs.Kept.{sound}
use Rattle.dn_waiting.specs.Attempts.{placed, at_first, after_load, named_in, refused_once, opened, begun_to, started, course_to, loaded_to, loaded, course_loaded}
use Rattle.dn_waiting.specs.State.{WaitingState, call_of}
use Rattle.dn_waiting.specs.declared.calls.Course.{Course}
use Rattle.dn_waiting.specs.declared.calls.Course.TheVariants as course
use Rattle.dn_waiting.specs.declared.calls.OpenCall.{OpenCall}
use Rattle.dn_waiting.specs.declared.calls.Place.TheVariants.{Queued}
use Rattle.dn_waiting.proofs.Counts.{own_test, other_test}
use Rattle.dn_outcomes.specs.Going.{goes_on, is_given}
use Rattle.dn_outcomes.specs.Sound.{IsWorld}
use Rattle.dn_outcomes.specs.Starts.{session_at, route_in, given_by, routes, starts, start_unless, start_beside, start, refresh_of, refresh}
use Rattle.dn_outcomes.specs.State.{World, Done, done, with_event, with_waiting, may_name}
use Rattle.dn_outcomes.specs.Told.{IsQuiet, Stands, is_end, GoesOn, HasNumber, Names}
use Rattle.dn_outcomes.specs.declared.outcomes.Outcome.TheVariants.{NoLane}
use Rattle.dn_outcomes.proofs.Facts.{LoadsFor, loads_for}
use Rattle.dn_outcomes.proofs.Told.{IsTold, IsCalm, alike_is, alike_goes, calm_same, calm_goes, goes_on_receipts, goes_on_waiting, refused_goes}
use Rattle.dn_outcomes.proofs.ToldSteps.{told_nothing}
use Rattle.std.proofs.lemmas.List.{length-set}
use Rattle.dn_route.specs.SessionState.{SessionState, numbered}
use Rattle.dn_store.proofs.At.{at_same}
use Rattle.dn_outcomes.specs.Told.{IsNew, Starts}
use Rattle.dn_outcomes.proofs.Waits.{new_call}

-- What a session tells that starts a call or loads a deed.

-- ---- a session starts a call
-- the calls of others
started_other : (w : WaitingState) (call : Call) (view : SessionView) (named to : Option ℕ) (k : ℕ) → k ≢ view.session → call_of (begun_to (opened w call view named) view to) k ≡ call_of w k
started_other w call view named None k d = get_or-set_other w.calls view.session k _ None d
started_other w call view named (Some l) k d = get_or-set_other _ view.session k _ None d ∙ get_or-set_other w.calls view.session k _ None d

-- of its own session it has begun, and those of others stay
pub record IsStarted (w : World) (s : ℕ) (call : Call) (d : Done) : Type 0 where
  pub receipts : Stands w d.world d.outcome
  pub calls : (k : ℕ) → k ≢ s → GoesOn (is_end d.outcome k) (call_of w.waiting k) (call_of d.world.waiting k)
  pub names : Names w.waiting d.outcome
  pub starts : Starts w d.world s call d.outcome

-- the call that begins
queued_new : (o : Option OpenCall) (l number : ℕ) (call : Call) → IsNew o number call → IsNew (placed o (Queued l)) number call
queued_new None l number call h = h
queued_new (Some c) l number call h = h

started_own : (w : WaitingState) (call : Call) (view : SessionView) (named to : Option ℕ) → view.session < length w.calls → IsNew (call_of (begun_to (opened w call view named) view to) view.session) view.number call
started_own w call view named None lt =
    subst (λ o. IsNew o view.number call) (sym (get_or-set_same w.calls view.session (Some (new_call view call named)) None lt)) (refl, refl)
started_own w call view named (Some l) lt =
    let u : WaitingState = opened w call view named in
    let o : Option OpenCall = call_of u view.session in
    let new : IsNew o view.number call = subst (λ x. IsNew x view.number call) (sym (get_or-set_same w.calls view.session (Some (new_call view call named)) None lt)) (refl, refl) in
    subst (λ x. IsNew x view.number call) (sym (get_or-set_same u.calls view.session (placed o (Queued l)) None (subst (λ k. view.session < k) (sym (length-set w.calls view.session (Some (new_call view call named)))) lt)))
    (queued_new o l view.number call new)

starts_told : (w : World) (s : ℕ) (named : Option ℕ) (call : Call) → IsWorld w → IsSession s → call_of w.waiting s ≡ None → IsStarted w s call (starts (with_event w (Numbers s)) s named call)
starts_told w s named call h i free =
    let v : World = with_event w (Numbers s) in
    let machine : IsSound v.segments v.machine = sound w.segments w.machine (Numbers s) h.machine tt in
    let view : SessionView = view_of (session_at v s) (key_of call) in
    let is : view.session ≡ s = machine.at.callers.numbers s i in
    let route : ℕ = route_in (session_at v s) (slot_of (key_of call)) in
    let u : World = with_waiting v (started v.waiting call view named route) in
    let way : Course = course_to (at_first named route) in
    let now : World = goes_on u s way in
    let own : IsNew (call_of u.waiting view.session) view.number call = started_own w.waiting call view named (at_first named route) (omega (arith, h.waiting.sessions, i.most, is)) in record {
      receipts = goes_on_receipts u s way;
      calls = λ k d. alike_goes (call_of w.waiting k) (call_of now.waiting k) (alike_is (call_of w.waiting k) (call_of now.waiting k)
          (ap (λ (x : WaitingState). call_of x k) (goes_on_waiting u s way) ∙ started_other w.waiting call view named (at_first named route) k (λ e. d (e ∙ is))));
      names = tt;
      starts = record {
        free = free;
        next = ap (λ (x : SessionState). x.number) (at_same w.machine.callers.sessions s (numbered (w.machine.callers.sessions s)) s refl);
        new = subst (λ (x : WaitingState). IsNew (call_of x s) view.number call) (sym (goes_on_waiting u s way)) (subst (λ k. IsNew (call_of u.waiting k) view.number call) is own);
      };
    }

pub start_told : (w : World) (s : ℕ) (named : Option ℕ) (call : Call) → IsWorld w → IsSession s → IsStarted w s call (start w s named call)
start_told w s named call h i = by_name (may_name w named) where
  calm : IsCalm w w
  calm = calm_same w w refl refl

  by_closed : call_of w.waiting s ≡ None → (b : Bool) → IsStarted w s call (start_unless w s named call b)
  by_closed free true = record { receipts = refl; calls = λ k d. calm_goes w w calm k; names = tt; starts = refl }
  by_closed free false = starts_told w s named call h i free

  by_call : (o : Option OpenCall) → call_of w.waiting s ≡ o → IsStarted w s call (start_beside w s named call o)
  by_call None e = by_closed e (w.machine.callers.closed s)
  by_call (Some c) e = record { receipts = refl; calls = λ k d. calm_goes w w calm k; names = tt; starts = refl }

  by_name : (b : Bool) → IsStarted w s call (if b then start_beside w s named call (call_of w.waiting s) else done w NoLane)
  by_name true = by_call (call_of w.waiting s) refl
  by_name false = record { receipts = refl; calls = λ k d. calm_goes w w calm k; names = tt; starts = refl }

-- ---- it loads a deed
given_stands : (w now : World) (c : OpenCall) (s : ℕ) (way : Course) → IsQuiet w now → Stands w now (given_by c s way)
given_stands w now c s course.Load h = h
given_stands w now c s (course.Wait lane) h = h
given_stands w now c s course.Answered h = h
given_stands w now c s course.GivenUp h = h

given_names : (w : WaitingState) (c : OpenCall) (s : ℕ) (way : Course) → call_of w s ≡ Some c → Names w (given_by c s way)
given_names w c s course.Load h = tt
given_names w c s (course.Wait lane) h = tt
given_names w c s course.Answered h = tt
given_names w c s course.GivenUp h = subst (λ o. HasNumber o c.number) (sym h) refl

given_end : (c : OpenCall) (s : ℕ) (way : Course) → is_end (given_by c s way) s ≡ is_given way
given_end c s course.Load = refl
given_end c s (course.Wait lane) = refl
given_end c s course.Answered = refl
given_end c s course.GivenUp = own_test s

given_others : (c : OpenCall) (s k : ℕ) (way : Course) → k ≢ s → is_end (given_by c s way) k ≡ false
given_others c s k course.Load d = refl
given_others c s k (course.Wait lane) d = refl
given_others c s k course.Answered d = refl
given_others c s k course.GivenUp d = other_test s k (λ e. d (sym e))

-- what is left of the call that was loaded
left_by : OpenCall → Option ℕ → Option OpenCall
left_by c None = refused_once (Some c) None
left_by c (Some l) = placed (Some c) (Queued l)

left_goes : (c : OpenCall) (to : Option ℕ) → GoesOn (is_given (course_loaded (Some c) to)) (Some c) (left_by c to)
unfolding left_by
left_goes c None = refused_goes c None
left_goes c (Some l) = (refl, refl)

loaded_own : (w : WaitingState) (view : SessionView) (c : OpenCall) (to : Option ℕ) → call_of w view.session ≡ Some c → view.session < length w.calls → call_of (loaded_to w view to) view.session ≡ left_by c to
unfolding left_by
loaded_own w view c None is lt = get_or-set_same w.calls view.session _ None lt ∙ ap (λ o. refused_once o None) is
loaded_own w view c (Some l) is lt = get_or-set_same w.calls view.session _ None lt ∙ ap (λ o. placed o (Queued l)) is

loaded_other : (w : WaitingState) (view : SessionView) (to : Option ℕ) (k : ℕ) → k ≢ view.session → call_of (loaded_to w view to) k ≡ call_of w k
loaded_other w view None k d = get_or-set_other w.calls view.session k _ None d
loaded_other w view (Some l) k d = get_or-set_other w.calls view.session k _ None d

record HasLoaded (w v : World) (view : SessionView) (c : OpenCall) : Type 0 where
  quiet : IsQuiet w v
  same : v.waiting ≡ w.waiting
  is : call_of w.waiting view.session ≡ Some c
  session : view.session < length v.waiting.calls

loaded_told : (w v : World) (view : SessionView) (c : OpenCall) (to : Option ℕ) → HasLoaded w v view c
    → IsTold w (record { world = goes_on (with_waiting v (loaded_to v.waiting view to)) view.session (course_loaded (Some c) to); outcome = given_by c view.session (course_loaded (Some c) to) })
loaded_told w v view c to h =
    let s : ℕ = view.session in
    let way : Course = course_loaded (Some c) to in
    let u : World = with_waiting v (loaded_to v.waiting view to) in
    let now : World = goes_on u s way in
    let there : call_of v.waiting s ≡ Some c = ap (λ (x : WaitingState). call_of x s) h.same ∙ h.is in record {
      receipts = given_stands w now c s way (goes_on_receipts u s way ∙ h.quiet);
      calls = λ k. elim (cases_eq k s) [
        | inl e ↦
            subst (λ j. GoesOn (is_end (given_by c s way) j) (call_of w.waiting j) (call_of now.waiting j)) (sym e)
            (subst (λ b. GoesOn b (call_of w.waiting s) (call_of now.waiting s)) (sym (given_end c s way))
            (subst (λ o. GoesOn (is_given way) o (call_of now.waiting s)) (sym h.is)
            (subst (GoesOn (is_given way) (Some c)) (sym (ap (λ (x : WaitingState). call_of x s) (goes_on_waiting u s way) ∙ loaded_own v.waiting view c to there h.session)) (left_goes c to))))
        | inr d ↦
            subst (λ b. GoesOn b (call_of w.waiting k) (call_of now.waiting k)) (sym (given_others c s k way d))
            (alike_goes (call_of w.waiting k) (call_of now.waiting k) (alike_is (call_of w.waiting k) (call_of now.waiting k)
            (ap (λ (x : WaitingState). call_of x k) (goes_on_waiting u s way) ∙ loaded_other v.waiting view to k d ∙ ap (λ (x : WaitingState). call_of x k) h.same)))
      ];
      names = given_names w.waiting c s way h.is;
    }

routes_told : (w : World) (s slot : ℕ) (c : OpenCall) → IsWorld w → IsSession s → w.machine.loads s ≡ Some slot → LoadsFor w s slot c
    → IsTold w (routes (record w { machine = loaded_machine w.machine s (Some slot) }) s (Some c))
routes_told w s slot c h i e f =
    let v : World = record w { machine = loaded_machine w.machine s (Some slot) } in
    let machine : IsSound v.segments v.machine =
    subst (λ (x : Machine). IsSound w.segments x) (ap (loaded_machine w.machine s) e) (sound w.segments w.machine (Acts (Session s)) h.machine tt) in
    let view : SessionView = view_of (session_at v s) (key_of c.call) in
    let is : view.session ≡ s = machine.at.callers.numbers s i in
    let there : call_of w.waiting view.session ≡ Some c = ap (call_of w.waiting) is ∙ f.is in
    let route : ℕ = route_in (session_at v s) (slot_of (key_of c.call)) in
    let to : Option ℕ = after_load (named_in (Some c)) route in
    subst (λ k. IsTold w (record { world = goes_on (with_waiting v (loaded v.waiting view route)) k (course_loaded (Some c) to); outcome = given_by c k (course_loaded (Some c) to) })) is
    (subst (λ o. IsTold w (record { world = goes_on (with_waiting v (loaded_to v.waiting view (after_load (named_in o) route))) view.session (course_loaded (Some c) to); outcome = given_by c view.session (course_loaded (Some c) to) })) (sym there)
    (loaded_told w v view c to (record { quiet = refl; same = refl; is = there; session = omega (arith, h.waiting.sessions, i.most, is) })))

pub refresh_told : (w : World) (s : ℕ) → IsWorld w → IsSession s → IsTold w (refresh w s)
refresh_told w s h i = by_load (w.machine.loads s) refl where
  by_load : (o : Option ℕ) → w.machine.loads s ≡ o → IsTold w (refresh_of w s o)
  by_load None e = told_nothing w
  by_load (Some slot) e =
      let f = loads_for w s slot h i e in
      subst (λ (x : Machine). IsTold w (routes (record w { machine = x }) s (call_of w.waiting s))) (sym (ap (loaded_machine w.machine s) e))
      (subst (λ o. IsTold w (routes (record w { machine = loaded_machine w.machine s (Some slot) }) s o)) (sym f.1.is) (routes_told w s slot f.0 h i e f.1))
