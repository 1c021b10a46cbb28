use Rattle.std.proofs.Common.{ℕ, ◌≡◌, ◌≤◌, ◌==◌, Bool, true, false, zero, suc, Option, Some, None, slice_index, if◌then◌else◌, refl, sym, ◌∙◌, ap, subst, arith}
use Rattle.dn_hist.specs.Calls.{key_of}
use Rattle.dn_hist.specs.declared.calls.Call.{Call}
use Rattle.dn_hist.specs.declared.receipts.SessionView.{SessionView}
use Rattle.dn_model.specs.Regions.{slot_of, deed_at}
use Rattle.dn_act.specs.declared.actions.Action.TheVariants.{Load}
use Rattle.dn_lanes.specs.Calls.{IsCall}
use Rattle.dn_route.specs.SessionState.{view_of}
use Rattle.dn_store.proofs.At.{at_same}
use Rattle.dn_callers.specs.Callers.{Callers}
use Rattle.dn_callers.specs.Sessions.{IsSession}
use Rattle.dn_machine.specs.Events.{Session, Acts, Numbers, Tells, found, loaded as loaded_machine}
use Rattle.dn_machine.specs.Sound.{IsSound}
use Rattle.dn_machine.specs.State.{Machine}
use Rattle.dn_machine.proofs.Kept.{sound}
use Rattle.dn_waiting.specs.Attempts.{by_route, named_or, named_in, at_first, after_load, started, loaded, course_to, course_loaded}
use Rattle.dn_waiting.specs.Sound.{IsLane as IsPlace, IsLaneOrNone, IsLoading, Shows}
use Rattle.dn_waiting.specs.State.{call_of}
use Rattle.dn_waiting.specs.declared.calls.OpenCall.{OpenCall}
use Rattle.dn_waiting.proofs.Changes.{started_sound, loaded_sound, named_lane}
use Rattle.dn_outcomes.specs.State.{World, done, with_waiting, with_event, may_name}
use Rattle.dn_outcomes.specs.declared.outcomes.Outcome.TheVariants.{NoLane}
use Rattle.dn_outcomes.specs.Starts.{session_at, route_in, starts, start_unless, start_beside, start, routes, refresh_of, refresh}
use Rattle.dn_outcomes.specs.Does.{tells_unless, tells}
use Rattle.dn_outcomes.specs.Going.{goes_on}
use Rattle.dn_outcomes.specs.Sound.{IsCallOf, load_of, AreCalls, IsWorld}
use Rattle.dn_outcomes.proofs.Facts.{loads_for, loading, LoadsFor, route_low, may_name_lane}
use Rattle.dn_outcomes.proofs.Goes.{AreOthers, IsBeside, others_of, others_load}
use Rattle.dn_outcomes.proofs.Callers.{numbered_others, told_kept, routed_kept, first_begins, further_begins, begun_call}
use Rattle.dn_outcomes.proofs.Starts.{starts_kept, routes_kept}

-- What sessions do keeps a world.

-- ---- lanes that are named
some_lane : (route : ℕ) → route ≤ 63 → (route == 0) ≡ false → IsPlace route
some_lane zero h e = absurd (cc e)
some_lane (suc n) h e = (omega arith, h)

by_route_lane : (route : ℕ) → route ≤ 63 → IsLaneOrNone (by_route route)
by_route_lane route h = by_test (route == 0) refl where
  by_test : (b : Bool) → (route == 0) ≡ b → IsLaneOrNone (if b then None else Some route)
  by_test true e = tt
  by_test false e = some_lane route h e

named_or_lane : (named by : Option ℕ) → IsLaneOrNone named → IsLaneOrNone by → IsLaneOrNone (named_or named by)
named_or_lane None by h x = x
named_or_lane (Some lane) by h x = h

at_first_lane : (named : Option ℕ) (route : ℕ) → IsLaneOrNone named → route ≤ 63 → IsLaneOrNone (at_first named route)
at_first_lane named route h low = by_test (route == 0) refl where
  by_test : (b : Bool) → (route == 0) ≡ b → IsLaneOrNone (if b then None else named_or named (Some route))
  by_test true e = tt
  by_test false e = named_or_lane named (Some route) h (some_lane route low e)

-- ---- a session starts a call
record MayStart (w : World) (s : ℕ) (named : Option ℕ) (call : Call) : Type 0 where
  world : IsWorld w
  session : IsSession s
  fits : IsCall call
  lane : IsLaneOrNone named
  free : call_of w.waiting s ≡ None
  unclosed : w.machine.callers.closed s ≡ false

starts_so : (w : World) (s : ℕ) (named : Option ℕ) (call : Call) → MayStart w s named call → IsWorld (starts (with_event w (Numbers s)) s named call).world
starts_so w s named call h =
    let v : World = with_event w (Numbers s) in
    let c : Callers = w.machine.callers in
    let machine : IsSound v.segments v.machine = sound w.segments w.machine (Numbers s) h.world.machine tt in
    let view : SessionView = view_of (session_at v s) (key_of call) in
    let is : view.session ≡ s = machine.at.callers.numbers s h.session in
    let route : ℕ = route_in (session_at v s) (slot_of (key_of call)) in
    let low : route ≤ 63 = route_low (slice_index (session_at v s).routes (slot_of (key_of call))) in
    let others : AreOthers s v.waiting v.machine.callers v.machine.loads = numbered_others s w.waiting c w.machine.loads (others_of s w.waiting c w.machine.loads h.world.calls) in
    let beside : IsBeside s v = record { machine = machine; others = others; none = λ i. h.world.calls.loads_are s i ∙ ap load_of h.free; made = h.world.made; live = h.world.live } in
    let session : IsSession view.session = subst IsSession (sym is) h.session in
    let free : call_of v.waiting view.session ≡ None = ap (call_of w.waiting) is ∙ h.free in
    subst (λ k. IsWorld (goes_on (with_waiting v (started v.waiting call view named route)) k (course_to (at_first named route)))) is
    (starts_kept v call view named route (record {
      beside = subst (λ k. IsBeside k v) (sym is) beside;
      waiting = h.world.waiting;
      asked = h.world.asked;
      session = session;
      free = free;
      fresh = λ place. (
          let x : OpenCall = record { number = view.number; call = call; refused = 0; place = place } in
          let P : ℕ → Type 0 = λ k. IsCallOf v.machine.callers k x in
          subst P (sym is) (begun_call c s x h.world.machine.at.callers h.session h.unclosed refl h.fits));
      may = first_begins c s (key_of call) h.world.machine.at.callers h.session h.unclosed (others.callers s h.session);
    }) (at_first_lane named route h.lane low) (started_sound w.waiting call view named route h.world.waiting (session.least, session.most) free h.lane low))

pub start_kept : (w : World) (s : ℕ) (named : Option ℕ) (call : Call) → IsWorld w → IsSession s → IsCall call → IsWorld (start w s named call).world
start_kept w s named call h i fits = by_name (may_name w named) refl where
  by_closed : IsLaneOrNone named → call_of w.waiting s ≡ None → (b : Bool) → w.machine.callers.closed s ≡ b → IsWorld (start_unless w s named call b).world
  by_closed lane free true e = h
  by_closed lane free false e = starts_so w s named call (record { world = h; session = i; fits = fits; lane = lane; free = free; unclosed = e })

  by_call : IsLaneOrNone named → (o : Option OpenCall) → call_of w.waiting s ≡ o → IsWorld (start_beside w s named call o).world
  by_call lane None e = by_closed lane e (w.machine.callers.closed s) refl
  by_call lane (Some c) e = h

  by_name : (b : Bool) → may_name w named ≡ b → IsWorld (if b then start_beside w s named call (call_of w.waiting s) else done w NoLane).world
  by_name true e = by_call (may_name_lane w named h e) (call_of w.waiting s) refl
  by_name false e = h

-- ---- it loads a deed
routes_so : (w : World) (s slot : ℕ) (c : OpenCall) → IsWorld w → IsSession s → w.machine.loads s ≡ Some slot → LoadsFor w s slot c
    → IsWorld (routes (record w { machine = loaded_machine w.machine s (Some slot) }) s (Some c)).world
routes_so w s slot c h i e f =
    let m : Machine = loaded_machine w.machine s (Some slot) in
    let word : ℕ = found w.machine (Load (deed_at slot)) in
    let v : World = record w { machine = m } in
    let machine : IsSound v.segments v.machine =
    subst (λ (x : Machine). IsSound w.segments x) (ap (loaded_machine w.machine s) e) (sound w.segments w.machine (Acts (Session s)) h.machine tt) in
    let view : SessionView = view_of (session_at v s) (key_of c.call) in
    let is : view.session ≡ s = machine.at.callers.numbers s i in
    let route : ℕ = route_in (session_at v s) (slot_of (key_of c.call)) in
    let low : route ≤ 63 = route_low (slice_index (session_at v s).routes (slot_of (key_of c.call))) in
    let calls : AreCalls w.waiting v.machine.callers w.machine.loads = routed_kept s slot word w.waiting w.machine.callers w.machine.loads h.calls in
    let beside : IsBeside s v = record {
      machine = machine;
      others = others_load s w.waiting v.machine.callers w.machine.loads None (others_of s w.waiting v.machine.callers w.machine.loads calls);
      none = λ j. at_same w.machine.loads s None s refl;
      made = h.made;
      live = h.live;
    } in
    let session : IsSession view.session = subst IsSession (sym is) i in
    let there : call_of w.waiting view.session ≡ Some c = ap (call_of w.waiting) is ∙ f.is in
    let loads : IsLoading (call_of w.waiting view.session) = subst (λ k. IsLoading (call_of w.waiting k)) (sym is) (loading w s slot h i e) in
    let own : IsCallOf v.machine.callers s c = calls.calls s c i f.is in
    subst (λ k. IsWorld (goes_on (with_waiting v (loaded v.waiting view route)) k (course_loaded (Some c) (after_load (named_in (Some c)) route)))) is
    (routes_kept v view c route (record {
      beside = subst (λ k. IsBeside k v) (sym is) beside;
      waiting = h.waiting;
      asked = h.asked;
      session = session;
      is = there;
      loads = loads;
      call = (let P : ℕ → Type 0 = λ k. IsCallOf v.machine.callers k c in subst P (sym is) own);
      may = further_begins v.machine.callers s (key_of c.call) c machine.at.callers i own (calls.callers s i);
    }) (named_or_lane (named_in (Some c)) (by_route route) (subst (λ x. IsLaneOrNone (named_in x)) there (named_lane (call_of w.waiting view.session) (h.waiting.open_calls view.session) loads)) (by_route_lane route low))
    (loaded_sound w.waiting view route h.waiting (session.least, session.most) loads (subst (Shows view) (sym there) own.number) low))

pub refresh_kept : (w : World) (s : ℕ) → IsWorld w → IsSession s → IsWorld (refresh w s).world
refresh_kept w s h i = by_load (w.machine.loads s) refl where
  by_load : (o : Option ℕ) → w.machine.loads s ≡ o → IsWorld (refresh_of w s o).world
  by_load None e = h
  by_load (Some slot) e =
      let f = loads_for w s slot h i e in
      subst (λ (x : Machine). IsWorld (routes (record w { machine = x }) s (call_of w.waiting s)).world) (sym (ap (loaded_machine w.machine s) e))
      (subst (λ o. IsWorld (routes (record w { machine = loaded_machine w.machine s (Some slot) }) s o).world) (sym f.1.is) (routes_so w s slot f.0 h i e f.1))

-- ---- it is told another one's last position
pub tells_kept : (w : World) (s t : ℕ) → IsWorld w → IsSession s → IsSession t → IsWorld (tells w s t).world
tells_kept w s t h i j = by_closed (w.machine.callers.closed t) refl where
  by_closed : (b : Bool) → w.machine.callers.closed t ≡ b → IsWorld (tells_unless w s t b).world
  by_closed true e = h
  by_closed false e = record {
    machine = sound w.segments w.machine (Tells t (session_at w s).last) h.machine (j, e);
    waiting = h.waiting;
    calls = told_kept t (session_at w s).last w.waiting w.machine.callers w.machine.loads h.machine.at.callers j (h.calls.callers s i).stamp h.calls;
    asked = h.asked;
    made = h.made;
    live = h.live;
  }
