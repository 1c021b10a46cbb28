use Rattle.std.proofs.Common.{ℕ, ◌≡◌, ◌+◌, ◌<◌, ◌≤◌, ◌==◌, Bool, true, false, List, [], ◌∷◌, ◌++◌, zero, suc, cond, Option, Some, None, map, length, refl, sym, ap, subst, ◌∙◌, arith}
use Rattle.std.proofs.lemmas.List.{get_or-set_same}
use Rattle.dn_hist.specs.declared.calls.Call.{Call}
use Rattle.dn_hist.specs.declared.receipts.SessionView.{SessionView}
use Rattle.dn_tend.specs.declared.tasks.Task.{Task}
use Rattle.dn_tend.specs.declared.tasks.Task.TheVariants.{Release}
use Rattle.dn_waiting.specs.declared.calls.OpenCall.{OpenCall}
use Rattle.dn_waiting.specs.declared.calls.Place.{Place}
use Rattle.dn_waiting.specs.declared.calls.Place.TheVariants.{Loading, Queued, Begun}
use Rattle.dn_waiting.specs.declared.calls.AttemptEnd.{AttemptEnd}
use Rattle.dn_waiting.specs.declared.calls.Next.TheVariants.{Tend, Try}
use Rattle.dn_waiting.specs.Queues.{AtLane, is_queued}
use Rattle.dn_waiting.specs.State.{WaitingState, call_of, at_lane, with_lane, nothing_waits}
use Rattle.dn_waiting.specs.Attempts.{placed, by_route, named_or, at_first, after_load, named_at, named_in, opened, begun_to, started, loaded_to, loaded, unloaded, settled_of, answered}
use Rattle.dn_waiting.specs.Turns.{next_of, left_of, left_at, taken, taken_up, tasked, released, turns}
use Rattle.dn_waiting.specs.Sound.{IsSound, IsSession, IsLane, IsLaneOrNone, IsLoading, IsAtLoad, IsOpenCall, HasLane, Shows}
use Rattle.dn_waiting.proofs.Steps.{stepped}
use Rattle.dn_waiting.proofs.Kept.{opened_sound, queued_sound, refused_sound, tasks_sound, begun_sound, settled_sound}
use Rattle.dn_waiting.proofs.Stopping.{none_sound}

-- Each change that a call makes keeps all that waits sound; and what a lane takes up.

pub nothing_sound : IsSound nothing_waits
unfolding nothing_waits
nothing_sound = none_sound 1001 64 refl refl

-- ---- a call begins
opened_call : (w : WaitingState) (call : Call) (view : SessionView) (named : Option ℕ) → IsSound w → IsSession view.session
    → call_of (opened w call view named) view.session ≡ Some (record { number = view.number; call = call; refused = 0; place = Loading named })
opened_call w call view named sound h = get_or-set_same w.calls view.session (Some (record { number = view.number; call = call; refused = 0; place = Loading named })) None (omega (arith, sound.sessions, h.1))

begun_to_sound : (w : WaitingState) (view : SessionView) (to : Option ℕ) → IsSound w → IsSession view.session → IsLoading (call_of w view.session) → Shows view (call_of w view.session) → IsLaneOrNone to
    → IsSound (begun_to w view to)
begun_to_sound w view None sound h loading shows there = sound
begun_to_sound w view (Some lane) sound h loading shows there = queued_sound w view lane sound h.1 (omega (arith, there.1)) loading shows

named_or_lane : (named by : Option ℕ) → IsLaneOrNone named → IsLaneOrNone by → IsLaneOrNone (named_or named by)
named_or_lane None by h x = x
named_or_lane (Some lane) by h x = h

some_route : (route : ℕ) → route ≤ 63 → (route == 0) ≡ false → IsLane route
some_route route h e = (least route e, h)
  where
    least : (n : ℕ) → (n == 0) ≡ false → 1 ≤ n
    least zero x = cc
    least (suc n) x = omega arith

at_first_lane : (named : Option ℕ) (route : ℕ) → IsLaneOrNone named → route ≤ 63 → IsLaneOrNone (at_first named route)
at_first_lane named route h x = by_test (route == 0) refl
  where
    by_test : (b : Bool) → (route == 0) ≡ b → IsLaneOrNone (cond b None (named_or named (Some route)))
    by_test true e = tt
    by_test false e = named_or_lane named (Some route) h (some_route route x e)

pub started_sound : (w : WaitingState) (call : Call) (view : SessionView) (named : Option ℕ) (route : ℕ) → IsSound w → IsSession view.session → call_of w view.session ≡ None → IsLaneOrNone named → route ≤ 63
    → IsSound (started w call view named route)
started_sound w call view named route sound h free lane most =
    let is = opened_call w call view named sound h in
    begun_to_sound (opened w call view named) view (at_first named route) (opened_sound w call view named sound h.1 free lane) h
    (subst IsLoading (sym is) tt) (subst (Shows view) (sym is) refl) (at_first_lane named route lane most)

-- ---- a load
named_lane_by : (p : Place) → HasLane p → IsAtLoad p → IsLaneOrNone (named_at p)
named_lane_by (Loading named) h x = h
named_lane_by (Queued lane) h x = tt
named_lane_by (Begun lane) h x = tt

pub named_lane : (o : Option OpenCall) → IsOpenCall o → IsLoading o → IsLaneOrNone (named_in o)
named_lane None h x = tt
named_lane (Some c) h x = named_lane_by c.place h.place x

by_route_lane : (route : ℕ) → route ≤ 63 → IsLaneOrNone (by_route route)
by_route_lane route h = by_test (route == 0) refl
  where
    by_test : (b : Bool) → (route == 0) ≡ b → IsLaneOrNone (cond b None (Some route))
    by_test true e = tt
    by_test false e = some_route route h e

loaded_to_sound : (w : WaitingState) (view : SessionView) (to : Option ℕ) → IsSound w → IsSession view.session → IsLoading (call_of w view.session) → Shows view (call_of w view.session) → IsLaneOrNone to
    → IsSound (loaded_to w view to)
loaded_to_sound w view None sound h loading shows there = refused_sound w view.session None sound h.1 loading tt
loaded_to_sound w view (Some lane) sound h loading shows there = queued_sound w view lane sound h.1 (omega (arith, there.1)) loading shows

pub loaded_sound : (w : WaitingState) (view : SessionView) (route : ℕ) → IsSound w → IsSession view.session → IsLoading (call_of w view.session) → Shows view (call_of w view.session) → route ≤ 63
    → IsSound (loaded w view route)
loaded_sound w view route sound h loading shows most =
    loaded_to_sound w view (after_load (named_in (call_of w view.session)) route) sound h loading shows
    (named_or_lane (named_in (call_of w view.session)) (by_route route) (named_lane (call_of w view.session) (sound.open_calls view.session) loading) (by_route_lane route most))

pub unloaded_sound : (w : WaitingState) (session : ℕ) → IsSound w → IsSession session → IsLoading (call_of w session) → IsSound (unloaded w session)
unloaded_sound w session sound h loading =
    refused_sound w session (named_in (call_of w session)) sound h.1 loading (named_lane (call_of w session) (sound.open_calls session) loading)

-- ---- an attempt ends
pub answered_sound : (w : WaitingState) (lane : ℕ) (end : AttemptEnd) → IsSound w → IsLane lane → IsSound (answered w lane end)
answered_sound w lane end sound h = by_begun (at_lane w lane).begun refl
  where
    by_begun : (b : Option SessionView) → (at_lane w lane).begun ≡ b → IsSound (settled_of w lane end b)
    by_begun None e = sound
    by_begun (Some v) e = settled_sound w lane v end sound (omega (arith, h.1)) e

-- ---- what a lane takes up
left_tasks : (q : AtLane) (task : Task) (tasks : List Task) → q.tasks ≡ task ∷ tasks → left_at q ≡ record q { tasks = tasks }
left_tasks q task tasks e = ap (λ ts. left_of q ts q.queue) e

left_queue : (q : AtLane) (v : SessionView) (rest : List SessionView) → q.tasks ≡ [] → q.queue ≡ v ∷ rest → left_at q ≡ record q { queue = rest; begun = Some v }
left_queue q v rest e f = ap (λ ts. left_of q ts q.queue) e ∙ ap (left_of q []) f

taken_by : (w : WaitingState) (lane : ℕ) (q : AtLane) (tasks : List Task) (queue : List SessionView) → IsSound w → lane < 64 → q ≡ at_lane w lane → q.begun ≡ None
    → q.tasks ≡ tasks → q.queue ≡ queue → IsSound (taken w lane (next_of tasks queue))
taken_by w lane q (task ∷ tasks) queue sound h is free e f =
    subst (λ (p : AtLane). IsSound (with_lane w lane p)) (sym (left_tasks (at_lane w lane) task tasks (ap (λ (p : AtLane). p.tasks) (sym is) ∙ e)))
    (tasks_sound w lane tasks sound h)
taken_by w lane q [] [] sound h is free e f = sound
taken_by w lane q [] (v ∷ rest) sound h is free e f =
    let queue : (at_lane w lane).queue ≡ v ∷ rest = ap (λ (p : AtLane). p.queue) (sym is) ∙ f in
    subst (λ (p : AtLane). IsSound (stepped w v.session lane (placed (call_of w v.session) (Begun lane)) p))
    (sym (left_queue (at_lane w lane) v rest (ap (λ (p : AtLane). p.tasks) (sym is) ∙ e) queue))
    (begun_sound w lane v rest sound h queue (ap (λ (p : AtLane). p.begun) (sym is) ∙ free))

pub taken_up_sound : (w : WaitingState) (lane : ℕ) → IsSound w → IsLane lane → (at_lane w lane).begun ≡ None → IsSound (taken_up w lane)
taken_up_sound w lane sound h free = taken_by w lane (at_lane w lane) (at_lane w lane).tasks (at_lane w lane).queue sound (omega (arith, h.1)) refl free refl refl

pub tasked_sound : (w : WaitingState) (lane : ℕ) (task : Task) → IsSound w → IsLane lane → IsSound (tasked w lane task)
tasked_sound w lane task sound h = tasks_sound w lane ((at_lane w lane).tasks ++ task ∷ []) sound (omega (arith, h.1))

pub released_sound : (w : WaitingState) (lane slot : ℕ) → IsSound w → IsLane lane → IsSound (released w lane slot)
released_sound w lane slot sound h = by_test (is_queued slot (at_lane w lane).tasks)
  where
    by_test : (b : Bool) → IsSound (cond b w (tasked w lane (Release slot)))
    by_test true = sound
    by_test false = tasked_sound w lane (Release slot) sound h

-- all tasks, and then all attempts, each in order
turns_by : (n : ℕ) (tasks : List Task) (queue : List SessionView) (begun : Option SessionView) → n ≡ length tasks + length queue
    → turns n (record { tasks = tasks; queue = queue; begun = begun }) ≡ map Tend tasks ++ map Try queue
turns_by zero [] [] begun e = refl
turns_by zero (task ∷ tasks) queue begun e = absurd (omega (arith, e))
turns_by zero [] (v ∷ queue) begun e = absurd (omega (arith, e))
turns_by (suc n) (task ∷ tasks) queue begun e = ap (λ xs. Tend task ∷ xs) (turns_by n tasks queue begun (omega (arith, e)))
turns_by (suc n) [] (v ∷ queue) begun e = ap (λ xs. Try v ∷ xs) (turns_by n [] queue (Some v) (omega (arith, e)))
turns_by (suc n) [] [] begun e = absurd (omega (arith, e))

pub all_turns : (at : AtLane) → turns (length at.tasks + length at.queue) at ≡ map Tend at.tasks ++ map Try at.queue
all_turns at = turns_by (length at.tasks + length at.queue) at.tasks at.queue at.begun refl
