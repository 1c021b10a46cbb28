use Rattle.std.proofs.Common.{ℕ, ◌≡◌, ◌≢◌, ◌<◌, [], Option, Some, None, length, refl, sym, ◌∙◌, ap, subst}
use Rattle.std.proofs.lemmas.List.{get_or-set_same, get_or-set_other}
use Rattle.dn_hist.specs.declared.calls.Call.{Call}
use Rattle.dn_hist.specs.declared.receipts.SessionView.{SessionView}
use Rattle.dn_tend.specs.declared.tasks.Task.{Task}
use Rattle.dn_waiting.specs.Attempts.{placed, opened, queued, settled, settled_of, answered}
use Rattle.dn_waiting.specs.Queues.{AtLane, idle, with_attempt}
use Rattle.dn_waiting.specs.State.{WaitingState, call_of, at_lane, with_call, with_lane}
use Rattle.dn_waiting.specs.Turns.{left_of, left_at, taken, taken_up, next_at}
use Rattle.dn_waiting.specs.declared.calls.AttemptEnd.{AttemptEnd}
use Rattle.dn_waiting.specs.declared.calls.Next.TheVariants.{Tend, Try}
use Rattle.dn_waiting.specs.declared.calls.OpenCall.{OpenCall}
use Rattle.dn_waiting.specs.declared.calls.Place.TheVariants.{Loading, Queued, Begun}
use Rattle.dn_waiting.proofs.Steps.{stepped}
use Rattle.dn_outcomes.proofs.Facts.{IsFirst, IsFirstTask}

-- What changes of all that waits: the call of one session, and what there is at one lane.

pub record Changed (w v : WaitingState) (s l : ℕ) (o : Option OpenCall) (q : AtLane) : Type 0 where
  pub call : call_of v s ≡ o
  pub calls : (k : ℕ) → k ≢ s → call_of v k ≡ call_of w k
  pub at : at_lane v l ≡ q
  pub lanes : (m : ℕ) → m ≢ l → at_lane v m ≡ at_lane w m

pub both_changed : (w : WaitingState) (s l : ℕ) (o : Option OpenCall) (q : AtLane) → s < length w.calls → l < length w.lanes → Changed w (stepped w s l o q) s l o q
both_changed w s l o q h i = record {
  call = get_or-set_same w.calls s o None h;
  calls = λ k d. get_or-set_other w.calls s k o None d;
  at = get_or-set_same w.lanes l q idle i;
  lanes = λ m d. get_or-set_other w.lanes l m q idle d;
}

pub call_changed : (w : WaitingState) (s l : ℕ) (o : Option OpenCall) → s < length w.calls → Changed w (with_call w s o) s l o (at_lane w l)
call_changed w s l o h = record {
  call = get_or-set_same w.calls s o None h;
  calls = λ k d. get_or-set_other w.calls s k o None d;
  at = refl;
  lanes = λ m d. refl;
}

pub lane_changed : (w : WaitingState) (s l : ℕ) (q : AtLane) → l < length w.lanes → Changed w (with_lane w l q) s l (call_of w s) q
lane_changed w s l q i = record {
  call = refl;
  calls = λ k d. refl;
  at = get_or-set_same w.lanes l q idle i;
  lanes = λ m d. get_or-set_other w.lanes l m q idle d;
}

pub changed_then : (w u v : WaitingState) (s l : ℕ) (o p : Option OpenCall) (q r : AtLane) → Changed w u s l o q → Changed u v s l p r → Changed w v s l p r
changed_then w u v s l o p q r a b = record {
  call = b.call;
  calls = λ k d. b.calls k d ∙ a.calls k d;
  at = b.at;
  lanes = λ m d. b.lanes m d ∙ a.lanes m d;
}

-- ---- a call begins, and its attempt waits at once
abbrev pub new_call : SessionView → Call → Option ℕ → OpenCall
new_call view call named = record { number = view.number; call = call; refused = 0; place = Loading named }

pub opened_changed : (w : WaitingState) (call : Call) (view : SessionView) (named : Option ℕ) (l : ℕ) → view.session < length w.calls
    → Changed w (opened w call view named) view.session l (Some (new_call view call named)) (at_lane w l)
opened_changed w call view named l h = call_changed w view.session l (Some (new_call view call named)) h

pub queued_changed : (w : WaitingState) (view : SessionView) (l : ℕ) (o : Option OpenCall) → call_of w view.session ≡ o → view.session < length w.calls → l < length w.lanes
    → Changed w (queued w view l) view.session l (placed o (Queued l)) (with_attempt (at_lane w l) view)
queued_changed w view l o e h i =
    subst (λ x. Changed w (queued w view l) view.session l (placed x (Queued l)) (with_attempt (at_lane w l) view)) e
    (both_changed w view.session l (placed (call_of w view.session) (Queued l)) (with_attempt (at_lane w l) view) h i)

-- ---- an attempt is taken up
pub left_first : (at : AtLane) (view : SessionView) (f : IsFirst at view) → left_at at ≡ record at { queue = f.rest; begun = Some view }
left_first at view f = ap (λ ts. left_of at ts at.queue) f.no_tasks ∙ ap (left_of at []) f.queue_is

pub taken_changed : (w : WaitingState) (l : ℕ) (view : SessionView) (f : IsFirst (at_lane w l) view) → next_at (at_lane w l) ≡ Try view → view.session < length w.calls → l < length w.lanes
    → Changed w (taken_up w l) view.session l (placed (call_of w view.session) (Begun l)) (record (at_lane w l) { queue = f.rest; begun = Some view })
taken_changed w l view f e h i =
    let q : AtLane = record (at_lane w l) { queue = f.rest; begun = Some view } in
    let o : Option OpenCall = placed (call_of w view.session) (Begun l) in
    subst (λ n. Changed w (taken w l n) view.session l o q) (sym e)
    (subst (λ x. Changed w (stepped w view.session l o x) view.session l o q) (sym (left_first (at_lane w l) view f))
    (both_changed w view.session l o q h i))

-- ---- a task is taken up
pub left_task : (at : AtLane) (task : Task) (f : IsFirstTask at task) → left_at at ≡ record at { tasks = f.rest }
left_task at task f = ap (λ ts. left_of at ts at.queue) f.tasks_are

pub tended_changed : (w : WaitingState) (s l : ℕ) (task : Task) (f : IsFirstTask (at_lane w l) task) → next_at (at_lane w l) ≡ Tend task → l < length w.lanes
    → Changed w (taken_up w l) s l (call_of w s) (record (at_lane w l) { tasks = f.rest })
tended_changed w s l task f e i =
    let q : AtLane = record (at_lane w l) { tasks = f.rest } in
    subst (λ n. Changed w (taken w l n) s l (call_of w s) q) (sym e)
    (subst (λ x. Changed w (with_lane w l x) s l (call_of w s) q) (sym (left_task (at_lane w l) task f)) (lane_changed w s l q i))

-- ---- an attempt ends
pub answered_is : (w : WaitingState) (l : ℕ) (end : AttemptEnd) (view : SessionView) → (at_lane w l).begun ≡ Some view
    → answered w l end ≡ stepped w view.session l (settled end (call_of w view.session)) (record (at_lane w l) { begun = None })
answered_is w l end view e = ap (settled_of w l end) e

pub answered_changed : (w : WaitingState) (l : ℕ) (end : AttemptEnd) (view : SessionView) → (at_lane w l).begun ≡ Some view → view.session < length w.calls → l < length w.lanes
    → Changed w (answered w l end) view.session l (settled end (call_of w view.session)) (record (at_lane w l) { begun = None })
answered_changed w l end view e h i =
    let q : AtLane = record (at_lane w l) { begun = None } in
    let o : Option OpenCall = settled end (call_of w view.session) in
    subst (λ x. Changed w x view.session l o q) (sym (answered_is w l end view e)) (both_changed w view.session l o q h i)
