use Rattle.std.proofs.Common.{ℕ, ◌≡◌, ◌≢◌, inl, inr, Option, Some, None, Contains, refl, sym, ◌∙◌, ap, subst}
use Rattle.std.proofs.lemmas.Bool.{cases_eq}
use Rattle.dn_hist.specs.Calls.{key_of}
use Rattle.dn_hist.specs.declared.receipts.SessionView.{SessionView}
use Rattle.dn_model.specs.Regions.{IsLane}
use Rattle.dn_model.proofs.HashLaws.{slot_below}
use Rattle.dn_store.specs.State.{with_at}
use Rattle.dn_store.proofs.At.{at_same, at_other}
use Rattle.dn_tend.specs.declared.tasks.Task.{Task}
use Rattle.dn_lane.specs.State.{LaneState}
use Rattle.dn_lane.specs.declared.asked.Asked.{Asked}
use Rattle.dn_lane.specs.declared.asked.Asked.TheVariants as asked
use Rattle.dn_lanes.specs.Begun.{IsOwnTask}
use Rattle.dn_callers.specs.Callers.{Callers}
use Rattle.dn_callers.specs.Sessions.{IsSession}
use Rattle.dn_machine.specs.Events.{Loads}
use Rattle.dn_machine.specs.Given.{IsOfSession}
use Rattle.dn_machine.specs.Sound.{IsSound}
use Rattle.dn_machine.proofs.Kept.{sound}
use Rattle.dn_waiting.specs.Queues.{AtLane}
use Rattle.dn_waiting.specs.Sound.{IsSound as AreSound}
use Rattle.dn_waiting.specs.State.{WaitingState, call_of, at_lane}
use Rattle.dn_waiting.specs.declared.calls.Course.{Course}
use Rattle.dn_waiting.specs.declared.calls.Course.TheVariants as course
use Rattle.dn_waiting.specs.declared.calls.OpenCall.{OpenCall}
use Rattle.dn_outcomes.specs.State.{World, with_waiting}
use Rattle.dn_outcomes.specs.Going.{called, slot_at, goes_on}
use Rattle.dn_outcomes.specs.Sound.{IsCaller, IsCallOf, MayBegin, load_of, AreCalls, IsAskedBy, IsPlanOf, view_at, AreAsked, AreMade, AreLive, IsWorld}
use Rattle.dn_outcomes.proofs.Waits.{Changed}

-- A call goes on, and with it the world.

-- ---- calls and their sessions, but for the call of session s
pub record AreOthers (s : ℕ) (w : WaitingState) (c : Callers) (loads : ℕ → Option ℕ) : Type 0 where
  pub callers : (k : ℕ) → IsSession k → IsCaller (c.sessions k)
  pub calls : (k : ℕ) (x : OpenCall) → IsSession k → k ≢ s → call_of w k ≡ Some x → IsCallOf c k x
  pub loads_are : (k : ℕ) → IsSession k → k ≢ s → loads k ≡ load_of (call_of w k)
  pub queued : (n : ℕ) (view : SessionView) → IsLane n → Contains (at_lane w n).queue view → MayBegin c view
  pub tasks : (n : ℕ) (t : Task) → IsLane n → Contains (at_lane w n).tasks t → IsOwnTask t

-- and of that one, where the call is this and the lane has this
pub record IsOwn (s l : ℕ) (c : Callers) (load : Option ℕ) (o : Option OpenCall) (q : AtLane) : Type 0 where
  pub call : (x : OpenCall) → IsSession s → o ≡ Some x → IsCallOf c s x
  pub load_is : IsSession s → load ≡ load_of o
  pub queued : (view : SessionView) → IsLane l → Contains q.queue view → MayBegin c view
  pub tasks : (t : Task) → IsLane l → Contains q.tasks t → IsOwnTask t

pub others_of : (s : ℕ) (w : WaitingState) (c : Callers) (loads : ℕ → Option ℕ) → AreCalls w c loads → AreOthers s w c loads
others_of s w c loads h = record {
  callers = h.callers;
  calls = λ k x i d is. h.calls k x i is;
  loads_are = λ k i d. h.loads_are k i;
  queued = h.queued;
  tasks = h.tasks;
}

pub calls_after : (w v : WaitingState) (s l : ℕ) (o : Option OpenCall) (q : AtLane) (c : Callers) (loads : ℕ → Option ℕ) → Changed w v s l o q → AreOthers s w c loads → IsOwn s l c (loads s) o q → AreCalls v c loads
calls_after w v s l o q c loads ch h own = record {
  callers = h.callers;
  calls = λ k x i is. elim (cases_eq k s) [
    | inl e ↦ let P : ℕ → Type 0 = λ j. IsCallOf c j x in subst P (sym e) (own.call x (subst IsSession e i) (sym ch.call ∙ ap (call_of v) (sym e) ∙ is))
    | inr d ↦ h.calls k x i d (sym (ch.calls k d) ∙ is)
  ];
  loads_are = λ k i. elim (cases_eq k s) [
    | inl e ↦ ap loads e ∙ own.load_is (subst IsSession e i) ∙ ap load_of (sym ch.call ∙ ap (call_of v) (sym e))
    | inr d ↦ h.loads_are k i d ∙ ap load_of (sym (ch.calls k d))
  ];
  queued = λ n view lane has. elim (cases_eq n l) [
    | inl e ↦ own.queued view (subst IsLane e lane) (subst (λ (y : AtLane). Contains y.queue view) (ap (at_lane v) e ∙ ch.at) has)
    | inr d ↦ h.queued n view lane (subst (λ (y : AtLane). Contains y.queue view) (ch.lanes n d) has)
  ];
  tasks = λ n t lane has. elim (cases_eq n l) [
    | inl e ↦ own.tasks t (subst IsLane e lane) (subst (λ (y : AtLane). Contains y.tasks t) (ap (at_lane v) e ∙ ch.at) has)
    | inr d ↦ h.tasks n t lane (subst (λ (y : AtLane). Contains y.tasks t) (ch.lanes n d) has)
  ];
}

pub others_load : (s : ℕ) (w : WaitingState) (c : Callers) (loads : ℕ → Option ℕ) (now : Option ℕ) → AreOthers s w c loads → AreOthers s w c (with_at loads s now)
others_load s w c loads now h = record {
  callers = h.callers;
  calls = h.calls;
  loads_are = λ k i d. at_other loads s now k d ∙ h.loads_are k i d;
  queued = h.queued;
  tasks = h.tasks;
}

-- ---- what lanes were asked
-- the call of the session that changes is still the same, or no lane has it
pub asked_kept : (w v : WaitingState) (s l : ℕ) (o : Option OpenCall) (q : AtLane) (a : Asked) → Changed w v s l o q → (IsOfSession s a → called o ≡ called (call_of w s)) → IsAskedBy w a → IsAskedBy v a
asked_kept w v s l o q asked.Nothing ch same h = tt
asked_kept w v s l o q (asked.Call call view room) ch same h = elim (cases_eq view.session s) [
  | inl e ↦ ap called (ap (call_of v) e ∙ ch.call) ∙ same e ∙ ap (λ k. called (call_of w k)) (sym e) ∙ h
  | inr d ↦ ap called (ch.calls view.session d) ∙ h
]
asked_kept w v s l o q asked.Task ch same h = tt

-- but for lane l
pub record AskedBeside (l : ℕ) (w : WaitingState) (lanes : ℕ → Option LaneState) : Type 0 where
  pub begun : (n : ℕ) → IsLane n → n ≢ l → (at_lane w n).begun ≡ view_at (lanes n)
  pub calls : (n : ℕ) (x : LaneState) → IsLane n → lanes n ≡ Some x → IsAskedBy w x.asked
  pub plans : (n : ℕ) (x : LaneState) → IsLane n → lanes n ≡ Some x → IsPlanOf x.asked x.mode

pub asked_beside : (l : ℕ) (w : WaitingState) (lanes : ℕ → Option LaneState) → AreAsked w lanes → AskedBeside l w lanes
asked_beside l w lanes h = record { begun = λ n lane d. h.begun n lane; calls = h.calls; plans = h.plans }

pub asked_after : (w v : WaitingState) (s l : ℕ) (o : Option OpenCall) (q : AtLane) (lanes : ℕ → Option LaneState) → Changed w v s l o q → AskedBeside l w lanes
    → ((n : ℕ) (x : LaneState) → IsLane n → lanes n ≡ Some x → IsOfSession s x.asked → called o ≡ called (call_of w s)) → (IsLane l → q.begun ≡ view_at (lanes l)) → AreAsked v lanes
asked_after w v s l o q lanes ch h same own = record {
  begun = λ n lane. elim (cases_eq n l) [
    | inl e ↦ ap (λ (y : AtLane). y.begun) (ap (at_lane v) e ∙ ch.at) ∙ own (subst IsLane e lane) ∙ ap (λ k. view_at (lanes k)) (sym e)
    | inr d ↦ ap (λ (y : AtLane). y.begun) (ch.lanes n d) ∙ h.begun n lane d
  ];
  calls = λ n x lane is. asked_kept w v s l o q x.asked ch (same n x lane is) (h.calls n x lane is);
  plans = h.plans;
}

-- ---- the world, but for the call of session s, which has no load to make
pub record IsBeside (s : ℕ) (w : World) : Type 0 where
  pub machine : IsSound w.segments w.machine
  pub others : AreOthers s w.waiting w.machine.callers w.machine.loads
  pub none : IsSession s → w.machine.loads s ≡ None
  pub made : AreMade w.made w.machine.mergers
  pub live : AreLive w.made w.live

-- what is loaded next by this course
abbrev pub load_next : Course → Option OpenCall → Option ℕ
load_next course.Load o = Some (slot_at o)
load_next (course.Wait lane) o = None
load_next course.Answered o = None
load_next course.GivenUp o = None

pub record Goes (w : World) (v : WaitingState) (s l : ℕ) (o : Option OpenCall) (q : AtLane) (to : Course) : Type 0 where
  pub beside : IsBeside s w
  pub waiting : AreSound v
  pub changed : Changed w.waiting v s l o q
  pub asked : AreAsked v w.machine.lanes
  pub call : (x : OpenCall) → IsSession s → o ≡ Some x → IsCallOf w.machine.callers s x
  pub queued : (view : SessionView) → IsLane l → Contains q.queue view → MayBegin w.machine.callers view
  pub tasks : (t : Task) → IsLane l → Contains q.tasks t → IsOwnTask t
  pub course : load_of o ≡ load_next to o

goes_none : (w : World) (v : WaitingState) (s l : ℕ) (o : Option OpenCall) (q : AtLane) (to : Course) → Goes w v s l o q to → load_next to o ≡ None → IsWorld (with_waiting w v)
goes_none w v s l o q to g e = record {
  machine = g.beside.machine;
  waiting = g.waiting;
  calls = calls_after w.waiting v s l o q w.machine.callers w.machine.loads g.changed g.beside.others
      (record { call = g.call; load_is = λ i. g.beside.none i ∙ sym (g.course ∙ e); queued = g.queued; tasks = g.tasks });
  asked = g.asked;
  made = g.beside.made;
  live = g.beside.live;
}

pub goes : (w : World) (v : WaitingState) (s l : ℕ) (o : Option OpenCall) (q : AtLane) (to : Course) → Goes w v s l o q to → IsWorld (goes_on (with_waiting w v) s to)
goes w v s l o q course.Load g =
    let slot : ℕ = slot_at (call_of v s) in
    let loads : ℕ → Option ℕ = with_at w.machine.loads s (Some slot) in record {
      machine = sound w.segments w.machine (Loads s slot) g.beside.machine (slot_below (key_of (called (call_of v s))));
      waiting = g.waiting;
      calls = calls_after w.waiting v s l o q w.machine.callers loads g.changed
          (others_load s w.waiting w.machine.callers w.machine.loads (Some slot) g.beside.others)
          (record {
            call = g.call;
            load_is = λ i. at_same w.machine.loads s (Some slot) s refl ∙ ap (λ x. Some (slot_at x)) g.changed.call ∙ sym g.course;
            queued = g.queued;
            tasks = g.tasks;
          });
      asked = g.asked;
      made = g.beside.made;
      live = g.beside.live;
    }
goes w v s l o q (course.Wait lane) g = goes_none w v s l o q (course.Wait lane) g refl
goes w v s l o q course.Answered g = goes_none w v s l o q course.Answered g refl
goes w v s l o q course.GivenUp g = goes_none w v s l o q course.GivenUp g refl
