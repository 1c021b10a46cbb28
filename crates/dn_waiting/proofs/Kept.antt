use Rattle.std.proofs.Common.{ℕ, ◌≡◌, ◌≢◌, ◌+◌, ◌<◌, ◌≤◌, ◌==◌, ◌⊎◌, inl, inr, Bool, true, false, List, [], ◌∷◌, ◌++◌, cond, Option, Some, None, set, refl, sym, ap, subst, ◌∙◌, arith, Contains}
use Rattle.std.proofs.lemmas.List.{set-get_or}
use Rattle.dn_hist.specs.declared.calls.Call.{Call}
use Rattle.dn_hist.specs.declared.receipts.SessionView.{SessionView}
use Rattle.dn_tend.specs.declared.tasks.Task.{Task}
use Rattle.dn_waiting.specs.declared.calls.OpenCall.{OpenCall}
use Rattle.dn_waiting.specs.declared.calls.Place.TheVariants.{Loading, Queued, Begun}
use Rattle.dn_waiting.specs.declared.calls.AttemptEnd.{AttemptEnd}
use Rattle.dn_waiting.specs.Queues.{AtLane, idle, with_attempt}
use Rattle.dn_waiting.specs.State.{WaitingState, call_of, at_lane, with_call, with_lane}
use Rattle.dn_waiting.specs.Attempts.{opened, queued, refused, placed, refused_once, settled}
use Rattle.dn_waiting.specs.Sound.{IsSound, IsOpenCall, IsLaneOrNone, IsLoading, Shows, how_often, is_of, waits_at, runs_at}
use Rattle.dn_waiting.proofs.Counts.{own_test, other_test, first_often, often_pushed_own, often_pushed_other, contained_pushed, contained_behind, contained_first}
use Rattle.dn_waiting.proofs.Steps.{Keeps, Step, stepped, step_sound}
use Rattle.dn_waiting.proofs.Ranges.{shown_inside}
use Rattle.dn_waiting.proofs.Places.{IsAway, none_away, loading_away, waits_only, waits_not_runs, runs_only, runs_not_waits, placed_keeps, placed_open, queued_runs, queued_own, queued_other, begun_waits, begun_own, begun_other, refused_away, refused_keeps, refused_open, settled_away, settled_keeps, settled_open}

-- Each change keeps all that waits sound.

-- ---- the call of a session alone, which neither was nor is in a queue or under way
away_step : (w : WaitingState) (s : ℕ) (c : Option OpenCall) → IsSound w → s < 1001 → IsAway (call_of w s) → IsAway c → IsOpenCall c → Keeps (call_of w s) c
    → Step w s 0 c (at_lane w 0)
away_step w s c sound h old new fits keeps = record {
  session = h;
  lane = omega arith;
  open_call = fits;
  keeps = keeps;
  own = sound.queues 0 s ∙ ap (λ b. cond b 1 0) (old.waits 0 ∙ sym (new.waits 0));
  others = λ k d. refl;
  own_begun = sound.begun 0 s ∙ (old.runs 0 ∙ sym (new.runs 0));
  others_begun = λ k d. refl;
  elsewhere = λ m d. new.waits m ∙ sym (old.waits m);
  elsewhere_begun = λ m d. new.runs m ∙ sym (old.runs m);
  views = λ u x. sound.numbers 0 u x;
  view = λ u x. sound.number 0 u x;
}

call_sound : (w : WaitingState) (s : ℕ) (c : Option OpenCall) → IsSound w → s < 1001 → IsAway (call_of w s) → IsAway c → IsOpenCall c → Keeps (call_of w s) c
    → IsSound (with_call w s c)
call_sound w s c sound h old new fits keeps =
    subst (λ (ls : List AtLane). IsSound (record { calls = set w.calls s c; lanes = ls })) (set-get_or w.lanes 0 idle)
    (step_sound w s 0 c (at_lane w 0) sound (away_step w s c sound h old new fits keeps))

none_keeps : (o : Option OpenCall) (c : OpenCall) → o ≡ None → Keeps o (Some c)
none_keeps None c e = λ u h. absurd h
none_keeps (Some d) c e = cc

pub opened_sound : (w : WaitingState) (call : Call) (view : SessionView) (named : Option ℕ) → IsSound w → view.session ≤ 1000 → call_of w view.session ≡ None → IsLaneOrNone named
    → IsSound (opened w call view named)
opened_sound w call view named sound h free lane =
    let c : OpenCall = record { number = view.number; call = call; refused = 0; place = Loading named } in
    call_sound w view.session (Some c) sound (omega (arith, h)) (subst IsAway (sym free) none_away)
    (record { waits = λ m. refl; runs = λ m. refl }) (record { refused = omega arith; place = lane })
    (none_keeps (call_of w view.session) c free)

pub refused_sound : (w : WaitingState) (s : ℕ) (named : Option ℕ) → IsSound w → s ≤ 1000 → IsLoading (call_of w s) → IsLaneOrNone named → IsSound (refused w s named)
refused_sound w s named sound h loading lane =
    call_sound w s (refused_once (call_of w s) named) sound (omega (arith, h)) (loading_away (call_of w s) loading)
    (refused_away (call_of w s) named) (refused_open (call_of w s) named lane) (refused_keeps (call_of w s) named)

-- ---- the tasks of a lane alone
same_keeps : (o : Option OpenCall) → Keeps o o
same_keeps None = tt
same_keeps (Some c) = λ u h. h

tasks_step : (w : WaitingState) (l : ℕ) (tasks : List Task) → IsSound w → l < 64 → Step w 0 l (call_of w 0) (record (at_lane w l) { tasks = tasks })
tasks_step w l tasks sound h = record {
  session = omega arith;
  lane = h;
  open_call = sound.open_calls 0;
  keeps = same_keeps (call_of w 0);
  own = sound.queues l 0;
  others = λ k d. refl;
  own_begun = sound.begun l 0;
  others_begun = λ k d. refl;
  elsewhere = λ m d. refl;
  elsewhere_begun = λ m d. refl;
  views = λ u x. sound.numbers l u x;
  view = λ u x. sound.number l u x;
}

pub tasks_sound : (w : WaitingState) (l : ℕ) (tasks : List Task) → IsSound w → l < 64 → IsSound (with_lane w l (record (at_lane w l) { tasks = tasks }))
tasks_sound w l tasks sound h =
    subst (λ (cs : List (Option OpenCall)). IsSound (record { calls = cs; lanes = set w.lanes l (record (at_lane w l) { tasks = tasks }) })) (set-get_or w.calls 0 None)
    (step_sound w 0 l (call_of w 0) (record (at_lane w l) { tasks = tasks }) sound (tasks_step w l tasks sound h))

-- ---- an attempt that is put in a queue
queued_step : (w : WaitingState) (view : SessionView) (l : ℕ) → IsSound w → view.session ≤ 1000 → l < 64 → IsLoading (call_of w view.session) → Shows view (call_of w view.session)
    → Step w view.session l (placed (call_of w view.session) (Queued l)) (with_attempt (at_lane w l) view)
queued_step w view l sound h there loading shows =
    let o : Option OpenCall = call_of w view.session in
    let away : IsAway o = loading_away o loading in
    let none : how_often view.session (at_lane w l).queue ≡ 0 = sound.queues l view.session ∙ ap (λ b. cond b 1 0) (away.waits l) in
    let one : how_often view.session ((at_lane w l).queue ++ view ∷ []) ≡ 1 = often_pushed_own (at_lane w l).queue view ∙ ap (λ n. n + 1) none in
    record {
      session = omega (arith, h);
      lane = there;
      open_call = placed_open o (Queued l) (sound.open_calls view.session) tt;
      keeps = placed_keeps o (Queued l);
      own = one ∙ ap (λ b. cond b 1 0) (sym (queued_own l o loading));
      others = λ k d. often_pushed_other k (at_lane w l).queue view d;
      own_begun = sound.begun l view.session ∙ (away.runs l ∙ sym (queued_runs l l o));
      others_begun = λ k d. refl;
      elsewhere = λ m d. queued_other l m o d ∙ sym (away.waits m);
      elsewhere_begun = λ m d. queued_runs l m o ∙ sym (away.runs m);
      views = λ u x. shown u (contained_pushed (at_lane w l).queue view u x);
      view = λ u x. sound.number l u x;
    }
  where
    shown : (u : SessionView) → Contains (at_lane w l).queue u ⊎ (u ≡ view) → Shows u (call_of w u.session)
    shown u (inl x) = sound.numbers l u x
    shown u (inr e) = subst (λ (v : SessionView). Shows v (call_of w v.session)) (sym e) shows

pub queued_sound : (w : WaitingState) (view : SessionView) (l : ℕ) → IsSound w → view.session ≤ 1000 → l < 64 → IsLoading (call_of w view.session) → Shows view (call_of w view.session)
    → IsSound (queued w view l)
queued_sound w view l sound h there loading shows =
    step_sound w view.session l (placed (call_of w view.session) (Queued l)) (with_attempt (at_lane w l) view) sound (queued_step w view l sound h there loading shows)

-- ---- an attempt that is taken up
pub waiting_of : (l : ℕ) (o : Option OpenCall) (n : ℕ) → n ≡ cond (waits_at l o) 1 0 → 1 ≤ n → waits_at l o ≡ true
waiting_of l o n e h = by_test (waits_at l o) e
  where
    by_test : (b : Bool) → n ≡ cond b 1 0 → b ≡ true
    by_test true x = refl
    by_test false x = absurd (omega (arith, x, h))

-- what there is at a lane whose first attempt is under way
abbrev pub first_begun : AtLane → SessionView → List SessionView → AtLane
first_begun q v rest = record q { queue = rest; begun = Some v }

once_first : (v : SessionView) (rest : List SessionView) (b : Bool) → how_often v.session (v ∷ rest) ≡ cond b 1 0 → how_often v.session rest ≡ 0
once_first v rest true h = omega (arith, h, ap (λ (t : Bool). cond {A = ℕ} t 1 0) (own_test v.session))
once_first v rest false h = omega (arith, h)

begun_step : (w : WaitingState) (l : ℕ) (v : SessionView) (rest : List SessionView) → IsSound w → v.session < 1001 → l < 64 → (at_lane w l).queue ≡ v ∷ rest → (at_lane w l).begun ≡ None
    → Step w v.session l (placed (call_of w v.session) (Begun l)) (first_begun (at_lane w l) v rest)
begun_step w l v rest sound h there queue free =
    let o : Option OpenCall = call_of w v.session in
    let often : how_often v.session (v ∷ rest) ≡ cond (waits_at l o) 1 0 = ap (how_often v.session) (sym queue) ∙ sound.queues l v.session in
    let waits : waits_at l o ≡ true = waiting_of l o (how_often v.session (v ∷ rest)) often (first_often v rest) in
    record {
      session = h;
      lane = there;
      open_call = placed_open o (Begun l) (sound.open_calls v.session) tt;
      keeps = placed_keeps o (Begun l);
      own = once_first v rest (waits_at l o) often ∙ ap (λ (b : Bool). cond {A = ℕ} b 1 0) (sym (begun_waits l l o));
      others = λ k d. others k d;
      own_begun = own_test v.session ∙ sym (begun_own l o waits);
      others_begun = λ k d. other_test v.session k (λ e. d (sym e)) ∙ sym (ap (is_of k) free);
      elsewhere = λ m d. begun_waits l m o ∙ sym (waits_only l m o waits d);
      elsewhere_begun = λ m d. begun_other l m o d ∙ sym (waits_not_runs l m o waits);
      views = λ u x. sound.numbers l u (subst (λ vs. Contains vs u) (sym queue) (contained_behind v rest u x));
      view = λ u x. shown u x;
    }
  where
    others : (k : ℕ) → k ≢ v.session → how_often k rest ≡ how_often k (at_lane w l).queue
    others k d =
        let apart : cond {A = ℕ} (v.session == k) 1 0 ≡ 0 = ap (λ (b : Bool). cond {A = ℕ} b 1 0) (other_test v.session k (λ e. d (sym e))) in
        let all : how_often k rest ≡ how_often k (v ∷ rest) = omega (arith, apart) in
        all ∙ ap (how_often k) (sym queue)

    shown : (u : SessionView) → Some v ≡ Some u → Shows u (call_of w u.session)
    shown u x =
        let same : v ≡ u = cc in
        subst (λ (p : SessionView). Shows p (call_of w p.session)) same (sound.numbers l v (subst (λ vs. Contains vs v) (sym queue) (contained_first v rest)))

pub begun_sound : (w : WaitingState) (l : ℕ) (v : SessionView) (rest : List SessionView) → IsSound w → l < 64 → (at_lane w l).queue ≡ v ∷ rest → (at_lane w l).begun ≡ None
    → IsSound (stepped w v.session l (placed (call_of w v.session) (Begun l)) (first_begun (at_lane w l) v rest))
begun_sound w l v rest sound there queue free =
    let shows : Shows v (call_of w v.session) = sound.numbers l v (subst (λ vs. Contains vs v) (sym queue) (contained_first v rest)) in
    step_sound w v.session l (placed (call_of w v.session) (Begun l)) (first_begun (at_lane w l) v rest) sound
    (begun_step w l v rest sound (shown_inside w v sound shows) there queue free)

-- ---- an attempt that ends
abbrev pub none_begun : AtLane → AtLane
none_begun q = record q { begun = None }

ended_step : (w : WaitingState) (l : ℕ) (v : SessionView) (c : Option OpenCall) → IsSound w → v.session < 1001 → l < 64 → (at_lane w l).begun ≡ Some v
    → IsAway c → IsOpenCall c → Keeps (call_of w v.session) c → Step w v.session l c (none_begun (at_lane w l))
ended_step w l v c sound h there begun away fits keeps =
    let o : Option OpenCall = call_of w v.session in
    let runs : runs_at l o ≡ true = sym (sound.begun l v.session) ∙ (ap (is_of v.session) begun ∙ own_test v.session) in
    record {
      session = h;
      lane = there;
      open_call = fits;
      keeps = keeps;
      own = sound.queues l v.session ∙ ap (λ (b : Bool). cond {A = ℕ} b 1 0) (runs_not_waits l l o runs ∙ sym (away.waits l));
      others = λ k d. refl;
      own_begun = sym (away.runs l);
      others_begun = λ k d. sym (ap (is_of k) begun ∙ other_test v.session k (λ e. d (sym e)));
      elsewhere = λ m d. away.waits m ∙ sym (runs_not_waits l m o runs);
      elsewhere_begun = λ m d. away.runs m ∙ sym (runs_only l m o runs d);
      views = λ u x. sound.numbers l u x;
      view = differ;
    }
  where
    differ : (u : SessionView) → (none_begun (at_lane w l)).begun ≡ Some u → Shows u (call_of w u.session)
    differ u x = cc

pub settled_sound : (w : WaitingState) (l : ℕ) (v : SessionView) (end : AttemptEnd) → IsSound w → l < 64 → (at_lane w l).begun ≡ Some v
    → IsSound (stepped w v.session l (settled end (call_of w v.session)) (none_begun (at_lane w l)))
settled_sound w l v end sound there begun =
    step_sound w v.session l (settled end (call_of w v.session)) (none_begun (at_lane w l)) sound
    (ended_step w l v (settled end (call_of w v.session)) sound (shown_inside w v sound (sound.number l v begun)) there begun
    (settled_away end (call_of w v.session)) (settled_open end (call_of w v.session)) (settled_keeps end (call_of w v.session)))
