use Rattle.std.proofs.Common.{ℕ, ◌≡◌, ◌≢◌, ◌+◌, ◌<◌, ◌≤◌, ◌==◌, ◌⊎◌, inl, inr, Bool, true, false, List, [], ◌∷◌, ◌++◌, cond, Option, Some, None, set, get_or, replicate, length, refl, sym, ap, subst, ◌∙◌, arith, Contains}
use Rattle.std.specs.Option.{option_to_list}
use Rattle.std.proofs.lemmas.Bool.{cases_eq, cases_lt}
use Rattle.std.proofs.lemmas.List.{get_or-set_same, get_or-set_other, length-set, get_or-replicate, get_or_past, length-replicate}
use Rattle.dn_hist.specs.declared.receipts.SessionView.{SessionView}
use Rattle.dn_waiting.specs.declared.calls.OpenCall.{OpenCall}
use Rattle.dn_waiting.specs.Queues.{AtLane, idle, attempts_at}
use Rattle.dn_waiting.specs.State.{WaitingState, call_of, at_lane}
use Rattle.dn_waiting.specs.Sound.{IsSound, IsOpenCall, Shows, how_often, is_of, waits_at, runs_at}
use Rattle.dn_waiting.specs.Stops.{without, stopped}
use Rattle.dn_waiting.proofs.Counts.{own_test, other_test, often_contained}
use Rattle.dn_waiting.proofs.Places.{waits_only, waits_not_runs, runs_only, runs_not_waits}
use Rattle.dn_waiting.proofs.Steps.{by_lane, is_own, not_waiting, not_running}

-- A stop, and the opening.

-- ---- the calls of attempts that are gone
length_without : (calls : List (Option OpenCall)) (vs : List SessionView) → length (without calls vs) ≡ length calls
length_without calls [] = refl
length_without calls (v ∷ vs) = length_without (set calls v.session None) vs ∙ length-set calls v.session None

-- a call that was taken out is gone
set_gone : (calls : List (Option OpenCall)) (s : ℕ) → get_or (set calls s None) s None ≡ None
set_gone calls s = by_case (cases_lt s (length calls))
  where
    by_case : (s < length calls) ⊎ (length calls ≤ s) → get_or (set calls s None) s None ≡ None
    by_case (inl x) = get_or-set_same calls s None None x
    by_case (inr x) = get_or_past (set calls s None) s None (omega (arith, length-set {A = Option OpenCall} calls s None, x))

set_none : (calls : List (Option OpenCall)) (s k : ℕ) → get_or calls k None ≡ None → get_or (set calls s None) k None ≡ None
set_none calls s k h = by_case (cases_eq k s)
  where
    by_case : (k ≡ s) ⊎ (k ≢ s) → get_or (set calls s None) k None ≡ None
    by_case (inr d) = get_or-set_other calls s k None None d ∙ h
    by_case (inl e) = ap (λ n. get_or (set calls s None) n None) e ∙ set_gone calls s

stays_none : (calls : List (Option OpenCall)) (vs : List SessionView) (k : ℕ) → get_or calls k None ≡ None → get_or (without calls vs) k None ≡ None
stays_none calls [] k h = h
stays_none calls (v ∷ vs) k h = stays_none (set calls v.session None) vs k (set_none calls v.session k h)

-- a call is one of them and is gone, or it isn't one of them and stays
abbrev Left : List (Option OpenCall) → List SessionView → ℕ → Type 0
Left calls vs k =
    ((1 ≤ how_often k vs) × (get_or (without calls vs) k None ≡ None))
    ⊎ ((how_often k vs ≡ 0) × (get_or (without calls vs) k None ≡ get_or calls k None))

left_step : (calls : List (Option OpenCall)) (v : SessionView) (vs : List SessionView) (k : ℕ) → (k ≡ v.session) ⊎ (k ≢ v.session) → Left (set calls v.session None) vs k → Left calls (v ∷ vs) k
left_step calls v vs k e (inl x) = let some : 1 ≤ how_often k vs = x.0 in inl (omega (arith, some), x.1)
left_step calls v vs k (inl e) (inr x) =
    let own : cond {A = ℕ} (v.session == k) 1 0 ≡ 1 = ap (λ (n : ℕ). cond {A = ℕ} (v.session == n) 1 0) e ∙ ap (λ (b : Bool). cond {A = ℕ} b 1 0) (own_test v.session) in
    inl (omega (arith, own), stays_none (set calls v.session None) vs k (ap (λ n. get_or (set calls v.session None) n None) e ∙ set_gone calls v.session))
left_step calls v vs k (inr d) (inr x) =
    let apart : cond {A = ℕ} (v.session == k) 1 0 ≡ 0 = ap (λ (b : Bool). cond {A = ℕ} b 1 0) (other_test v.session k (λ e. d (sym e))) in
    let none : how_often k vs ≡ 0 = x.0 in
    inr (omega (arith, apart, none), x.1 ∙ get_or-set_other calls v.session k None None d)

left_of : (calls : List (Option OpenCall)) (vs : List SessionView) (k : ℕ) → Left calls vs k
left_of calls [] k = inr (refl, refl)
left_of calls (v ∷ vs) k = left_step calls v vs k (cases_eq k v.session) (left_of (set calls v.session None) vs k)

-- ---- the attempts of a session at a lane
begun_often : (k : ℕ) (b : Option SessionView) (vs : List SessionView) → how_often k (option_to_list b ++ vs) ≡ cond (is_of k b) 1 0 + how_often k vs
begun_often k None vs = omega arith
begun_often k (Some v) vs = refl

two_tests : (a b : Bool) (n : ℕ) → n ≡ cond a 1 0 + cond b 1 0 → 1 ≤ n → (a ≡ true) ⊎ (b ≡ true)
two_tests true b n e h = inl refl
two_tests false true n e h = inr refl
two_tests false false n e h = absurd (omega (arith, e, h))

no_tests : (a b : Bool) (n : ℕ) → n ≡ cond a 1 0 + cond b 1 0 → n ≡ 0 → (a ≡ false) × (b ≡ false)
no_tests true b n e h = absurd (omega (arith, e, h))
no_tests false true n e h = absurd (omega (arith, e, h))
no_tests false false n e h = (refl, refl)

-- how often: once where it is under way, once where it waits
often_there : (w : WaitingState) (l k : ℕ) → IsSound w → how_often k (attempts_at (at_lane w l)) ≡ cond (runs_at l (call_of w k)) 1 0 + cond (waits_at l (call_of w k)) 1 0
often_there w l k sound =
    begun_often k (at_lane w l).begun (at_lane w l).queue
    ∙ (ap (λ (b : Bool). cond {A = ℕ} b 1 0 + how_often k (at_lane w l).queue) (sound.begun l k) ∙ ap (λ (n : ℕ). cond {A = ℕ} (runs_at l (call_of w k)) 1 0 + n) (sound.queues l k))

-- a session's call after the stop: gone, where it was at the lane and so at no other; else as it was, and not at the lane
record Gone (w : WaitingState) (l k : ℕ) : Type 0 where
  now : call_of (stopped w l) k ≡ None
  waits : (m : ℕ) → m ≢ l → waits_at m (call_of w k) ≡ false
  runs : (m : ℕ) → m ≢ l → runs_at m (call_of w k) ≡ false

record Stays (w : WaitingState) (l k : ℕ) : Type 0 where
  now : call_of (stopped w l) k ≡ call_of w k
  waits : waits_at l (call_of w k) ≡ false
  runs : runs_at l (call_of w k) ≡ false

gone_by : (w : WaitingState) (l k : ℕ) → call_of (stopped w l) k ≡ None → (runs_at l (call_of w k) ≡ true) ⊎ (waits_at l (call_of w k) ≡ true) → Gone w l k
gone_by w l k e (inl r) = record {
  now = e;
  waits = λ m d. runs_not_waits l m (call_of w k) r;
  runs = λ m d. runs_only l m (call_of w k) r d;
}
gone_by w l k e (inr x) = record {
  now = e;
  waits = λ m d. waits_only l m (call_of w k) x d;
  runs = λ m d. waits_not_runs l m (call_of w k) x;
}

after_stop : (w : WaitingState) (l k : ℕ) → IsSound w → Gone w l k ⊎ Stays w l k
after_stop w l k sound = by_case (left_of w.calls (attempts_at (at_lane w l)) k)
  where
    by_case : Left w.calls (attempts_at (at_lane w l)) k → Gone w l k ⊎ Stays w l k
    by_case (inl x) =
        inl (gone_by w l k x.1 (two_tests (runs_at l (call_of w k)) (waits_at l (call_of w k)) (how_often k (attempts_at (at_lane w l))) (often_there w l k sound) x.0))
    by_case (inr x) =
        let none = no_tests (runs_at l (call_of w k)) (waits_at l (call_of w k)) (how_often k (attempts_at (at_lane w l))) (often_there w l k sound) x.0 in
        inr (record { now = x.1; waits = none.1; runs = none.0 })

stop_queues : (w : WaitingState) (l : ℕ) → IsSound w → l < 64 → (m k : ℕ) → how_often k (at_lane (stopped w l) m).queue ≡ cond (waits_at m (call_of (stopped w l) k)) 1 0
stop_queues w l sound h m k =
    by_lane (λ q. how_often k q.queue ≡ cond (waits_at m (call_of (stopped w l) k)) 1 0) w l idle m (omega (arith, sound.made, h))
    (λ e. same e (after_stop w l k sound)) (λ d. other d (after_stop w l k sound))
  where
    same : m ≡ l → Gone w l k ⊎ Stays w l k → ◌≡◌ {A = ℕ} 0 (cond (waits_at m (call_of (stopped w l) k)) 1 0)
    same e (inl x) = sym (ap (λ o. cond {A = ℕ} (waits_at m o) 1 0) x.now)
    same e (inr x) = sym (ap (λ o. cond {A = ℕ} (waits_at m o) 1 0) x.now ∙ (ap (λ n. cond {A = ℕ} (waits_at n (call_of w k)) 1 0) e ∙ ap (λ (b : Bool). cond {A = ℕ} b 1 0) x.waits))

    other : m ≢ l → Gone w l k ⊎ Stays w l k → how_often k (at_lane w m).queue ≡ cond (waits_at m (call_of (stopped w l) k)) 1 0
    other d (inl x) = sound.queues m k ∙ (ap (λ (b : Bool). cond {A = ℕ} b 1 0) (x.waits m d) ∙ sym (ap (λ o. cond {A = ℕ} (waits_at m o) 1 0) x.now))
    other d (inr x) = sound.queues m k ∙ sym (ap (λ o. cond {A = ℕ} (waits_at m o) 1 0) x.now)

stop_begun : (w : WaitingState) (l : ℕ) → IsSound w → l < 64 → (m k : ℕ) → is_of k (at_lane (stopped w l) m).begun ≡ runs_at m (call_of (stopped w l) k)
stop_begun w l sound h m k =
    by_lane (λ q. is_of k q.begun ≡ runs_at m (call_of (stopped w l) k)) w l idle m (omega (arith, sound.made, h))
    (λ e. same e (after_stop w l k sound)) (λ d. other d (after_stop w l k sound))
  where
    same : m ≡ l → Gone w l k ⊎ Stays w l k → false ≡ runs_at m (call_of (stopped w l) k)
    same e (inl x) = sym (ap (runs_at m) x.now)
    same e (inr x) = sym (ap (runs_at m) x.now ∙ (ap (λ n. runs_at n (call_of w k)) e ∙ x.runs))

    other : m ≢ l → Gone w l k ⊎ Stays w l k → is_of k (at_lane w m).begun ≡ runs_at m (call_of (stopped w l) k)
    other d (inl x) = sound.begun m k ∙ (x.runs m d ∙ sym (ap (runs_at m) x.now))
    other d (inr x) = sound.begun m k ∙ sym (ap (runs_at m) x.now)

stop_open : (w : WaitingState) (l k : ℕ) → IsSound w → Gone w l k ⊎ Stays w l k → IsOpenCall (call_of (stopped w l) k)
stop_open w l k sound (inl x) = subst IsOpenCall (sym x.now) tt
stop_open w l k sound (inr x) = subst IsOpenCall (sym x.now) (sound.open_calls k)

stop_shows : (w : WaitingState) (l : ℕ) (u : SessionView) → Shows u (call_of w u.session) → (call_of (stopped w l) u.session ≡ None → ⊥) → Gone w l u.session ⊎ Stays w l u.session
    → Shows u (call_of (stopped w l) u.session)
stop_shows w l u shown some (inl x) = absurd (some x.now)
stop_shows w l u shown some (inr x) = subst (Shows u) (sym x.now) shown

none_in : (u : SessionView) → Contains [] u → ⊥
none_in u (k, h, e) = omega (arith, h)

-- a stop keeps all that waits sound
pub stopped_sound : (w : WaitingState) (l : ℕ) → IsSound w → l < 64 → IsSound (stopped w l)
stopped_sound w l sound h = record {
  sessions = length_without w.calls (attempts_at (at_lane w l)) ∙ sound.sessions;
  made = length-set w.lanes l idle ∙ sound.made;
  open_calls = λ k. stop_open w l k sound (after_stop w l k sound);
  queues = stop_queues w l sound h;
  begun = stop_begun w l sound h;
  numbers = numbered;
  number = begun_number;
}
  where
    numbered : (m : ℕ) (u : SessionView) → Contains (at_lane (stopped w l) m).queue u → Shows u (call_of (stopped w l) u.session)
    numbered m u x =
        stop_shows w l u
        (by_lane (λ q. Contains q.queue u → Shows u (call_of w u.session)) w l idle m (omega (arith, sound.made, h)) (λ _ y. absurd (none_in u y)) (λ _. sound.numbers m u) x)
        (not_waiting m (call_of (stopped w l) u.session) (how_often u.session (at_lane (stopped w l) m).queue) (stop_queues w l sound h m u.session) (often_contained (at_lane (stopped w l) m).queue u x))
        (after_stop w l u.session sound)

    no_attempt : (u : SessionView) → idle.begun ≡ Some u → Shows u (call_of w u.session)
    no_attempt u y = cc

    begun_number : (m : ℕ) (u : SessionView) → (at_lane (stopped w l) m).begun ≡ Some u → Shows u (call_of (stopped w l) u.session)
    begun_number m u x =
        stop_shows w l u
        (by_lane (λ q. q.begun ≡ Some u → Shows u (call_of w u.session)) w l idle m (omega (arith, sound.made, h)) (λ _. no_attempt u) (λ _. sound.number m u) x)
        (not_running m (call_of (stopped w l) u.session) (is_of u.session (at_lane (stopped w l) m).begun) (stop_begun w l sound h m u.session) (is_own u.session (at_lane (stopped w l) m).begun u x refl))
        (after_stop w l u.session sound)

-- ---- the opening
abbrev pub none_of : ℕ → ℕ → WaitingState
none_of sessions lanes = record { calls = replicate sessions None; lanes = replicate lanes idle }

abbrev no_one : Option OpenCall
no_one = None

no_call : (n k : ℕ) → get_or (replicate n no_one) k no_one ≡ no_one
no_call n k = by_case (cases_lt k n)
  where
    by_case : (k < n) ⊎ (n ≤ k) → get_or (replicate n no_one) k no_one ≡ no_one
    by_case (inl x) = get_or-replicate n k no_one no_one x
    by_case (inr x) = get_or_past (replicate n no_one) k no_one (omega (arith, length-replicate n no_one, x))

no_lane : (n m : ℕ) → get_or (replicate n idle) m idle ≡ idle
no_lane n m = by_case (cases_lt m n)
  where
    by_case : (m < n) ⊎ (n ≤ m) → get_or (replicate n idle) m idle ≡ idle
    by_case (inl x) = get_or-replicate n m idle idle x
    by_case (inr x) = get_or_past (replicate n idle) m idle (omega (arith, length-replicate {A = AtLane} n idle, x))

pub none_sound : (n m : ℕ) → n ≡ 1001 → m ≡ 64 → IsSound (none_of n m)
none_sound n m hn hm = record {
  sessions = length-replicate n None ∙ hn;
  made = length-replicate m idle ∙ hm;
  open_calls = λ k. subst IsOpenCall (sym (no_call n k)) tt;
  queues = λ l k. ap (λ (q : AtLane). how_often k q.queue) (no_lane m l) ∙ sym (ap (λ o. cond {A = ℕ} (waits_at l o) 1 0) (no_call n k));
  begun = λ l k. ap (λ (q : AtLane). is_of k q.begun) (no_lane m l) ∙ sym (ap (runs_at l) (no_call n k));
  numbers = λ l u x. absurd (none_in u (subst (λ (q : AtLane). Contains q.queue u) (no_lane m l) x));
  number = λ l u x. none_begun l u (subst (λ (q : AtLane). q.begun ≡ Some u) (no_lane m l) x);
}
  where
    none_begun : (l : ℕ) (u : SessionView) → idle.begun ≡ Some u → Shows u (get_or (replicate n None) u.session None)
    none_begun l u x = cc
