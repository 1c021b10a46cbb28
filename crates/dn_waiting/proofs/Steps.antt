use Rattle.std.proofs.Common.{ℕ, ◌≡◌, ◌≢◌, ◌<◌, ◌≤◌, ◌==◌, ◌⊎◌, inl, inr, Bool, true, cond, Option, Some, None, set, get_or, length, refl, sym, ap, subst, ◌∙◌, arith, Contains}
use Rattle.std.proofs.lemmas.Bool.{cases_eq, eq-eqb}
use Rattle.std.proofs.lemmas.List.{get_or-set_same, get_or-set_other, length-set}
use Rattle.dn_hist.specs.declared.receipts.SessionView.{SessionView}
use Rattle.dn_waiting.specs.declared.calls.OpenCall.{OpenCall}
use Rattle.dn_waiting.specs.Queues.{AtLane, idle}
use Rattle.dn_waiting.specs.State.{WaitingState, call_of, at_lane}
use Rattle.dn_waiting.specs.Sound.{IsSound, IsOpenCall, Shows, how_often, is_of, waits_at, runs_at}
use Rattle.dn_waiting.proofs.Counts.{often_contained}

-- A step that changes the call of one session and what there is at one lane, and keeps all that waits sound.

-- a call that is still there has its number
abbrev pub Keeps : Option OpenCall → Option OpenCall → Type 0
Keeps old None = Unit {0}
Keeps old (Some c) = (u : SessionView) → Shows u old → c.number ≡ u.number

pub record Step (w : WaitingState) (s l : ℕ) (c : Option OpenCall) (q : AtLane) : Type 0 where
  pub session : s < 1001
  pub lane : l < 64
  pub open_call : IsOpenCall c
  pub keeps : Keeps (call_of w s) c
  pub own : how_often s q.queue ≡ cond (waits_at l c) 1 0
  pub others : (k : ℕ) → k ≢ s → how_often k q.queue ≡ how_often k (at_lane w l).queue
  pub own_begun : is_of s q.begun ≡ runs_at l c
  pub others_begun : (k : ℕ) → k ≢ s → is_of k q.begun ≡ is_of k (at_lane w l).begun
  pub elsewhere : (m : ℕ) → m ≢ l → waits_at m c ≡ waits_at m (call_of w s)
  pub elsewhere_begun : (m : ℕ) → m ≢ l → runs_at m c ≡ runs_at m (call_of w s)
  pub views : (u : SessionView) → Contains q.queue u → Shows u (call_of w u.session)
  pub view : (u : SessionView) → q.begun ≡ Some u → Shows u (call_of w u.session)

-- what there is after it
abbrev pub stepped : WaitingState → ℕ → ℕ → Option OpenCall → AtLane → WaitingState
stepped w s l c q = record { calls = set w.calls s c; lanes = set w.lanes l q }

-- a fact of the call that a session has then
by_session : (P : Option OpenCall → Type 0) (w : WaitingState) (s : ℕ) (c : Option OpenCall) (k : ℕ) → s < length w.calls
    → (k ≡ s → P c) → (k ≢ s → P (call_of w k)) → P (get_or (set w.calls s c) k None)
by_session P w s c k h same other = by_case (cases_eq k s)
  where
    by_case : (k ≡ s) ⊎ (k ≢ s) → P (get_or (set w.calls s c) k None)
    by_case (inl e) = subst P (sym (ap (λ n. get_or (set w.calls s c) n None) e ∙ get_or-set_same w.calls s c None h)) (same e)
    by_case (inr d) = subst P (sym (get_or-set_other w.calls s k c None d)) (other d)

-- a fact of what there is at a lane then
pub by_lane : (P : AtLane → Type 0) (w : WaitingState) (l : ℕ) (q : AtLane) (m : ℕ) → l < length w.lanes
    → (m ≡ l → P q) → (m ≢ l → P (at_lane w m)) → P (get_or (set w.lanes l q) m idle)
by_lane P w l q m h same other = by_case (cases_eq m l)
  where
    by_case : (m ≡ l) ⊎ (m ≢ l) → P (get_or (set w.lanes l q) m idle)
    by_case (inl e) = subst P (sym (ap (λ n. get_or (set w.lanes l q) n idle) e ∙ get_or-set_same w.lanes l q idle h)) (same e)
    by_case (inr d) = subst P (sym (get_or-set_other w.lanes l m q idle d)) (other d)

-- an attempt of the session whose call is still there has its number; where it isn't, the session has no attempt
still : (old : Option OpenCall) (c : Option OpenCall) (u : SessionView) → Keeps old c → Shows u old → (c ≡ None → ⊥) → Shows u c
still old None u keeps h some = absurd (some refl)
still old (Some c) u keeps h some = keeps u h

pub not_waiting : (l : ℕ) (c : Option OpenCall) (n : ℕ) → n ≡ cond (waits_at l c) 1 0 → 1 ≤ n → c ≡ None → ⊥
not_waiting l None n e h z = omega (arith, e, h)
not_waiting l (Some c) n e h z = cc

pub not_running : (l : ℕ) (c : Option OpenCall) (b : Bool) → b ≡ runs_at l c → b ≡ true → c ≡ None → ⊥
not_running l None b e h z = cc
not_running l (Some c) b e h z = cc

pub is_own : (s : ℕ) (q : Option SessionView) (u : SessionView) → q ≡ Some u → u.session ≡ s → is_of s q ≡ true
is_own s q u e h = ap (is_of s) e ∙ (let t : (u.session == s) ≡ true = eq-eqb u.session s h in t)

queued_after : (w : WaitingState) (s l : ℕ) (c : Option OpenCall) (q : AtLane) → IsSound w → Step w s l c q → (m k : ℕ)
    → how_often k (at_lane (stepped w s l c q) m).queue ≡ cond (waits_at m (call_of (stepped w s l c q) k)) 1 0
queued_after w s l c q sound x m k =
    by_lane (λ p. how_often k p.queue ≡ cond (waits_at m (call_of (stepped w s l c q) k)) 1 0) w l q m (omega (arith, sound.made, x.lane)) same other
  where
    same : m ≡ l → how_often k q.queue ≡ cond (waits_at m (call_of (stepped w s l c q) k)) 1 0
    same e =
        subst (λ n. how_often k q.queue ≡ cond (waits_at n (call_of (stepped w s l c q) k)) 1 0) (sym e)
        (by_session (λ o. how_often k q.queue ≡ cond (waits_at l o) 1 0) w s c k (omega (arith, sound.sessions, x.session))
        (λ i. ap (λ n. how_often n q.queue) i ∙ x.own) (λ d. x.others k d ∙ sound.queues l k))

    other : m ≢ l → how_often k (at_lane w m).queue ≡ cond (waits_at m (call_of (stepped w s l c q) k)) 1 0
    other d =
        by_session (λ o. how_often k (at_lane w m).queue ≡ cond (waits_at m o) 1 0) w s c k (omega (arith, sound.sessions, x.session))
        (λ i. sound.queues m k ∙ ap (λ n. cond (waits_at m (call_of w n)) 1 0) i ∙ ap (λ b. cond b 1 0) (sym (x.elsewhere m d)))
        (λ _. sound.queues m k)

running_after : (w : WaitingState) (s l : ℕ) (c : Option OpenCall) (q : AtLane) → IsSound w → Step w s l c q → (m k : ℕ)
    → is_of k (at_lane (stepped w s l c q) m).begun ≡ runs_at m (call_of (stepped w s l c q) k)
running_after w s l c q sound x m k =
    by_lane (λ p. is_of k p.begun ≡ runs_at m (call_of (stepped w s l c q) k)) w l q m (omega (arith, sound.made, x.lane)) same other
  where
    same : m ≡ l → is_of k q.begun ≡ runs_at m (call_of (stepped w s l c q) k)
    same e =
        subst (λ n. is_of k q.begun ≡ runs_at n (call_of (stepped w s l c q) k)) (sym e)
        (by_session (λ o. is_of k q.begun ≡ runs_at l o) w s c k (omega (arith, sound.sessions, x.session))
        (λ i. ap (λ n. is_of n q.begun) i ∙ x.own_begun) (λ d. x.others_begun k d ∙ sound.begun l k))

    other : m ≢ l → is_of k (at_lane w m).begun ≡ runs_at m (call_of (stepped w s l c q) k)
    other d =
        by_session (λ o. is_of k (at_lane w m).begun ≡ runs_at m o) w s c k (omega (arith, sound.sessions, x.session))
        (λ i. sound.begun m k ∙ ap (λ n. runs_at m (call_of w n)) i ∙ sym (x.elsewhere_begun m d))
        (λ _. sound.begun m k)

shown_after : (w : WaitingState) (s l : ℕ) (c : Option OpenCall) (q : AtLane) (sound : IsSound w) (x : Step w s l c q) (u : SessionView)
    → Shows u (call_of w u.session) → (call_of (stepped w s l c q) u.session ≡ None → ⊥) → Shows u (call_of (stepped w s l c q) u.session)
shown_after w s l c q sound x u shown =
    by_session (λ o. (o ≡ None → ⊥) → Shows u o) w s c u.session (omega (arith, sound.sessions, x.session))
    (λ e. still (call_of w s) c u x.keeps (subst (λ n. Shows u (call_of w n)) e shown))
    (λ d none. shown)

-- a step keeps it sound
pub step_sound : (w : WaitingState) (s l : ℕ) (c : Option OpenCall) (q : AtLane) → IsSound w → Step w s l c q → IsSound (stepped w s l c q)
step_sound w s l c q sound x = record {
  sessions = length-set w.calls s c ∙ sound.sessions;
  made = length-set w.lanes l q ∙ sound.made;
  open_calls = λ k. by_session IsOpenCall w s c k (omega (arith, sound.sessions, x.session)) (λ _. x.open_call) (λ _. sound.open_calls k);
  queues = queued_after w s l c q sound x;
  begun = running_after w s l c q sound x;
  numbers = numbered;
  number = begun_number;
}
  where
    numbered : (m : ℕ) (u : SessionView) → Contains (at_lane (stepped w s l c q) m).queue u → Shows u (call_of (stepped w s l c q) u.session)
    numbered m u h =
        shown_after w s l c q sound x u
        (by_lane (λ p. Contains p.queue u → Shows u (call_of w u.session)) w l q m (omega (arith, sound.made, x.lane)) (λ _. x.views u) (λ _. sound.numbers m u) h)
        (not_waiting m (call_of (stepped w s l c q) u.session) (how_often u.session (at_lane (stepped w s l c q) m).queue) (queued_after w s l c q sound x m u.session)
        (often_contained (at_lane (stepped w s l c q) m).queue u h))

    begun_number : (m : ℕ) (u : SessionView) → (at_lane (stepped w s l c q) m).begun ≡ Some u → Shows u (call_of (stepped w s l c q) u.session)
    begun_number m u h =
        shown_after w s l c q sound x u
        (by_lane (λ p. p.begun ≡ Some u → Shows u (call_of w u.session)) w l q m (omega (arith, sound.made, x.lane)) (λ _. x.view u) (λ _. sound.number m u) h)
        (not_running m (call_of (stepped w s l c q) u.session) (is_of u.session (at_lane (stepped w s l c q) m).begun) (running_after w s l c q sound x m u.session)
        (is_own u.session (at_lane (stepped w s l c q) m).begun u h refl))
