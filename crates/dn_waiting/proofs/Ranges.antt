use Rattle.std.proofs.Common.{ℕ, ◌≡◌, ◌≢◌, ◌+◌, ◌<◌, ◌≤◌, ◌==◌, ◌⊎◌, inl, inr, Bool, true, false, ◌∷◌, ◌++◌, cond, Option, Some, None, get_or, length, refl, sym, ap, subst, ◌∙◌, arith, Contains, zero, suc}
use Rattle.std.specs.Option.{option_to_list}
use Rattle.std.proofs.lemmas.Bool.{cases_lt, cases_eq}
use Rattle.std.proofs.lemmas.List.{get_or_past, get_or_default}
use Rattle.dn_hist.specs.declared.receipts.SessionView.{SessionView}
use Rattle.dn_waiting.specs.declared.calls.OpenCall.{OpenCall}
use Rattle.dn_waiting.specs.Queues.{attempts_at}
use Rattle.dn_waiting.specs.State.{WaitingState, call_of, at_lane}
use Rattle.dn_waiting.specs.Sound.{IsSound, Shows, how_often, waits_at}
use Rattle.dn_waiting.specs.Stops.{AreBelow}
use Rattle.dn_waiting.proofs.Counts.{other_test, few}

-- Sessions of attempts are numbers of sessions, and no queue has more of them than there are.

shows_some : (view : SessionView) (o : Option OpenCall) → Shows view o → o ≡ None → ⊥
shows_some view None h e = h
shows_some view (Some c) h e = cc

-- a view that shows a call's number is of a session that there is
pub shown_inside : (w : WaitingState) (view : SessionView) → IsSound w → Shows view (call_of w view.session) → view.session < 1001
shown_inside w view sound h = by_case (cases_lt view.session (length w.calls))
  where
    by_case : (view.session < length w.calls) ⊎ (length w.calls ≤ view.session) → view.session < 1001
    by_case (inl x) = omega (arith, x, sound.sessions)
    by_case (inr x) = absurd (shows_some view (call_of w view.session) h (get_or_past w.calls view.session None x))

pub once_most : (b : Bool) → cond b 1 0 ≤ 1
once_most true = omega arith
once_most false = omega arith

often_most : (w : WaitingState) → IsSound w → (lane k : ℕ) → how_often k (at_lane w lane).queue ≤ 1
often_most w sound lane k = omega (arith, sound.queues lane k, once_most (waits_at lane (call_of w k)))

often_past : (w : WaitingState) → IsSound w → (lane k : ℕ) → 1001 ≤ k → how_often k (at_lane w lane).queue ≡ 0
often_past w sound lane k h =
    sound.queues lane k ∙ ap (λ o. cond (waits_at lane o) 1 0) (get_or_past w.calls k None (omega (arith, sound.sessions, h)))

-- no queue has more attempts than there are sessions
pub queue_most : (w : WaitingState) → IsSound w → (lane : ℕ) → length (at_lane w lane).queue ≤ 1001
queue_most w sound lane = few 1001 (at_lane w lane).queue (often_most w sound lane) (often_past w sound lane)

-- and where one of them isn't there, there is room for it
pub queue_room : (w : WaitingState) (view : SessionView) (lane : ℕ) → IsSound w → view.session ≤ 1000 → waits_at lane (call_of w view.session) ≡ false
    → length (at_lane w lane).queue ≤ 1000
queue_room w view lane sound h away =
    let all : length (view ∷ (at_lane w lane).queue) ≤ 1001 = few 1001 (view ∷ (at_lane w lane).queue) (λ k. once k (cases_eq k view.session)) past in
    omega (arith, all)
  where
    once : (k : ℕ) → (k ≡ view.session) ⊎ (k ≢ view.session) → cond (view.session == k) 1 0 + how_often k (at_lane w lane).queue ≤ 1
    once k (inl e) =
        let none : how_often k (at_lane w lane).queue ≡ 0 = sound.queues lane k ∙ (ap (λ n. cond (waits_at lane (call_of w n)) 1 0) e ∙ ap (λ b. cond b 1 0) away) in
        omega (arith, none, once_most (view.session == k))
    once k (inr d) =
        let apart : cond {A = ℕ} (view.session == k) 1 0 ≡ 0 = ap (λ (b : Bool). cond {A = ℕ} b 1 0) (other_test view.session k (λ e. d (sym e))) in
        omega (arith, apart, often_most w sound lane k)

    past : (k : ℕ) → 1001 ≤ k → cond (view.session == k) 1 0 + how_often k (at_lane w lane).queue ≡ 0
    past k x =
        let apart : cond {A = ℕ} (view.session == k) 1 0 ≡ 0 = ap (λ (b : Bool). cond {A = ℕ} b 1 0) (other_test view.session k (λ e. let n : view.session ≡ k = e in omega (arith, n, h, x))) in
        omega (arith, apart, often_past w sound lane k x)

-- each attempt at a lane shows the number of its call
pub attempt_shows : (w : WaitingState) → IsSound w → (lane : ℕ) (u : SessionView) → Contains (attempts_at (at_lane w lane)) u → Shows u (call_of w u.session)
attempt_shows w sound lane u h = by_begun (at_lane w lane).begun refl h
  where
    by_begun : (b : Option SessionView) → (at_lane w lane).begun ≡ b → Contains (option_to_list b ++ (at_lane w lane).queue) u → Shows u (call_of w u.session)
    by_begun None e x = sound.numbers lane u x
    by_begun (Some v) e (zero, x, i) = subst (λ (p : SessionView). Shows p (call_of w p.session)) i (sound.number lane v e)
    by_begun (Some v) e (suc k, x, i) = sound.numbers lane u (k, omega (arith, x), i)

pub attempts_inside : (w : WaitingState) → IsSound w → (lane : ℕ) → AreBelow 1001 (attempts_at (at_lane w lane))
attempts_inside w sound lane k d h =
    let u : SessionView = get_or (attempts_at (at_lane w lane)) k d in
    shown_inside w u sound (attempt_shows w sound lane u (k, h, get_or_default (attempts_at (at_lane w lane)) k u d h))
