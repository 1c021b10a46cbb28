use Rattle.std.proofs.Common.{ℕ, ◌≡◌, ◌≢◌, ◌≤◌, ◌⊎◌, inl, inr, Bool, true, false, Option, Some, None, refl, sym, ap, subst, ◌∙◌, arith, Contains}
use Rattle.std.proofs.lemmas.Bool.{cases_eq}
use Rattle.dn_hist.specs.declared.receipts.SessionView.{SessionView}
use Rattle.dn_waiting.specs.declared.calls.OpenCall.{OpenCall}
use Rattle.dn_waiting.specs.State.{WaitingState, call_of, at_lane}
use Rattle.dn_waiting.specs.Sound.{IsSound, IsOpenCall, how_often, waits_at, runs_at}
use Rattle.dn_waiting.proofs.Counts.{often_contained}
use Rattle.dn_waiting.proofs.Steps.{is_own}
use Rattle.dn_waiting.proofs.Places.{waits_only, waits_not_runs, runs_only}
use Rattle.dn_waiting.proofs.Kept.{waiting_of}
use Rattle.dn_waiting.proofs.Ranges.{once_most}

-- A session's call is in at most one place.

-- an attempt in a queue is of a call that waits there
waits : (w : WaitingState) (l : ℕ) (u : SessionView) → IsSound w → Contains (at_lane w l).queue u → waits_at l (call_of w u.session) ≡ true
waits w l u sound h = waiting_of l (call_of w u.session) (how_often u.session (at_lane w l).queue) (sound.queues l u.session) (often_contained (at_lane w l).queue u h)

-- and one under way is of a call that says so
runs : (w : WaitingState) (l : ℕ) (u : SessionView) → IsSound w → (at_lane w l).begun ≡ Some u → runs_at l (call_of w u.session) ≡ true
runs w l u sound h = sym (sound.begun l u.session) ∙ is_own u.session (at_lane w l).begun u h refl

differ : (b : Bool) → b ≡ true → b ≡ false → ⊥
differ b h e = cc

pub once : (w : WaitingState) → IsSound w → (l s : ℕ) → how_often s (at_lane w l).queue ≤ 1
once w sound l s = omega (arith, sound.queues l s, once_most (waits_at l (call_of w s)))

pub one_queue : (w : WaitingState) → IsSound w → (l m : ℕ) (u v : SessionView) → Contains (at_lane w l).queue u → Contains (at_lane w m).queue v → u.session ≡ v.session → l ≡ m
one_queue w sound l m u v x y e = by_case (cases_eq m l)
  where
    by_case : (m ≡ l) ⊎ (m ≢ l) → l ≡ m
    by_case (inl i) = sym i
    by_case (inr d) =
        absurd (differ (waits_at m (call_of w u.session)) (ap (λ s. waits_at m (call_of w s)) e ∙ waits w m v sound y) (waits_only l m (call_of w u.session) (waits w l u sound x) d))

pub one_begun : (w : WaitingState) → IsSound w → (l m : ℕ) (u v : SessionView) → (at_lane w l).begun ≡ Some u → (at_lane w m).begun ≡ Some v → u.session ≡ v.session → l ≡ m
one_begun w sound l m u v x y e = by_case (cases_eq m l)
  where
    by_case : (m ≡ l) ⊎ (m ≢ l) → l ≡ m
    by_case (inl i) = sym i
    by_case (inr d) =
        absurd (differ (runs_at m (call_of w u.session)) (ap (λ s. runs_at m (call_of w s)) e ∙ runs w m v sound y) (runs_only l m (call_of w u.session) (runs w l u sound x) d))

pub not_both : (w : WaitingState) → IsSound w → (l m : ℕ) (u v : SessionView) → Contains (at_lane w l).queue u → (at_lane w m).begun ≡ Some v → u.session ≢ v.session
not_both w sound l m u v x y e =
    differ (runs_at m (call_of w u.session)) (ap (λ s. runs_at m (call_of w s)) e ∙ runs w m v sound y) (waits_not_runs l m (call_of w u.session) (waits w l u sound x))

refused_by : (o : Option OpenCall) (c : OpenCall) → IsOpenCall o → o ≡ Some c → c.refused ≤ 7
refused_by None c h e = cc
refused_by (Some d) c h e = let same : d ≡ c = cc in subst (λ (x : OpenCall). x.refused ≤ 7) same h.refused

pub few_refused : (w : WaitingState) → IsSound w → (s : ℕ) (c : OpenCall) → call_of w s ≡ Some c → c.refused ≤ 7
few_refused w sound s c e = refused_by (call_of w s) c (sound.open_calls s) e
