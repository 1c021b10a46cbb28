use Rattle.std.proofs.Common.{ℕ, ◌≡◌, inl, inr, true, List, [], ◌∷◌, ◌++◌, ◌⊎◌, Option, Some, None, Contains, if◌then◌else◌, sym, ◌∙◌, ap, subst}
use Rattle.std.proofs.lemmas.List.Elements.{Contains-append_left, Contains-push_cases, Contains-push}
use Rattle.dn_hist.specs.declared.calls.Call.{Call}
use Rattle.dn_hist.specs.declared.receipts.Receipt.{Receipt}
use Rattle.dn_callers.specs.Callers.{Standing}
use Rattle.dn_waiting.specs.State.{call_of}
use Rattle.dn_waiting.specs.declared.calls.OpenCall.{OpenCall}
use Rattle.dn_outcomes.specs.Accounts.{Asked, asked_of, open_in, asked_by, asked_in, asked_for}
use Rattle.dn_outcomes.specs.Does.{does}
use Rattle.dn_outcomes.specs.Going.{called}
use Rattle.dn_outcomes.specs.Runs.{after, IsRun}
use Rattle.dn_outcomes.specs.Sound.{IsWorld, MayHappen}
use Rattle.dn_outcomes.specs.State.{World, Done}
use Rattle.dn_outcomes.specs.Told.{IsQuiet, IsMade, Joins, Stands, starts, HasNumber, Names}
use Rattle.dn_outcomes.specs.declared.events.Event.{Event}
use Rattle.dn_outcomes.specs.declared.outcomes.CallAnswer.{CallAnswer}
use Rattle.dn_outcomes.specs.declared.outcomes.CallAnswer.TheVariants as answer
use Rattle.dn_outcomes.specs.declared.outcomes.Outcome.{Outcome}
use Rattle.dn_outcomes.specs.declared.outcomes.Outcome.TheVariants as outcome
use Rattle.dn_outcomes.proofs.Accounts.{event_balanced, carried}
use Rattle.dn_outcomes.proofs.Kept.{kept}
use Rattle.dn_outcomes.proofs.ToldEvents.{receipts_so, names_so}

-- A receipt that comes to stand has the call that its session asked with its number.

-- ---- by an event it has the call that the session has
has_asked : (o : Option OpenCall) (number : ℕ) (call : Call) → HasNumber o number → call ≡ called o → asked_of o ≡ (record { number = number; call = call }) ∷ []
has_asked None number call h e = absurd h
has_asked (Some c) number call h e = ap (λ (n : ℕ). (record { number = n; call = c.call }) ∷ []) h ∙ ap (λ (k : Call). (record { number = number; call = k }) ∷ []) (sym e)

made_asked : (w : World) (r : Receipt) (s number : ℕ) → r.position.session ≡ s → r.number ≡ number → r.call ≡ called (call_of w.waiting s) → HasNumber (call_of w.waiting s) number
    → Contains (open_in w r.position.session) (asked_for r)
made_asked w r s number e its call h =
    let t : ℕ = r.position.session in
    let same : call_of w.waiting s ≡ call_of w.waiting t = ap (call_of w.waiting) (sym e) in
    let there : HasNumber (call_of w.waiting t) r.number = subst (λ o. HasNumber o r.number) same (subst (HasNumber (call_of w.waiting s)) (sym its) h) in
    subst (λ ys. Contains ys (asked_for r)) (sym (has_asked (call_of w.waiting t) r.number r.call there (call ∙ ap called same))) (Contains-push [] (asked_for r))

quiet_joined : (w now : World) (x : Standing) → IsQuiet w now → Contains now.machine.callers.receipts x
    → Contains w.machine.callers.receipts x ⊎ Contains (open_in w x.receipt.position.session) (asked_for x.receipt)
quiet_joined w now x e h = inl (subst (λ ys. Contains ys x) e h)

made_joined : (w now : World) (s number : ℕ) (x : Standing) → IsMade w now s number → HasNumber (call_of w.waiting s) number → Contains now.machine.callers.receipts x
    → Contains w.machine.callers.receipts x ⊎ Contains (open_in w x.receipt.position.session) (asked_for x.receipt)
made_joined w now s number x m n h =
    let y : Standing = record { receipt = m.receipt; answered = true } in
    elim (Contains-push_cases w.machine.callers.receipts y x (subst (λ ys. Contains ys x) m.joins h)) [
      | inl b ↦ inl b
      | inr e ↦ inr (subst (λ (z : Standing). Contains (open_in w z.receipt.position.session) (asked_for z.receipt)) e (made_asked w m.receipt s number m.session m.its m.call n))
    ]

answer_joined : (w now : World) (s number : ℕ) (a : CallAnswer) (x : Standing) → Joins w now s number a → HasNumber (call_of w.waiting s) number → Contains now.machine.callers.receipts x
    → Contains w.machine.callers.receipts x ⊎ Contains (open_in w x.receipt.position.session) (asked_for x.receipt)
answer_joined w now s number (answer.Made way) x j n h = made_joined w now s number x j n h
answer_joined w now s number (answer.NotOwner look cell) x j n h = quiet_joined w now x j h
answer_joined w now s number (answer.Fenced word) x j n h = quiet_joined w now x j h
answer_joined w now s number (answer.Full counter segments) x j n h = quiet_joined w now x j h
answer_joined w now s number (answer.Worn stamp) x j n h = quiet_joined w now x j h

stands_joined : (w now : World) (o : Outcome) (x : Standing) → Stands w now o → Names w.waiting o → Contains now.machine.callers.receipts x
    → Contains w.machine.callers.receipts x ⊎ Contains (open_in w x.receipt.position.session) (asked_for x.receipt)
stands_joined w now outcome.Nothing x j n h = quiet_joined w now x j h
stands_joined w now outcome.Acted x j n h = quiet_joined w now x j h
stands_joined w now (outcome.Numbered number) x j n h = quiet_joined w now x j h
stands_joined w now outcome.Busy x j n h = quiet_joined w now x j h
stands_joined w now outcome.Closed x j n h = quiet_joined w now x j h
stands_joined w now (outcome.Answered s number a given) x j n h = answer_joined w now s number a x j n h
stands_joined w now (outcome.GivenUp s number) x j n h = quiet_joined w now x j h
stands_joined w now (outcome.Ordered a) x j n h = quiet_joined w now x j h
stands_joined w now outcome.MonitorBusy x j n h = quiet_joined w now x j h
stands_joined w now (outcome.Tended a) x j n h = quiet_joined w now x j h
stands_joined w now (outcome.Added lane) x j n h = quiet_joined w now x j h
stands_joined w now outcome.LanesFull x j n h = quiet_joined w now x j h
stands_joined w now outcome.NoLane x j n h = quiet_joined w now x j h
stands_joined w now (outcome.Merged turn) x j n h = quiet_joined w now x j h
stands_joined w now (outcome.Fault actor) x j n h = quiet_joined w now x j h

pub event_joined : (w : World) (e : Event) (heirs : List ℕ) (x : Standing) → IsWorld w → MayHappen w e heirs → Contains (does w e heirs).world.machine.callers.receipts x
    → Contains w.machine.callers.receipts x ⊎ Contains (open_in w x.receipt.position.session) (asked_for x.receipt)
event_joined w e heirs x h may there = (let d : Done = does w e heirs in stands_joined w d.world d.outcome x (receipts_so w e heirs h may) (names_so w e heirs h may) there)

-- ---- over a run
pub joined : (w : World) (es : List (Event × List ℕ)) (x : Standing) → IsWorld w → IsRun w es → Contains (after w es).machine.callers.receipts x
    → Contains w.machine.callers.receipts x ⊎ Contains (open_in w x.receipt.position.session ++ asked_in x.receipt.position.session w es) (asked_for x.receipt)
joined w [] x h run there = inl there
joined w (y ∷ ys) x h run there =
    let d : Done = does w y.0 y.1 in
    let s : ℕ = x.receipt.position.session in
    let asked : List Asked = if starts y.0 s then asked_by y.0 d.outcome else [] in
    let b = event_balanced w y.0 y.1 s h run.0 in
    elim (joined d.world ys x (kept w y.0 y.1 h run.0) run.1 there) [
      | inl now ↦
          elim (event_joined w y.0 y.1 x h run.0 now) [
            | inl before ↦ inl before
            | inr had ↦ inr (Contains-append_left (open_in w s) (asked ++ asked_in s d.world ys) (asked_for x.receipt) had)
          ]
      | inr was ↦ inr (carried (open_in w s) (open_in d.world s) asked (asked_in s d.world ys) b.from (asked_for x.receipt) was)
    ]
