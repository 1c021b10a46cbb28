use Rattle.std.proofs.Common.{ℕ, ◌≡◌, true, List, [], ◌∷◌, ◌++◌, sym, ◌∙◌, ap, append_assoc, append-nil}
use Rattle.std.proofs.lemmas.List.{map-append}
use Rattle.dn_callers.specs.Callers.{Standing}
use Rattle.dn_outcomes.specs.Does.{does}
use Rattle.dn_outcomes.specs.Runs.{after, IsRun, made_as, made_in, told_in, calls_of}
use Rattle.dn_outcomes.specs.Sound.{IsWorld}
use Rattle.dn_outcomes.specs.State.{World, Done}
use Rattle.dn_outcomes.specs.Told.{IsQuiet, Joins, Stands}
use Rattle.dn_outcomes.specs.declared.events.Event.{Event}
use Rattle.dn_outcomes.specs.declared.outcomes.CallAnswer.{CallAnswer}
use Rattle.dn_outcomes.specs.declared.outcomes.CallAnswer.TheVariants as answer
use Rattle.dn_outcomes.specs.declared.outcomes.Outcome.{Outcome}
use Rattle.dn_outcomes.specs.declared.outcomes.Outcome.TheVariants as outcome
use Rattle.dn_outcomes.proofs.Kept.{kept}
use Rattle.dn_outcomes.proofs.ToldEvents.{receipts_so}

-- Over a run the receipts that come to stand are those that outcomes tell, in their order.

abbrev Comes : World → World → List (ℕ × ℕ) → Type 0
Comes w now told = calls_of now.machine.callers.receipts ≡ calls_of w.machine.callers.receipts ++ told

quiet_comes : (w now : World) → IsQuiet w now → Comes w now []
quiet_comes w now h = ap calls_of h ∙ sym (append-nil (calls_of w.machine.callers.receipts))

joins_comes : (w now : World) (s number : ℕ) (a : CallAnswer) → Joins w now s number a → Comes w now (made_as s number a)
joins_comes w now s number (answer.Made way) h =
    let x : Standing = record { receipt = h.receipt; answered = true } in
    ap calls_of h.joins ∙ map-append (λ (y : Standing). (y.receipt.position.session, y.receipt.number)) w.machine.callers.receipts (x ∷ [])
    ∙ ap (λ (k : ℕ). calls_of w.machine.callers.receipts ++ (k, h.receipt.number) ∷ []) h.session
    ∙ ap (λ (k : ℕ). calls_of w.machine.callers.receipts ++ (s, k) ∷ []) h.its
joins_comes w now s number (answer.NotOwner look cell) h = quiet_comes w now h
joins_comes w now s number (answer.Fenced word) h = quiet_comes w now h
joins_comes w now s number (answer.Full counter segments) h = quiet_comes w now h
joins_comes w now s number (answer.Worn stamp) h = quiet_comes w now h

stands_comes : (w now : World) (o : Outcome) → Stands w now o → Comes w now (made_in o)
stands_comes w now outcome.Nothing h = quiet_comes w now h
stands_comes w now outcome.Acted h = quiet_comes w now h
stands_comes w now (outcome.Numbered number) h = quiet_comes w now h
stands_comes w now outcome.Busy h = quiet_comes w now h
stands_comes w now outcome.Closed h = quiet_comes w now h
stands_comes w now (outcome.Answered s number a given) h = joins_comes w now s number a h
stands_comes w now (outcome.GivenUp s number) h = quiet_comes w now h
stands_comes w now (outcome.Ordered a) h = quiet_comes w now h
stands_comes w now outcome.MonitorBusy h = quiet_comes w now h
stands_comes w now (outcome.Tended a) h = quiet_comes w now h
stands_comes w now (outcome.Added lane) h = quiet_comes w now h
stands_comes w now outcome.LanesFull h = quiet_comes w now h
stands_comes w now outcome.NoLane h = quiet_comes w now h
stands_comes w now (outcome.Merged turn) h = quiet_comes w now h
stands_comes w now (outcome.Fault actor) h = quiet_comes w now h

pub told_calls : (w : World) (es : List (Event × List ℕ)) → IsWorld w → IsRun w es → calls_of (after w es).machine.callers.receipts ≡ calls_of w.machine.callers.receipts ++ told_in w es
told_calls w [] h run = sym (append-nil (calls_of w.machine.callers.receipts))
told_calls w (x ∷ xs) h run =
    let d : Done = does w x.0 x.1 in
    let first : Comes w d.world (made_in d.outcome) = stands_comes w d.world d.outcome (receipts_so w x.0 x.1 h run.0) in
    let rest : Comes d.world (after d.world xs) (told_in d.world xs) = told_calls d.world xs (kept w x.0 x.1 h run.0) run.1 in
    rest ∙ ap (λ ys. ys ++ told_in d.world xs) first ∙ append_assoc (calls_of w.machine.callers.receipts) (made_in d.outcome) (told_in d.world xs)
