use Rattle.std.proofs.Common.{◌≡◌, ℕ, ◌==◌, List, [], ◌∷◌, Bool, true, false, Some, refl, sym, subst, ap, ◌∙◌, arith, if◌then◌else◌}
use Rattle.std.proofs.lemmas.Bool.Decides.{nat_tests}
use Rattle.dn_word.specs.declared.packed.place.Ref.{Ref}
use Rattle.dn_hist.specs.declared.calls.Call.{Call}
use Rattle.dn_hist.specs.declared.receipts.Receipt.{Receipt}
use Rattle.dn_hist.specs.declared.receipts.SessionView.{SessionView}
use Rattle.dn_locate.specs.Fetch.{Fetching}
use Rattle.dn_log.specs.declared.staging.Staged.{Staged}
use Rattle.dn_plan.specs.Plan.{goes, barred, ends as call_ends, sealing_of}
use Rattle.dn_plan.specs.declared.phases.Raised.{Raised}
use Rattle.dn_plan.specs.declared.phases.SealPhase.TheVariants as seal_phase
use Rattle.dn_plan.specs.declared.phases.Way.{Way}
use Rattle.dn_plan.specs.declared.results.Ending.TheVariants.{Made as MadeEnd}
use Rattle.dn_ask.specs.Ask.{record_in, call_step}
use Rattle.dn_ask.specs.Fit.{FitsSeal}
use Rattle.dn_ask.specs.declared.asks.Seal.{Seal as SealWait}
use Rattle.dn_ask.specs.declared.asks.Seal.TheVariants as seal
use Rattle.dn_known.specs.State.{KnownState}
use Rattle.dn_services.specs.Sealing.{call_seal, known_after, place_in}
use Rattle.dn_services.specs.declared.seals.Seal.{Seal}
use Rattle.dn_lane.specs.Asked.{brief_of}
use Rattle.dn_lane.specs.Ends.{receipt_of, receipt_by}
use Rattle.dn_lane.specs.Fit.{FitsMode}
use Rattle.dn_lane.specs.Left.{is_sealing}
use Rattle.dn_lane.specs.State.{LaneState}
use Rattle.dn_lane.specs.Taken.{sealing_by}
use Rattle.dn_lane.specs.Turns.{turn_of, ending_of}
use Rattle.dn_lane.specs.declared.answers.Answer.{Answer}
use Rattle.dn_lane.specs.declared.answers.Answer.TheVariants.{Made}
use Rattle.dn_lane.specs.declared.answers.Turn.{Turn}
use Rattle.dn_lane.specs.declared.answers.Turn.TheVariants.{More, Done, Tended}
use Rattle.dn_lane.specs.declared.asked.Asked.{Asked}
use Rattle.dn_lane.specs.declared.asked.Asked.TheVariants as asked
use Rattle.dn_lane.specs.declared.base.Base.{Base}
use Rattle.dn_lane.specs.declared.modes.Mode.{Mode}
use Rattle.dn_lane.specs.declared.modes.Mode.TheVariants as mode
use Rattle.dn_lane.proofs.CallCauseLaws.{lane_of, call_of, told, not_more, stepped_by, task_waits}

-- What an exchange that ends a call as made answers, is the receipt that the lane tells beforehand.

abbrev receipt_told : Receipt → Answer → Receipt
receipt_told d (Made receipt way) = receipt
receipt_told d answer = d

abbrev receipt_turned : Receipt → Turn → Receipt
receipt_turned d More = d
receipt_turned d (Done answer) = receipt_told d answer
receipt_turned d (Tended answer) = d

itself : (n : ℕ) → (n == n) ≡ true
itself n = grind (arith, nat_tests)

foretold : (call : Call) (view : SessionView) (kept : List ℕ) (r : Raised) (place : Ref) (b : Bool) → b ≡ true
    → receipt_by (call_of call view kept) (call_step (if b then goes (call_ends (MadeEnd r.to (Some place) r.located)) else barred r.gate)).next
    ≡ Some (receipt_of call view kept r.to (Some place) r.located.held)
foretold call view kept r place true e = refl
foretold call view kept r place false e = absurd cc

made_by : (after : Base) (call : Call) (view : SessionView) (kept : List ℕ) (r : Raised) (place : Ref) (word : ℕ) (receipt : Receipt) (way : Way) (b : Bool)
    → told after (call_of call view kept) (if b then goes (call_ends (MadeEnd r.to (Some place) r.located)) else barred word) ≡ Done (Made receipt way)
    → receipt_of call view kept r.to (Some place) r.located.held ≡ receipt
made_by after call view kept r place word receipt way true e = ap (receipt_turned receipt) e
made_by after call view kept r place word receipt way false e = absurd cc

sealed_made : (k : KnownState) (f : Fetching) (waits : List Staged) (call : Call) (view : SessionView) (kept : List ℕ) (r : Raised) (word : ℕ) (receipt : Receipt) (way : Way) →
    let a = call_of call view kept in
    let m = mode.Sealing (seal.Call (seal_phase.Write r)) (call_seal call (sealing_of (seal_phase.Write r))) in
    turn_of (lane_of (record { known = k; staging = waits; fetch = f }) a m) word ≡ Done (Made receipt way)
    → ending_of (lane_of (record { known = k; staging = waits; fetch = f }) a m) ≡ Some receipt
sealed_made k f (w ∷ ws) call view kept r word receipt way e = absurd (not_more (Made receipt way) e)
sealed_made k f [] call view kept r word receipt way e =
    let s : Seal = call_seal call (sealing_of (seal_phase.Write r)) in
    let after : Base = record { known = known_after k s word []; staging = []; fetch = f } in
    foretold call view kept r (place_in k s) (r.gate == r.gate) (itself r.gate)
    ∙ ap (λ (x : Receipt). Some x) (made_by after call view kept r (place_in k s) word receipt way (word == r.gate)
    (stepped_by after (call_of call view kept) (seal.Call (seal_phase.Write r)) s (place_in k s) word (Made receipt way) (word == r.gate) e))

seal_made : (g : Base) (a : Asked) (wait : SealWait) (s : Seal) (word : ℕ) (receipt : Receipt) (way : Way) → FitsSeal (brief_of g.known.log.lane a) wait
    → s ≡ sealing_by a (record_in wait) → turn_of (lane_of g a (mode.Sealing wait s)) word ≡ Done (Made receipt way)
    → ending_of (lane_of g a (mode.Sealing wait s)) ≡ Some receipt
seal_made g a (seal.Task p) s word receipt way f same e = absurd (task_waits g.known g.fetch g.staging a p s word (Made receipt way) e)
seal_made g asked.Nothing (seal.Call p) s word receipt way f same e = absurd (f.0.named refl)
seal_made g asked.Task (seal.Call p) s word receipt way f same e = absurd (f.0.named refl)
seal_made g (asked.Call call view kept) (seal.Call (seal_phase.Write r)) s word receipt way f same e =
    let a : Asked = call_of call view kept in
    subst (λ x. ending_of (lane_of g a (mode.Sealing (seal.Call (seal_phase.Write r)) x)) ≡ Some receipt) (sym same)
    (sealed_made g.known g.fetch g.staging call view kept r word receipt way
    (subst (λ x. turn_of (lane_of g a (mode.Sealing (seal.Call (seal_phase.Write r)) x)) word ≡ Done (Made receipt way)) same e))

mode_made : (g : Base) (a : Asked) (m : Mode) (word : ℕ) (receipt : Receipt) (way : Way) → FitsMode g a m → is_sealing m ≡ true
    → turn_of (lane_of g a m) word ≡ Done (Made receipt way) → ending_of (lane_of g a m) ≡ Some receipt
mode_made g a mode.Idle word receipt way f s e = absurd cc
mode_made g a (mode.Acting wait) word receipt way f s e = absurd cc
mode_made g a (mode.Finding wait n) word receipt way f s e = absurd cc
mode_made g a (mode.Claiming wait c) word receipt way f s e = absurd cc
mode_made g a (mode.Sealing wait t) word receipt way f s e = seal_made g a wait t word receipt way f.0 f.3 e

pub ending_is : (l : LaneState) (word : ℕ) (receipt : Receipt) (way : Way) → FitsMode l.base l.asked l.mode → is_sealing l.mode ≡ true
    → turn_of l word ≡ Done (Made receipt way) → ending_of l ≡ Some receipt
ending_is l word receipt way f s e = mode_made l.base l.asked l.mode word receipt way f s e
