use Rattle.std.proofs.Common.{ℕ, ◌≡◌, Bool, true, false, List, [], ◌∷◌, ◌++◌, Option, Some, None, All, nat_eq, if◌then◌else◌, refl, sym, ◌∙◌, ap, subst, append-nil}
use Rattle.std.specs.List.{cons_option}
use Rattle.dn_word.specs.declared.positions.Position.{Position}
use Rattle.dn_hist.specs.declared.receipts.Receipt.{Receipt}
use Rattle.dn_route.specs.CallersOrder.{Told, told_now}
use Rattle.dn_route.specs.SessionState.{SessionState, heard, greater_of}
use Rattle.dn_callers.specs.Callers.{receipts_of}
use Rattle.dn_callers.specs.Sessions.{IsSession}
use Rattle.dn_machine.specs.Events.{Tells}
use Rattle.dn_script.specs.Asked.{calls_of}
use Rattle.dn_script.specs.Fit.{IsLine}
use Rattle.dn_script.specs.declared.scripts.Line.{Line}
use Rattle.dn_outcomes.specs.Does.{tells_unless, does}
use Rattle.dn_outcomes.specs.Runs.{after, IsRun}
use Rattle.dn_outcomes.specs.Sound.{IsWorld, MayHappen}
use Rattle.dn_outcomes.specs.Starts.{session_at}
use Rattle.dn_outcomes.specs.State.{World, Done, done, with_event}
use Rattle.dn_outcomes.specs.declared.events.Event.{Event}
use Rattle.dn_outcomes.specs.declared.events.Event.TheVariants as event
use Rattle.dn_outcomes.specs.declared.outcomes.Outcome.TheVariants.{Acted}
use Rattle.dn_outcomes.proofs.Facts.{its_session}
use Rattle.dn_outcomes.proofs.Kept.{kept}
use Rattle.dn_run.specs.Going.{IsGoing}
use Rattle.dn_run.specs.Happening.{Happening, happening}
use Rattle.dn_run.specs.Knowledge.{Knowledge, nothing_known, lasts_heard, lasts_told, told_by, learns, known_behind, known_by, IsUnheard, KnowsSo}
use Rattle.dn_run.specs.Run.{Run, run_of, after_steps, happenings}
use Rattle.dn_run.specs.Uncalled.{IsUncalled}
use Rattle.dn_run.proofs.Asked.{AreNumbered, numbers_on}
use Rattle.dn_run.proofs.Going.{goes, uncalled}
use Rattle.dn_run.proofs.Heads.{ToldAs, event_told}
use Rattle.dn_run.proofs.Hearing.{Hears, IsUntold, hears, last_if}

-- What sessions know and were told is by what has happened alone.

pub record Known (w : World) (lasts : ℕ → Position) (told : List Told) : Type 0 where
  pub lasts_are : (s : ℕ) → (w.machine.callers.sessions s).last ≡ lasts s
  pub told_is : w.machine.callers.told ≡ told
  pub unclosed : (s : ℕ) → w.machine.callers.closed s ≡ false

pick : (b : Bool) (x y u v : Position) → x ≡ u → y ≡ v → (if b then x else y) ≡ (if b then u else v)
pick true x y u v a c = a
pick false x y u v a c = c

heard_same : (o : Option Receipt) (f g : ℕ → Position) → ((s : ℕ) → f s ≡ g s) → (s : ℕ) → lasts_heard o f s ≡ lasts_heard o g s
heard_same None f g e s = e s
heard_same (Some r) f g e s =
    let t : ℕ = r.position.session in
    pick (nat_eq s t) (greater_of (f t) r.position) (f s) (greater_of (g t) r.position) (g s) (ap (λ (p : Position). greater_of p r.position) (e t)) (e s)

-- ---- the receipt is the happening's
cancel : (xs ys zs : List Receipt) → xs ++ ys ≡ xs ++ zs → ys ≡ zs
cancel [] ys zs e = e
cancel (x ∷ xs) ys zs e = (let rest : xs ++ ys ≡ xs ++ zs = cc in cancel xs ys zs rest)

one_same : (o p : Option Receipt) → cons_option o [] ≡ cons_option p [] → o ≡ p
one_same None None e = refl
one_same None (Some r) e = absurd (cc e)
one_same (Some r) None e = absurd (cc e)
one_same (Some r) (Some q) e = (let is : r ≡ q = cc in ap (λ (x : Receipt). Some x) is)

-- ---- an event that tells no session a position
untold_known : (w : World) (e : Event) (heirs : List ℕ) (k : Knowledge) → IsWorld w → MayHappen w e heirs → IsUntold e → Known w k.lasts k.told
    → Known (does w e heirs).world (lasts_heard (happening e (does w e heirs)).receipt k.lasts) (k.told ++ [])
untold_known w e heirs k h may o kn =
    let d : Done = does w e heirs in
    let x : Hears w.machine.callers d.world.machine.callers = hears w e heirs o in
    let t : ToldAs w d.world d.outcome (happening e d).receipt = event_told w e heirs h may in
    let same : x.heard ≡ (happening e d).receipt = one_same x.heard (happening e d).receipt
    (cancel (receipts_of w.machine.callers.receipts) (cons_option x.heard []) (cons_option (happening e d).receipt []) (sym x.receipts ∙ t.joins)) in record {
      lasts_are = λ s. x.lasts s ∙ heard_same x.heard (λ (j : ℕ). (w.machine.callers.sessions j).last) k.lasts kn.lasts_are s
          ∙ ap (λ (r : Option Receipt). lasts_heard r k.lasts s) same;
      told_is = x.told ∙ kn.told_is ∙ sym (append-nil k.told);
      unclosed = λ s. x.closed s ∙ kn.unclosed s;
    }

-- ---- a session is told a position
abbrev TellsKnown : ℕ → ℕ → Knowledge → Done → Type 0
TellsKnown s t k d =
    Known d.world (lasts_heard (happening (event.Tell s t) d).receipt (lasts_told (event.Tell s t) k.lasts)) (k.told ++ told_by (event.Tell s t) k)

tell_known : (w : World) (s t : ℕ) (k : Knowledge) → IsWorld w → IsSession t → AreNumbered w k.asked → Known w k.lasts k.told
    → TellsKnown s t k (done (with_event w (Tells t (session_at w s).last)) Acted)
tell_known w s t k h i are kn =
    let p : Position = (session_at w s).last in
    let own : SessionState = session_at w t in record {
      lasts_are = λ j. last_if (nat_eq j t) (heard own p) (session_at w j)
          ∙ pick (nat_eq j t) (greater_of own.last p) (session_at w j).last (greater_of (k.lasts t) (k.lasts s)) (k.lasts j)
          (ap (λ (q : Position). greater_of q p) (kn.lasts_are t) ∙ ap (λ (q : Position). greater_of (k.lasts t) q) (kn.lasts_are s)) (kn.lasts_are j);
      told_is = ap (λ (xs : List Told). xs ++ told_now own p ∷ []) kn.told_is
          ∙ ap (λ (n : ℕ). k.told ++ (record { session = n; number = own.number; position = p }) ∷ []) (its_session w t h i)
          ∙ ap (λ (n : ℕ). k.told ++ (record { session = t; number = n; position = p }) ∷ []) (are t)
          ∙ ap (λ (q : Position). k.told ++ (record { session = t; number = calls_of t k.asked; position = q }) ∷ []) (kn.lasts_are s);
      unclosed = kn.unclosed;
    }

tell_so : (w : World) (s t : ℕ) (heirs : List ℕ) (k : Knowledge) → IsWorld w → IsSession t → AreNumbered w k.asked → Known w k.lasts k.told
    → TellsKnown s t k (does w (event.Tell s t) heirs)
tell_so w s t heirs k h i are kn = subst (TellsKnown s t k) (sym (ap (tells_unless w s t) (kn.unclosed t))) (tell_known w s t k h i are kn)

-- ---- all events
event_known : (w : World) (e : Event) (heirs : List ℕ) (k : Knowledge) → IsWorld w → MayHappen w e heirs → AreNumbered w k.asked → Known w k.lasts k.told
    → Known (does w e heirs).world (learns k (happening e (does w e heirs))).lasts (learns k (happening e (does w e heirs))).told
event_known w (event.Start s lane call) heirs k h may are kn = untold_known w (event.Start s lane call) heirs k h may tt kn
event_known w (event.Step n) heirs k h may are kn = untold_known w (event.Step n) heirs k h may tt kn
event_known w (event.Flow n index) heirs k h may are kn = untold_known w (event.Flow n index) heirs k h may tt kn
event_known w (event.Merge n) heirs k h may are kn = untold_known w (event.Merge n) heirs k h may tt kn
event_known w event.Monitor heirs k h may are kn = untold_known w event.Monitor heirs k h may tt kn
event_known w (event.Refresh s) heirs k h may are kn = untold_known w (event.Refresh s) heirs k h may tt kn
event_known w (event.Give o) heirs k h may are kn = untold_known w (event.Give o) heirs k h may tt kn
event_known w event.DropOrder heirs k h may are kn = untold_known w event.DropOrder heirs k h may tt kn
event_known w (event.Queue n t) heirs k h may are kn = untold_known w (event.Queue n t) heirs k h may tt kn
event_known w event.Add heirs k h may are kn = untold_known w event.Add heirs k h may tt kn
event_known w (event.Tell s t) heirs k h may are kn = tell_so w s t heirs k h may.1 are kn

events_known : (w : World) (es : List (Event × List ℕ)) (k : Knowledge) → IsWorld w → IsRun w es → AreNumbered w k.asked → Known w k.lasts k.told
    → Known (after w es) (known_behind k (happenings w es)).lasts (known_behind k (happenings w es)).told
events_known w [] k h run are kn = kn
events_known w (x ∷ xs) k h run are kn =
    let d : Done = does w x.0 x.1 in
    events_known d.world xs (learns k (happening x.0 d)) (kept w x.0 x.1 h run.0) run.1
    (numbers_on w x.0 x.1 k.asked h run.0 are) (event_known w x.0 x.1 k h run.0 are kn)

-- ---- a run
knows_over : (w : World) (lines : List Line) (r : Run) → IsWorld w → IsUncalled w → IsUnheard w → IsGoing w lines r → KnowsSo r
knows_over w lines r h u f g =
    let es : List (Event × List ℕ) = g.of.es in
    let kn : Known (after w es) (known_by (happenings w es)).lasts (known_by (happenings w es)).told = events_known w es nothing_known h g.of.may u.numbers
    (record { lasts_are = f.lasts; told_is = u.told; unclosed = f.unclosed }) in record {
      lasts = λ s. ap (λ (x : World). (x.machine.callers.sessions s).last) g.of.world ∙ kn.lasts_are s
          ∙ ap (λ (past : List Happening). (known_by past).lasts s) (sym g.of.past);
      told = ap (λ (x : World). x.machine.callers.told) g.of.world ∙ kn.told_is ∙ ap (λ (past : List Happening). (known_by past).told) (sym g.of.past);
    }

pub knows : (w : World) (lines : List Line) (n : ℕ) → IsWorld w → IsUncalled w → IsUnheard w → All IsLine lines → KnowsSo (after_steps n (run_of w lines))
knows w lines n h u f fit = knows_over w lines (after_steps n (run_of w lines)) h u f (goes w lines n h (uncalled w u) fit)
