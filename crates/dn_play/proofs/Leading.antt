use Rattle.std.proofs.Common.{ℕ, ◌≡◌, ◌+◌, ◌++◌, Bool, List, Option, Some, None, refl, sym, ◌∙◌, ap, subst}
use Rattle.std.proofs.lemmas.Option.{none-some}
use Rattle.dn_callers.specs.Sessions.{IsSession}
use Rattle.dn_monitor.specs.Heirs.{no_heirs}
use Rattle.dn_outcomes.specs.Does.{does}
use Rattle.dn_outcomes.specs.Sound.{MayHappen}
use Rattle.dn_outcomes.specs.State.{World}
use Rattle.dn_outcomes.specs.Told.{HasNumber, Names}
use Rattle.dn_outcomes.specs.declared.events.Event.{Event}
use Rattle.dn_outcomes.specs.declared.events.Event.TheVariants as event
use Rattle.dn_outcomes.specs.declared.outcomes.CallAnswer.{CallAnswer}
use Rattle.dn_outcomes.specs.declared.outcomes.Outcome.{Outcome}
use Rattle.dn_outcomes.specs.declared.outcomes.Outcome.TheVariants as outcome
use Rattle.dn_outcomes.proofs.ToldEvents.{names_so}
use Rattle.dn_script.specs.declared.scripts.Line.{Line}
use Rattle.dn_waiting.specs.State.{call_of}
use Rattle.dn_waiting.specs.declared.calls.OpenCall.{OpenCall}
use Rattle.dn_hist.specs.declared.receipts.Receipt.{Receipt}
use Rattle.dn_run.specs.Doing.{Doing, left_of, order_after}
use Rattle.dn_run.specs.Going.{HaveCalls}
use Rattle.dn_run.specs.Happening.{happening, receipt_if, makes_call}
use Rattle.dn_run.specs.Run.{Run, answered_to, mover_of, loader, loader_of, goes_on, step, after_steps}
use Rattle.dn_run.specs.Text.{text_of, step_text}
use Rattle.dn_run.specs.declared.orders.MoveOrder.{MoveOrder}
use Rattle.dn_run.proofs.Going.{may_go, session_of_call}
use Rattle.dn_play.specs.At.{IsAt, IsGiven, IsNext, IsToSession, Leads, Stops}
use Rattle.dn_play.specs.declared.players.Player.{Player}
use Rattle.dn_play.specs.declared.stops.Stop.{Stop}
use Rattle.dn_play.proofs.More.{at_ordered, at_next, order_kept, receipt_same}
use Rattle.dn_play.specs.declared.stops.Stop.TheVariants.{OutOfMemory}
use Rattle.dn_play.proofs.Stopping.{after_sum, step_next, leaves_event, stops_print, stops_behind}

-- A player goes on with a run.

pub leads_now : (w : World) (lines : List Line) (now : List ℕ) (q : Player) (out : List ℕ) (r : Run) → IsAt w lines now q out r → loader r ≡ None → Leads w lines now q out r r.doing
leads_now w lines now q out r at none = record { count = 0; at = at; loads = none; doing = refl; left = refl }

-- behind a step that leaves the lines
pub leads_after : (w : World) (lines : List Line) (now : List ℕ) (q : Player) (out : List ℕ) (r x : Run) (d : Doing) → step r ≡ x → x.lines ≡ r.lines → Leads w lines now q out x d → Leads w lines now q out r d
leads_after w lines now q out r x d is same h =
    let next : after_steps h.count x ≡ after_steps (h.count + 1) r = ap (after_steps h.count) (sym is) ∙ after_sum h.count 1 r in record {
      count = h.count + 1;
      at = subst (λ (y : Run). IsAt w lines now q out y) next h.at;
      loads = ap loader (sym next) ∙ h.loads;
      doing = ap (λ (y : Run). y.doing) (sym next) ∙ h.doing;
      left = ap (λ (y : Run). y.lines) (sym next) ∙ h.left ∙ same;
    }

pub stops_after : (w : World) (lines : List Line) (now : List ℕ) (q : Player) (out : List ℕ) (r x : Run) (stop : Stop) → step r ≡ x → Stops w lines now q out x stop → Stops w lines now q out r stop
stops_after w lines now q out r x stop is h = stops_behind w lines now q out r 1 stop (subst (λ (y : Run). Stops w lines now q out y stop) (sym is) h)

-- ---- the session that an attempt was answered to
has_number : (w : World) (s number : ℕ) (c : Option OpenCall) → call_of w.waiting s ≡ c → HaveCalls w → HasNumber c number → IsSession s
has_number w s number None is own h = absurd h
has_number w s number (Some c) is own h = session_of_call w s c own is

named_session : (w : World) (o : Outcome) (s : ℕ) → HaveCalls w → Names w.waiting o → answered_to o ≡ Some s → IsSession s
named_session w outcome.Nothing s own h is = absurd (none-some s is)
named_session w outcome.Acted s own h is = absurd (none-some s is)
named_session w (outcome.Numbered number) s own h is = absurd (none-some s is)
named_session w outcome.Busy s own h is = absurd (none-some s is)
named_session w outcome.Closed s own h is = absurd (none-some s is)
named_session w (outcome.Answered t number answer given) s own h is = (let same : t ≡ s = cc in subst IsSession same (has_number w t number (call_of w.waiting t) refl own h))
named_session w (outcome.GivenUp t number) s own h is = absurd (none-some s is)
named_session w (outcome.Ordered answer) s own h is = absurd (none-some s is)
named_session w outcome.MonitorBusy s own h is = absurd (none-some s is)
named_session w (outcome.Tended answer) s own h is = absurd (none-some s is)
named_session w (outcome.Added lane) s own h is = absurd (none-some s is)
named_session w outcome.LanesFull s own h is = absurd (none-some s is)
named_session w outcome.NoLane s own h is = absurd (none-some s is)
named_session w (outcome.Merged turn) s own h is = absurd (none-some s is)
named_session w (outcome.Fault actor) s own h is = absurd (none-some s is)

pub to_session : (w : World) (lines : List Line) (words : List ℕ) (p : Player) (out : List ℕ) (r : Run) (n : ℕ) (o : Outcome) → IsAt w lines words p out r → o ≡ (does r.world (event.Step n) no_heirs).outcome → IsToSession o
to_session w lines words p out r n o at is s to =
    named_session r.world (does r.world (event.Step n) no_heirs).outcome s at.going.own (names_so r.world (event.Step n) no_heirs at.going.sound tt) (ap answered_to (sym is) ∙ to)

pub no_answer : (o : Outcome) → ((s number : ℕ) (answer : CallAnswer) (given : Bool) → o ≡ outcome.Answered s number answer given → ⊥) → answered_to o ≡ None
no_answer outcome.Nothing a = refl
no_answer outcome.Acted a = refl
no_answer (outcome.Numbered number) a = refl
no_answer outcome.Busy a = refl
no_answer outcome.Closed a = refl
no_answer (outcome.Answered t number answer given) a = absurd (a t number answer given refl)
no_answer (outcome.GivenUp t number) a = refl
no_answer (outcome.Ordered answer) a = refl
no_answer outcome.MonitorBusy a = refl
no_answer (outcome.Tended answer) a = refl
no_answer (outcome.Added lane) a = refl
no_answer outcome.LanesFull a = refl
no_answer outcome.NoLane a = refl
no_answer (outcome.Merged turn) a = refl
no_answer (outcome.Fault actor) a = refl

pub no_loader : (r : Run) → r.mover ≡ None → loader r ≡ None
no_loader r e = ap (loader_of r.world) e

-- ---- a lane's action is done and printed
pub stepped : (w : World) (lines : List Line) (words : List ℕ) (p : Player) (old : List ℕ) (r : Run) (n : ℕ) (now : List ℕ) (q : Player) (out : List ℕ) (o : Outcome)
    → IsAt w lines words p old r → IsNext r (event.Step n) → IsGiven r now p q (event.Step n) o → out ≡ old ++ step_text n (receipt_if (makes_call o) q.world.history) o
    → IsAt w lines now q out (goes_on r (event.Step n) (does r.world (event.Step n) no_heirs))
stepped w lines words p old r n now q out o at may given printed =
    at_next w lines words p old r (event.Step n) now q out o at may given refl
    (printed ∙ ap (λ (x : Option Receipt). old ++ step_text n x o) (receipt_same r now p q (event.Step n) o given))

-- what is left by the outcome
pub leads_left : (w : World) (lines : List Line) (now : List ℕ) (q : Player) (out : List ℕ) (r x : Run) (o d : Outcome) → step r ≡ x → x.lines ≡ r.lines → x.doing ≡ left_of r.world r.doing d → o ≡ d
    → Leads w lines now q out x x.doing → Leads w lines now q out r (left_of r.world r.doing o)
leads_left w lines now q out r x o d is same doing told h =
    subst (λ (k : Doing). Leads w lines now q out r k) (doing ∙ ap (left_of r.world r.doing) (sym told)) (leads_after w lines now q out r x x.doing is same h)

-- ---- an event that moves no call is done and printed
pub leads_ordered : (w : World) (lines : List Line) (words : List ℕ) (p : Player) (old : List ℕ) (r : Run) (e : Event) (now : List ℕ) (q : Player) (m : Option MoveOrder) (out : List ℕ) (o : Outcome)
    → IsAt w lines words p old r → IsNext r e → IsGiven r now p q e o → mover_of e (does r.world e no_heirs).outcome ≡ None → m ≡ order_after r.doing r.order e o
    → out ≡ old ++ text_of r.order e (happening e (does r.world e no_heirs)).receipt o → Leads w lines now (record q { order = m }) out r (left_of r.world r.doing o)
leads_ordered w lines words p old r e now q m out o at may given quiet known printed =
    let x : Run = goes_on r e (does r.world e no_heirs) in
    leads_left w lines now (record q { order = m }) out r x o (does r.world e no_heirs).outcome (step_next r e may) refl refl given.outcome
    (leads_now w lines now (record q { order = m }) out x (at_ordered w lines words p old r e now q m out o at may given known printed) (no_loader x quiet))

pub leads_quiet : (w : World) (lines : List Line) (words : List ℕ) (p : Player) (old : List ℕ) (r : Run) (e : Event) (now : List ℕ) (q : Player) (out : List ℕ) (o : Outcome)
    → IsAt w lines words p old r → IsNext r e → IsGiven r now p q e o → mover_of e (does r.world e no_heirs).outcome ≡ None → order_after r.doing r.order e o ≡ r.order
    → out ≡ old ++ text_of r.order e (happening e (does r.world e no_heirs)).receipt o → Leads w lines now q out r (left_of r.world r.doing o)
leads_quiet w lines words p old r e now q out o at may given quiet keeps printed =
    leads_ordered w lines words p old r e now q q.order out o at may given quiet (order_kept w lines words p old r e now q o at given keeps) printed

pub stops_quiet : (w : World) (lines : List Line) (r : Run) (e : Event) (now : List ℕ) (p q : Player) (out : List ℕ) (o : Outcome) (stop : Stop)
    → IsNext r e → IsGiven r now p q e o → stop ≡ OutOfMemory → Stops w lines now q out r stop
stops_quiet w lines r e now p q out o stop may given is =
    stops_print w lines now q out r stop is (leaves_event r now p q e o (left_of r.world r.doing (does r.world e no_heirs).outcome) given (step_next r e may))

-- what is next may happen
pub next_may : (w : World) (lines : List Line) (words : List ℕ) (p : Player) (out : List ℕ) (r : Run) (e : Event) → IsAt w lines words p out r → IsNext r e → MayHappen r.world e no_heirs
next_may w lines words p out r e at may = (may_go r.world r.doing e at.going.doing at.going.own may.next).may
