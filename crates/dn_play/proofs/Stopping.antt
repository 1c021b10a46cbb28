use Rattle.std.proofs.Common.{ℕ, zero, suc, ◌≡◌, ◌+◌, List, Some, sym, ◌∙◌, ap, subst, arith}
use Rattle.std.proofs.lemmas.Option.{none-some}
use Rattle.dn_monitor.specs.Heirs.{no_heirs}
use Rattle.dn_outcomes.specs.Does.{does}
use Rattle.dn_outcomes.specs.State.{World}
use Rattle.dn_outcomes.specs.declared.events.Event.{Event}
use Rattle.dn_outcomes.specs.declared.outcomes.Outcome.{Outcome}
use Rattle.dn_script.specs.declared.scripts.Line.{Line}
use Rattle.dn_run.specs.Doing.{Doing}
use Rattle.dn_run.specs.Run.{Run, loader, with_event, loads_deed, goes_on, acts, steps, step, after_steps}
use Rattle.dn_play.specs.At.{IsAt, HasNext, IsNext, LeavesRun, Stops, StopsEvent, IsGiven}
use Rattle.dn_play.specs.declared.players.Player.{Player}
use Rattle.dn_play.specs.declared.stops.Stop.{Stop}
use Rattle.dn_play.specs.declared.stops.Stop.TheVariants.{Long, Pool, OutOfMemory}

-- Where a player stops.

-- ---- steps of a run
pub step_load : (r : Run) (s : ℕ) → loader r ≡ Some s → step r ≡ loads_deed r s
step_load r s e = ap (steps r) e

pub step_next : (r : Run) (e : Event) → IsNext r e → step r ≡ goes_on r e (does r.world e no_heirs)
step_next r e h = ap (steps r) h.loads ∙ ap (acts r) h.next

pub after_sum : (j k : ℕ) (r : Run) → after_steps j (after_steps k r) ≡ after_steps (j + k) r
after_sum zero k r = (let same : k ≡ 0 + k = omega arith in ap (λ (n : ℕ). after_steps n r) same)
after_sum (suc j) k r = (let same : suc (j + k) ≡ suc j + k = omega arith in ap step (after_sum j k r) ∙ ap (λ (n : ℕ). after_steps n r) same)

-- ---- at an event
pub words_at : (w : World) (lines : List Line) (words : List ℕ) (p : Player) (out : List ℕ) (r : Run) → IsAt w lines words p out r → r.world.machine.words ≡ words
words_at w lines words p out r at = ap (λ (v : World). v.machine.words) (sym at.world)

pub stops_event : (w : World) (lines : List Line) (words : List ℕ) (p : Player) (out : List ℕ) (r : Run) (now : List ℕ) (q : Player) (stop : Stop) → IsAt w lines words p out r → HasNext r
    → StopsEvent words p now q stop → Stops w lines now q out r stop
stops_event w lines words p out r now q Long at more h = record {
  count = 0;
  at = subst (λ (ws : List ℕ). IsAt w lines ws q out r) (sym h.0) (subst (λ (x : Player). IsAt w lines words x out r) (sym h.1) at);
  all = ap (λ (x : Player). x.events) h.1 ∙ h.2;
  more = more;
}
stops_event w lines words p out r now q Pool at more h = tt
stops_event w lines words p out r now q OutOfMemory at more h = record { count = 0; words = words_at w lines words p out r at ∙ sym h }

pub next_more : (r : Run) (e : Event) → IsNext r e → HasNext r
next_more r e h none = (e, h.next)

pub load_more : (r : Run) (s : ℕ) → loader r ≡ Some s → HasNext r
load_more r s e none = absurd (none-some s (sym none ∙ e))

-- ---- behind an event, where a line isn't printed
pub leaves_event : (r : Run) (now : List ℕ) (p q : Player) (e : Event) (o : Outcome) (d : Doing) → IsGiven r now p q e o → step r ≡ with_event r e (does r.world e no_heirs) d → LeavesRun now r
leaves_event r now p q e o d h is = record { count = 1; words = ap (λ (x : Run). x.world.machine.words) is ∙ ap (λ (v : World). v.machine.words) (sym h.world) }

pub stops_print : (w : World) (lines : List Line) (now : List ℕ) (q : Player) (out : List ℕ) (r : Run) (stop : Stop) → stop ≡ OutOfMemory → LeavesRun now r → Stops w lines now q out r stop
stops_print w lines now q out r stop is h = subst (λ (x : Stop). Stops w lines now q out r x) (sym is) h

-- ---- behind some steps
pub stops_behind : (w : World) (lines : List Line) (now : List ℕ) (q : Player) (out : List ℕ) (r : Run) (k : ℕ) (stop : Stop) → Stops w lines now q out (after_steps k r) stop → Stops w lines now q out r stop
stops_behind w lines now q out r k Long h = record {
  count = h.count + k;
  at = subst (λ (x : Run). IsAt w lines now q out x) (after_sum h.count k r) h.at;
  all = h.all;
  more = subst HasNext (after_sum h.count k r) h.more;
}
stops_behind w lines now q out r k Pool h = tt
stops_behind w lines now q out r k OutOfMemory h = record { count = h.count + k; words = ap (λ (x : Run). x.world.machine.words) (sym (after_sum h.count k r)) ∙ h.words }
