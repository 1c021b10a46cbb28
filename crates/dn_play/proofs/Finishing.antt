use Rattle.std.proofs.Common.{ℕ, ◌≡◌, ◌<◌, ◌≤◌, ◌-◌, ◌^◌, List, Option, Some, None, refl, sym, ◌∙◌, ap, subst, arith}
use Rattle.std.proofs.lemmas.Option.{none-some}
use Rattle.dn_outcomes.specs.State.{World}
use Rattle.dn_outcomes.specs.declared.outcomes.Outcome.{Outcome}
use Rattle.dn_script.specs.declared.scripts.Line.{Line}
use Rattle.dn_waiting.specs.State.{call_of}
use Rattle.dn_waiting.specs.declared.calls.OpenCall.{OpenCall}
use Rattle.dn_waiting.specs.declared.calls.Place.{Place}
use Rattle.dn_run.specs.Doing.{Doing, Finish, moves_at, moves, next_of, left_of}
use Rattle.dn_run.specs.Run.{Run, loader, after_steps}
use Rattle.dn_play.specs.At.{IsAt, CanGo, EndsLine, Finishes, Goes, Halts, IsNext, Leads, Stops, left_by, place_of}
use Rattle.dn_play.specs.declared.players.Player.{Player}
use Rattle.dn_play.specs.declared.stops.Stop.{Stop}
use Rattle.dn_play.proofs.Repeating.{leads_behind}
use Rattle.dn_play.proofs.Stopping.{stops_behind}

-- A call is run to its end.

-- ---- what is next
moves_from : (s : ℕ) (o : Option OpenCall) (p : Place) → place_of o ≡ Some p → moves s o ≡ Some (moves_at s p)
moves_from s None p e = absurd (none-some p e)
moves_from s (Some c) p e = (let same : c.place ≡ p = cc in ap (λ (x : Place). Some (moves_at s x)) same)

moves_none : (s : ℕ) (o : Option OpenCall) → place_of o ≡ None → moves s o ≡ None
moves_none s None e = refl
moves_none s (Some c) e = absurd (none-some c.place (sym e))

place_same : (w : World) (lines : List Line) (now : List ℕ) (q : Player) (out : List ℕ) (r : Run) (s : ℕ) → IsAt w lines now q out r → place_of (call_of q.world.crew.waiting s) ≡ place_of (call_of r.world.waiting s)
place_same w lines now q out r s at = ap (λ (v : World). place_of (call_of v.waiting s)) at.world

next_move : (w : World) (lines : List Line) (now : List ℕ) (q : Player) (out : List ℕ) (r : Run) (s : ℕ) (p : Place) → IsAt w lines now q out r → loader r ≡ None → r.doing ≡ Finish s
    → place_of (call_of q.world.crew.waiting s) ≡ Some p → IsNext r (moves_at s p)
next_move w lines now q out r s p at none is there = record {
  loads = none;
  next = ap (next_of r.world) is ∙ moves_from s (call_of r.world.waiting s) p (sym (place_same w lines now q out r s at) ∙ there);
}

pub can_move : (words : List ℕ) (p : Player) (out : List ℕ) (s : ℕ) (place : Place) → CanGo words p out (Finishes s) → place_of (call_of p.world.crew.waiting s) ≡ Some place → CanGo words p out (λ r. IsNext r (moves_at s place))
can_move words p out s place h there = record {
  start = h.start;
  lines = h.lines;
  run = h.run;
  at = h.at;
  may_go = next_move h.start h.lines words p out h.run s place h.at h.may_go.loads h.may_go.doing there;
}

-- ---- one event more
pub leads_on : (w : World) (lines : List Line) (words now : List ℕ) (p q : Player) (old out : List ℕ) (r : Run) (s : ℕ) (place : Place) (o : Outcome) → place_of (call_of p.world.crew.waiting s) ≡ Some place
    → Leads w lines words p old r (Finish s) → Goes words p old now q out (λ x. IsNext x (moves_at s place)) (left_by o) → Leads w lines now q out r (Finish s)
leads_on w lines words now p q old out r s place o there h goes =
    let x : Run = after_steps h.count r in
    leads_behind w lines words now p q old out r (Finish s) (Finish s) h
    (subst (λ (d : Doing). Leads w lines now q out x d) (ap (λ (d : Doing). left_of x.world d o) h.doing)
    (goes.is w lines x h.at (next_move w lines words p old x s place h.at h.loads h.doing there)))

pub halts_on : (w : World) (lines : List Line) (words now : List ℕ) (p q : Player) (old out : List ℕ) (r : Run) (s : ℕ) (place : Place) (stop : Stop) → place_of (call_of p.world.crew.waiting s) ≡ Some place
    → Leads w lines words p old r (Finish s) → Halts words p old now q out (λ x. IsNext x (moves_at s place)) stop → Stops w lines now q out r stop
halts_on w lines words now p q old out r s place stop there h halts =
    (let x : Run = after_steps h.count r in stops_behind w lines now q out r h.count stop (halts.is w lines x h.at (next_move w lines words p old x s place h.at h.loads h.doing there)))

pub can_on : (words now : List ℕ) (p q : Player) (old out : List ℕ) (s : ℕ) (place : Place) (o : Outcome) → place_of (call_of p.world.crew.waiting s) ≡ Some place → CanGo words p old (Finishes s)
    → Goes words p old now q out (λ x. IsNext x (moves_at s place)) (left_by o) → CanGo now q out (Finishes s)
can_on words now p q old out s place o there h goes =
    let l : Leads h.start h.lines now q out h.run (Finish s) =
    leads_on h.start h.lines words now p q old out h.run s place o there (record { count = 0; at = h.at; loads = h.may_go.loads; doing = h.may_go.doing; left = refl }) goes in record {
      start = h.start;
      lines = h.lines;
      run = after_steps l.count h.run;
      at = l.at;
      may_go = record { loads = l.loads; doing = l.doing };
    }

-- ---- the call has ended
pub ends_call : (w : World) (lines : List Line) (now : List ℕ) (q : Player) (out : List ℕ) (r : Run) (s : ℕ) → place_of (call_of q.world.crew.waiting s) ≡ None → Leads w lines now q out r (Finish s) → EndsLine w lines now q out r
ends_call w lines now q out r s none h =
    let x : Run = after_steps h.count r in record {
      count = h.count;
      at = h.at;
      between = record { loads = h.loads; doing = ap (next_of x.world) h.doing ∙ moves_none s (call_of x.world.waiting s) (sym (place_same w lines now q out x s h.at) ∙ none) };
      left = h.left;
    }

pub fewer_left : (old new : ℕ) → old < new → new ≤ 2 ^ 22 → 2 ^ 22 - new < 2 ^ 22 - old
fewer_left old new lt few = omega (arith, lt, few)
