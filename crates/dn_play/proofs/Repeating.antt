use Rattle.std.proofs.Common.{ℕ, suc, ◌≡◌, ◌<◌, ◌+◌, ◌-◌, Bool, true, false, List, None, if◌then◌else◌, refl, sym, ◌∙◌, ap, subst, arith}
use Rattle.dn_outcomes.specs.State.{World}
use Rattle.dn_outcomes.specs.declared.events.Event.{Event}
use Rattle.dn_outcomes.specs.declared.outcomes.Outcome.{Outcome}
use Rattle.dn_script.specs.declared.scripts.Line.{Line}
use Rattle.dn_run.specs.Doing.{Doing, Rest, Repeat, next_of, left_of, finds_nothing}
use Rattle.dn_run.specs.Run.{Run, loader, after_steps}
use Rattle.dn_play.specs.At.{IsAt, CanGo, EndsLine, Goes, Halts, IsNext, Leads, Repeats, Stops, left_by}
use Rattle.dn_play.specs.declared.players.Player.{Player}
use Rattle.dn_play.specs.declared.stops.Stop.{Stop}
use Rattle.dn_play.proofs.Stopping.{after_sum, stops_behind}

-- An event is repeated.

-- ---- behind steps that were made
pub leads_behind : (w : World) (lines : List Line) (words now : List ℕ) (p q : Player) (old out : List ℕ) (r : Run) (d e : Doing) → (h : Leads w lines words p old r d) → Leads w lines now q out (after_steps h.count r) e → Leads w lines now q out r e
leads_behind w lines words now p q old out r d e h l =
    let next = after_sum l.count h.count r in record {
      count = l.count + h.count;
      at = subst (λ (y : Run). IsAt w lines now q out y) next l.at;
      loads = ap loader (sym next) ∙ l.loads;
      doing = ap (λ (y : Run). y.doing) (sym next) ∙ l.doing;
      left = ap (λ (y : Run). y.lines) (sym next) ∙ l.left ∙ h.left;
    }

pub ends_so : (w : World) (lines : List Line) (now : List ℕ) (q : Player) (out : List ℕ) (r : Run) (d : Doing) → ((v : World) → next_of v d ≡ None) → Leads w lines now q out r d → EndsLine w lines now q out r
ends_so w lines now q out r d none h = record {
  count = h.count;
  at = h.at;
  between = record { loads = h.loads; doing = ap (λ (x : Doing). next_of (after_steps h.count r).world x) h.doing ∙ none (after_steps h.count r).world };
  left = h.left;
}

-- ---- the event is next
next_again : (r : Run) (e : Event) (k : ℕ) → loader r ≡ None → r.doing ≡ Repeat e (suc k) → IsNext r e
next_again r e k none is = record { loads = none; next = ap (next_of r.world) is }

count_of : (count done : ℕ) → done < count → count - done ≡ suc (count - (done + 1))
count_of count done lt = omega (arith, lt)

pub leads_next : (w : World) (lines : List Line) (now : List ℕ) (q : Player) (out : List ℕ) (r : Run) (e : Event) (count done : ℕ) → done < count → (h : Leads w lines now q out r (Repeat e (count - done))) → IsNext (after_steps h.count r) e
leads_next w lines now q out r e count done lt h = next_again (after_steps h.count r) e (count - (done + 1)) h.loads (h.doing ∙ ap (Repeat e) (count_of count done lt))

pub can_next : (words : List ℕ) (p : Player) (out : List ℕ) (e : Event) (count done : ℕ) → done < count → CanGo words p out (Repeats e (count - done)) → CanGo words p out (λ r. IsNext r e)
can_next words p out e count done lt h = record {
  start = h.start;
  lines = h.lines;
  run = h.run;
  at = h.at;
  may_go = next_again h.run e (count - (done + 1)) h.may_go.loads (h.may_go.doing ∙ ap (Repeat e) (count_of count done lt));
}

-- what is left once it has found something to do, or nothing
left_again : (w : World) (e : Event) (k : ℕ) (o : Outcome) (d : Doing) → d ≡ Repeat e (suc k) → finds_nothing o ≡ false → left_of w d o ≡ Repeat e k
left_again w e k o d is found = ap (λ (x : Doing). left_of w x o) is ∙ by (finds_nothing o) found where
  by : (b : Bool) → b ≡ false → (if b then Rest else Repeat e k) ≡ Repeat e k
  by true f = absurd (cc)
  by false f = refl

left_none : (w : World) (e : Event) (k : ℕ) (o : Outcome) (d : Doing) → d ≡ Repeat e (suc k) → finds_nothing o ≡ true → left_of w d o ≡ Rest
left_none w e k o d is found = ap (λ (x : Doing). left_of w x o) is ∙ by (finds_nothing o) found where
  by : (b : Bool) → b ≡ true → (if b then Rest else Repeat e k) ≡ Rest
  by true f = refl
  by false f = absurd (cc)

-- one more is done
pub leads_again : (w : World) (lines : List Line) (words now : List ℕ) (p q : Player) (old out : List ℕ) (r : Run) (e : Event) (count done : ℕ) (o : Outcome) → done < count → finds_nothing o ≡ false
    → Leads w lines words p old r (Repeat e (count - done)) → Goes words p old now q out (λ x. IsNext x e) (left_by o) → Leads w lines now q out r (Repeat e (count - (done + 1)))
leads_again w lines words now p q old out r e count done o lt found h goes =
    let x : Run = after_steps h.count r in
    leads_behind w lines words now p q old out r (Repeat e (count - done)) (Repeat e (count - (done + 1))) h
    (subst (λ (d : Doing). Leads w lines now q out x d) (left_again x.world e (count - (done + 1)) o x.doing (h.doing ∙ ap (Repeat e) (count_of count done lt)) found)
    (goes.is w lines x h.at (leads_next w lines words p old r e count done lt h)))

pub ends_found : (w : World) (lines : List Line) (words now : List ℕ) (p q : Player) (old out : List ℕ) (r : Run) (e : Event) (count done : ℕ) (o : Outcome) → done < count → finds_nothing o ≡ true
    → Leads w lines words p old r (Repeat e (count - done)) → Goes words p old now q out (λ x. IsNext x e) (left_by o) → EndsLine w lines now q out r
ends_found w lines words now p q old out r e count done o lt found h goes =
    let x : Run = after_steps h.count r in
    ends_so w lines now q out r Rest (λ v. refl) (leads_behind w lines words now p q old out r (Repeat e (count - done)) Rest h
    (subst (λ (d : Doing). Leads w lines now q out x d) (left_none x.world e (count - (done + 1)) o x.doing (h.doing ∙ ap (Repeat e) (count_of count done lt)) found)
    (goes.is w lines x h.at (leads_next w lines words p old r e count done lt h))))

pub halts_again : (w : World) (lines : List Line) (words now : List ℕ) (p q : Player) (old out : List ℕ) (r : Run) (e : Event) (count done : ℕ) (stop : Stop) → done < count
    → Leads w lines words p old r (Repeat e (count - done)) → Halts words p old now q out (λ x. IsNext x e) stop → Stops w lines now q out r stop
halts_again w lines words now p q old out r e count done stop lt h halts =
    stops_behind w lines now q out r h.count stop (halts.is w lines (after_steps h.count r) h.at (leads_next w lines words p old r e count done lt h))

none_left : (e : Event) (n : ℕ) (v : World) → n ≡ 0 → next_of v (Repeat e n) ≡ None
none_left e n v is = ap (λ (k : ℕ). next_of v (Repeat e k)) is

pub ends_all : (w : World) (lines : List Line) (now : List ℕ) (q : Player) (out : List ℕ) (r : Run) (e : Event) (n : ℕ) → n ≡ 0 → Leads w lines now q out r (Repeat e n) → EndsLine w lines now q out r
ends_all w lines now q out r e n is h = ends_so w lines now q out r (Repeat e n) (λ v. none_left e n v is) h

-- at one moment
pub can_again : (words now : List ℕ) (p q : Player) (old out : List ℕ) (e : Event) (count done : ℕ) (o : Outcome) → done < count → finds_nothing o ≡ false
    → CanGo words p old (Repeats e (count - done)) → Goes words p old now q out (λ x. IsNext x e) (left_by o) → CanGo now q out (Repeats e (count - (done + 1)))
can_again words now p q old out e count done o lt found h goes =
    let l : Leads h.start h.lines now q out h.run (Repeat e (count - (done + 1))) =
    leads_again h.start h.lines words now p q old out h.run e count done o lt found (record { count = 0; at = h.at; loads = h.may_go.loads; doing = h.may_go.doing; left = refl }) goes in record {
      start = h.start;
      lines = h.lines;
      run = after_steps l.count h.run;
      at = l.at;
      may_go = record { loads = l.loads; doing = l.doing };
    }
