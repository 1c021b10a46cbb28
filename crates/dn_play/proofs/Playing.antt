use Rattle.std.proofs.Common.{ℕ, suc, ◌≡◌, ◌+◌, List, ◌∷◌, length, refl, sym, ◌∙◌, ap, subst, arith}
use Rattle.dn_outcomes.specs.State.{World}
use Rattle.dn_script.specs.declared.scripts.Line.{Line}
use Rattle.dn_run.specs.Doing.{doing_of}
use Rattle.dn_run.specs.Going.{IsGoing}
use Rattle.dn_run.specs.Run.{Run, begins, acts, steps, step, after_steps}
use Rattle.dn_run.proofs.Going.{step_going}
use Rattle.dn_play.specs.At.{IsAt, CanGo, Ends, EndsLine, Follow, Halts, IsFollowed, Reached, Stops, Undone}
use Rattle.dn_play.specs.declared.players.Player.{Player}
use Rattle.dn_play.specs.declared.stops.Stop.{Stop}
use Rattle.dn_play.proofs.Leading.{stops_after}
use Rattle.dn_play.proofs.Stopping.{after_sum, stops_behind}

-- Lines are played one after the other.

-- ---- lines that are left
pub whole_next : (all rest : List Line) (l : Line) (long less : ℕ) → long ≡ length all → all ≡ l ∷ rest → less + 1 ≡ long → less ≡ length rest
whole_next all rest l long less whole is one = (let same : length all ≡ suc (length rest) = ap length is in omega (arith, whole, one, same))

-- ---- the next line begins
abbrev begun : Run → Line → List Line → Run
begun r l rest = record r { doing = doing_of l; lines = rest }

step_begins : (r : Run) (l : Line) (rest : List Line) → IsFollowed r (l ∷ rest) → step r ≡ begun r l rest
step_begins r l rest h = ap (steps r) h.between.loads ∙ ap (acts r) h.between.doing ∙ ap (begins r) h.lines

at_begun : (w : World) (lines : List Line) (words : List ℕ) (p : Player) (out : List ℕ) (r : Run) (l : Line) (rest : List Line) → IsAt w lines words p out r → IsFollowed r (l ∷ rest) → IsAt w lines words p out (begun r l rest)
at_begun w lines words p out r l rest at h = record {
  start = at.start;
  fresh = at.fresh;
  going = subst (λ (y : Run). IsGoing w lines y) (step_begins r l rest h) (step_going w lines r at.going);
  world = at.world;
  counts = at.counts;
  events = at.events;
  few = at.few;
  order = at.order;
  printed = at.printed;
}

undone_begun : (r : Run) (l : Line) (rest : List Line) → IsFollowed r (l ∷ rest) → Undone (doing_of l) (begun r l rest)
undone_begun r l rest h = record { loads = h.between.loads; doing = refl }

pub can_begin : (words : List ℕ) (p : Player) (out : List ℕ) (l : Line) (rest : List Line) → CanGo words p out (Follow (l ∷ rest)) → CanGo words p out (Undone (doing_of l))
can_begin words p out l rest h = record {
  start = h.start;
  lines = h.lines;
  run = begun h.run l rest;
  at = at_begun h.start h.lines words p out h.run l rest h.at h.may_go;
  may_go = undone_begun h.run l rest h.may_go;
}

-- ---- and is done
reached_behind : (w : World) (lines : List Line) (now : List ℕ) (q : Player) (out : List ℕ) (r : Run) (k : ℕ) (rest : List Line) → Reached w lines now q out (after_steps k r) rest → Reached w lines now q out r rest
reached_behind w lines now q out r k rest h =
    let next = after_sum h.count k r in record {
      count = h.count + k;
      at = subst (λ (y : Run). IsAt w lines now q out y) next h.at;
      followed = subst (λ (y : Run). IsFollowed y rest) next h.followed;
    }

reached_line : (w : World) (lines : List Line) (now : List ℕ) (q : Player) (out : List ℕ) (r : Run) (l : Line) (rest : List Line) → IsFollowed r (l ∷ rest) → EndsLine w lines now q out (begun r l rest) → Reached w lines now q out r rest
reached_line w lines now q out r l rest h ends =
    reached_behind w lines now q out r 1 rest (subst (λ (y : Run). Reached w lines now q out y rest) (sym (step_begins r l rest h))
    (record { count = ends.count; at = ends.at; followed = record { between = ends.between; lines = ends.left } }))

pub reached_next : (w : World) (lines : List Line) (words now : List ℕ) (p q : Player) (old out : List ℕ) (r : Run) (l : Line) (rest : List Line) → Reached w lines words p old r (l ∷ rest) → Ends words p old now q out (Undone (doing_of l)) → Reached w lines now q out r rest
reached_next w lines words now p q old out r l rest h ends =
    let x : Run = after_steps h.count r in
    reached_behind w lines now q out r h.count rest (reached_line w lines now q out x l rest h.followed (ends.is w lines (begun x l rest) (at_begun w lines words p old x l rest h.at h.followed) (undone_begun x l rest h.followed)))

pub halts_next : (w : World) (lines : List Line) (words now : List ℕ) (p q : Player) (old out : List ℕ) (r : Run) (l : Line) (rest : List Line) (stop : Stop) → Reached w lines words p old r (l ∷ rest) → Halts words p old now q out (Undone (doing_of l)) stop → Stops w lines now q out r stop
halts_next w lines words now p q old out r l rest stop h halts =
    let x : Run = after_steps h.count r in
    stops_behind w lines now q out r h.count stop (stops_after w lines now q out x (begun x l rest) stop (step_begins x l rest h.followed)
    (halts.is w lines (begun x l rest) (at_begun w lines words p old x l rest h.at h.followed) (undone_begun x l rest h.followed)))

pub can_next_line : (words now : List ℕ) (p q : Player) (old out : List ℕ) (l : Line) (rest : List Line) → CanGo words p old (Follow (l ∷ rest)) → Ends words p old now q out (Undone (doing_of l)) → CanGo now q out (Follow rest)
can_next_line words now p q old out l rest h ends =
    let reached : Reached h.start h.lines now q out h.run rest =
    reached_next h.start h.lines words now p q old out h.run l rest (record { count = 0; at = h.at; followed = h.may_go }) ends in record {
      start = h.start;
      lines = h.lines;
      run = after_steps reached.count h.run;
      at = reached.at;
      may_go = reached.followed;
    }
