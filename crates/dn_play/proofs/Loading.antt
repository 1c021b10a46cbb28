use Rattle.std.proofs.Common.{ℕ, suc, ◌≡◌, ◌<◌, ◌-◌, ◌^◌, Bool, true, false, List, [], ◌∷◌, Some, None, refl, sym, ◌∙◌, ap, subst, arith}
use Rattle.std.proofs.lemmas.List.{length-append}
use Rattle.dn_monitor.specs.Heirs.{no_heirs}
use Rattle.dn_outcomes.specs.Does.{does}
use Rattle.dn_outcomes.specs.State.{World}
use Rattle.dn_outcomes.specs.declared.events.Event.TheVariants.{Refresh}
use Rattle.dn_script.specs.declared.scripts.Line.{Line}
use Rattle.dn_waiting.specs.State.{call_of}
use Rattle.dn_run.specs.Happening.{happening, loads, loads_of}
use Rattle.dn_run.specs.Run.{Run, loader, loader_of, loader_if, loads_deed, step, after_steps}
use Rattle.dn_play.specs.At.{IsAt, Leads}
use Rattle.dn_play.specs.declared.players.Player.{Player}
use Rattle.dn_play.proofs.Stopping.{step_load}

-- A session loads deeds until its call waits for none.

-- so many steps were loads, and its call was moved by the last of them
pub record IsLoading (w : World) (lines : List Line) (now : List ℕ) (q : Player) (out : List ℕ) (r : Run) (s : ℕ) : Type 0 where
  pub count : ℕ
  pub at : IsAt w lines now q out (after_steps count r)
  pub mover : (after_steps count r).mover ≡ Some s
  pub doing : (after_steps count r).doing ≡ r.doing
  pub left : (after_steps count r).lines ≡ r.lines

pub loading_none : (w : World) (lines : List Line) (words : List ℕ) (p : Player) (out : List ℕ) (r : Run) (s : ℕ) → IsAt w lines words p out r → r.mover ≡ Some s → IsLoading w lines words p out r s
loading_none w lines words p out r s at e = record { count = 0; at = at; mover = e; doing = refl; left = refl }

-- whether the call waits for a load
loader_if_true : (s : ℕ) (b : Bool) → b ≡ true → loader_if s b ≡ Some s
loader_if_true s b e = ap (loader_if s) e

loader_if_false : (s : ℕ) (b : Bool) → b ≡ false → loader_if s b ≡ None
loader_if_false s b e = ap (loader_if s) e

loads_same : (w : World) (lines : List Line) (now : List ℕ) (q : Player) (out : List ℕ) (r : Run) (s : ℕ) → IsAt w lines now q out r → loads_of (call_of q.world.crew.waiting s) ≡ loads r.world s
loads_same w lines now q out r s at = ap (λ (v : World). loads v s) at.world

pub loader_is : (w : World) (lines : List Line) (now : List ℕ) (q : Player) (out : List ℕ) (r : Run) (s : ℕ) → IsAt w lines now q out r → r.mover ≡ Some s → loads_of (call_of q.world.crew.waiting s) ≡ true → loader r ≡ Some s
loader_is w lines now q out r s at e is = ap (loader_of r.world) e ∙ loader_if_true s (loads r.world s) (sym (loads_same w lines now q out r s at) ∙ is)

pub loader_none : (w : World) (lines : List Line) (now : List ℕ) (q : Player) (out : List ℕ) (r : Run) (s : ℕ) → IsAt w lines now q out r → r.mover ≡ Some s → loads_of (call_of q.world.crew.waiting s) ≡ false → loader r ≡ None
loader_none w lines now q out r s at e is = ap (loader_of r.world) e ∙ loader_if_false s (loads r.world s) (sym (loads_same w lines now q out r s at) ∙ is)

-- one load more
pub loading_more : (w : World) (lines : List Line) (words now : List ℕ) (p q : Player) (old out : List ℕ) (r : Run) (s : ℕ) → (h : IsLoading w lines words p old r s)
    → loads_of (call_of p.world.crew.waiting s) ≡ true → IsAt w lines now q out (loads_deed (after_steps h.count r) s) → IsLoading w lines now q out r s
loading_more w lines words now p q old out r s h is at =
    let x : Run = after_steps h.count r in
    let next : step x ≡ loads_deed x s = step_load x s (loader_is w lines words p old x s h.at h.mover is) in record {
      count = suc h.count;
      at = subst (λ (y : Run). IsAt w lines now q out y) (sym next) at;
      mover = ap (λ (y : Run). y.mover) next;
      doing = ap (λ (y : Run). y.doing) next ∙ h.doing;
      left = ap (λ (y : Run). y.lines) next ∙ h.left;
    }

-- there are fewer events to come
pub fewer : (w : World) (lines : List Line) (words now : List ℕ) (p q : Player) (old out : List ℕ) (r : Run) (s : ℕ) → IsAt w lines words p old r → IsAt w lines now q out (loads_deed r s) → 2 ^ 22 - q.events < 2 ^ 22 - p.events
fewer w lines words now p q old out r s at next =
    let long = length-append r.past (happening (Refresh s) (does r.world (Refresh s) no_heirs) ∷ []) in
    omega (arith, long, at.events, next.events, next.few)

-- the call waits for no load any more
pub leads_loaded : (w : World) (lines : List Line) (now : List ℕ) (q : Player) (out : List ℕ) (r : Run) (s : ℕ) → IsLoading w lines now q out r s → loads_of (call_of q.world.crew.waiting s) ≡ false → Leads w lines now q out r r.doing
leads_loaded w lines now q out r s h is = record {
  count = h.count;
  at = h.at;
  loads = loader_none w lines now q out (after_steps h.count r) s h.at h.mover is;
  doing = h.doing;
  left = h.left;
}
