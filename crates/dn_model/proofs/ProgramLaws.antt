use Rattle.std.proofs.Common.{ℕ, ◌≡◌, sym, ◌∙◌, ap, subst}
use Rattle.dn_act.specs.declared.actions.Action.{Action}
use Rattle.dn_model.specs.Program.{Program, Return, Do, ◌>>=◌, Turn, Runs, lifted}

-- An outer machine that does what an inner one does, and goes on by its answer, runs the one program and then the other.
pub runs_then : {S T A B : Type 0} (next : S → Action) (take : S → ℕ → Turn S A) (outer_next : T → Action) (outer_take : T → ℕ → Turn T B) (embed : S → T) (cont : A → Turn T B)
    → ((s : S) → outer_next (embed s) ≡ next s) → ((s : S) (word : ℕ) → outer_take (embed s) word ≡ lifted embed cont (take s word))
    → (p : Program A) (rest : A → Program B) (turn : Turn S A) → Runs next take p turn
    → ((answer : A) → Runs outer_next outer_take (rest answer) (cont answer))
    → Runs outer_next outer_take (p >>= rest) (lifted embed cont turn)
runs_then {T = T} {B = B} next take outer_next outer_take embed cont en et (Return a) rest turn h g =
    let P : Turn T B → Type 0 = λ x. Runs outer_next outer_take (rest a) x in
    subst P (sym (ap (lifted embed cont) h)) (g a)
runs_then {T = T} {B = B} next take outer_next outer_take embed cont en et (Do act k) rest turn h g = (
  embed h.0,
  ap (lifted embed cont) h.1,
  en h.0 ∙ h.2,
  λ word.
      let P : Turn T B → Type 0 = λ x. Runs outer_next outer_take (k word >>= rest) x in
      subst P (sym (et h.0 word)) (runs_then next take outer_next outer_take embed cont en et (k word) rest (take h.0 word) (h.3 word) g),
)
