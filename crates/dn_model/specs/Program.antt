use Rattle.std.specs.Prelude.{◌≡◌, ℕ}
use Rattle.dn_act.specs.declared.actions.Action.{Action}
use Rattle.dn_act.specs.declared.actions.Action.TheVariants.{Load, Store, Cas, Or, Add}

-- A plan to read: actions on single words, each going on by the old word that it answered, and an answer at the end.
pub data Program (A : Type 0) : Type 0 where
  Return : A → Program A
  Do : Action → (ℕ → Program A) → Program A

-- one program, and behind it another that goes on by its answer
infixl 10 ◌>>=◌
abbrev pub ◌>>=◌ : {A B : Type 0} → Program A → (A → Program B) → Program B
(Return answer) >>= rest = rest answer
(Do action k) >>= rest = Do action (λ word. k word >>= rest)

-- the actions as programs that answer the old word
abbrev pub load : ℕ → Program ℕ
load at = Do (Load at) Return

abbrev pub store : ℕ → ℕ → Program ℕ
store at word = Do (Store at word) Return

abbrev pub cas : ℕ → ℕ → ℕ → Program ℕ
cas at old new = Do (Cas at old new) Return

abbrev pub or : ℕ → ℕ → Program ℕ
or at bits = Do (Or at bits) Return

abbrev pub add : ℕ → ℕ → Program ℕ
add at by = Do (Add at by) Return

-- What a machine with states S comes to after a word: it goes on in a state, or ends with an answer.
pub data Turn (S A : Type 0) : Type 0 where
  Goes : S → Turn S A
  Ends : A → Turn S A

-- A machine that has come to this turn, and whose next action and turn after a word are these, runs the program to its end.
abbrev pub Runs : {S A : Type 0} → (S → Action) → (S → ℕ → Turn S A) → Program A → Turn S A → Type 0
Runs {S} next take (Return answer) turn = turn ≡ Ends answer
Runs {S} next take (Do action k) turn = (s : S) × (turn ≡ Goes s) × (next s ≡ action) × ((word : ℕ) → Runs next take (k word) (take s word))

-- a turn of an inner machine as one of the outer machine that holds it and goes on by its answer
abbrev pub lifted : {S T A B : Type 0} → (S → T) → (A → Turn T B) → Turn S A → Turn T B
lifted embed cont (Goes s) = Goes (embed s)
lifted embed cont (Ends answer) = cont answer
