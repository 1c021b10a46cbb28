use Rattle.std.proofs.Common.{ℕ, List, subst}
use Rattle.dn_act.specs.Action.{at_of, words_after}
use Rattle.dn_act.specs.declared.actions.Action.{Action}
use Rattle.dn_act.specs.Words.{word_at}
use Rattle.dn_model.specs.Program.{Program, Return, Do, Turn, Goes, Ends, Runs}
use Rattle.dn_index.specs.declared.places.WalkTurn.{WalkTurn}
use Rattle.dn_index.specs.Walk.{Walking, walk_next}
use Rattle.dn_index.specs.Sequence.{walk_taken}
use Rattle.dn_walks.specs.Alone.{Alone}

-- A walk that acts alone, as the program that it runs.

-- what is so at a turn: what the walk knows, or how it ends
abbrev pub TurnAt : (List ℕ → Type 0) → (List ℕ → WalkTurn → Type 0) → (Walking → List ℕ → Type 0) → Turn Walking WalkTurn → List ℕ → Type 0
TurnAt always ends knows (Goes w) now = knows w now
TurnAt always ends knows (Ends answer) now = always now × ends now answer

-- each of its actions leads to such a turn
pub record IsLone (always : List ℕ → Type 0) (ends : List ℕ → WalkTurn → Type 0) (knows : Walking → List ℕ → Type 0) : Type 0 where
  pub holds : (w : Walking) (now : List ℕ) → knows w now → always now
  pub steps : (w : Walking) (now : List ℕ) → knows w now → TurnAt always ends knows (walk_taken w (word_at now (at_of (walk_next w)))) (words_after (walk_next w) now)

pub alone_runs : (always : List ℕ → Type 0) (ends : List ℕ → WalkTurn → Type 0) (knows : Walking → List ℕ → Type 0) (program : Program WalkTurn) (turn : Turn Walking WalkTurn) (now : List ℕ) → IsLone always ends knows
    → Runs walk_next walk_taken program turn → TurnAt always ends knows turn now → Alone always ends program now
alone_runs always ends knows (Return answer) turn now l r h =
    let P : Turn Walking WalkTurn → Type 0 = λ t. TurnAt always ends knows t now in
    subst P r h
alone_runs always ends knows (Do action k) turn now l r h =
    let P : Turn Walking WalkTurn → Type 0 = λ t. TurnAt always ends knows t now in
    let g : knows r.0 now = subst P r.1 h in
    let Q : Action → Type 0 = λ a. TurnAt always ends knows (walk_taken r.0 (word_at now (at_of a))) (words_after a now) in (
      l.holds r.0 now g,
      alone_runs always ends knows (k (word_at now (at_of action))) (walk_taken r.0 (word_at now (at_of action))) (words_after action now) l (r.3 (word_at now (at_of action))) (subst Q r.2 (l.steps r.0 now g)),
    )

-- it ends as the one end says, and so as the other does
pub alone_ends : {A : Type 0} (always : List ℕ → Type 0) (ends others : List ℕ → A → Type 0) (program : Program A) (now : List ℕ) → ((x : List ℕ) (answer : A) → ends x answer → others x answer) → Alone always ends program now
    → Alone always others program now
alone_ends always ends others (Return answer) now f h = (h.0, f now answer h.1)
alone_ends always ends others (Do action k) now f h = (h.0, alone_ends always ends others (k (word_at now (at_of action))) (words_after action now) f h.1)
