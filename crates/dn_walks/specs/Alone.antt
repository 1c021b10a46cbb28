use Rattle.std.specs.Prelude.{ℕ, List}
use Rattle.dn_act.specs.Words.{word_at}
use Rattle.dn_act.specs.Action.{at_of, words_after}
use Rattle.dn_model.specs.Program.{Program, Return, Do}

-- A program acts on the words while nobody else writes them: `always` holds of them at each moment, and `ends` at the
-- end with the answer.
abbrev pub Alone : {A : Type 0} → (List ℕ → Type 0) → (List ℕ → A → Type 0) → Program A → List ℕ → Type 0
Alone always ends (Return answer) words = always words × ends words answer
Alone always ends (Do action k) words =
    always words × Alone always ends (k (word_at words (at_of action))) (words_after action words)
