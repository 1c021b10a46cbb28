use Rattle.std.specs.Prelude.{◌≡◌, ◌⊎◌, ℕ, ◌+◌, ◌%◌, ◌^◌, List, nat_eq, bit_or, slice_set, if◌then◌else◌}
use Rattle.dn_act.specs.declared.actions.Action.{Action}
use Rattle.dn_act.specs.declared.actions.Action.TheVariants.{Load, Store, Cas, Or, Add}
use Rattle.dn_act.specs.Words.{word_at}

-- the place of the word that an action is on
abbrev pub at_of : Action → ℕ
at_of (Load at) = at
at_of (Store at word) = at
at_of (Cas at old new) = at
at_of (Or at bits) = at
at_of (Add at by) = at

-- what it makes of the word that it finds
abbrev pub word_after : Action → ℕ → ℕ
word_after (Load at) found = found
word_after (Store at word) found = word
word_after (Cas at old new) found = if nat_eq found old then new else found
word_after (Or at bits) found = bit_or found bits
word_after (Add at by) found = (found + by) % 2 ^ 64

-- all words after it: the others stay
abbrev pub words_after : Action → List ℕ → List ℕ
words_after action words = slice_set words (at_of action) (word_after action (word_at words (at_of action)))

-- the action answers the old word, and changes that word alone
pub record Performs (action : Action) (word : ℕ) (old new : List ℕ) : Type 0 where
  pub answer : word ≡ word_at old (at_of action)
  pub change : new ≡ words_after action old

-- the action was done or not done
abbrev pub MayPerform : Action → List ℕ → List ℕ → Type 0
MayPerform action old new = (new ≡ old) ⊎ (new ≡ words_after action old)
