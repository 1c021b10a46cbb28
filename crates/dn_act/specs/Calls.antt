use Rattle.std.specs.Prelude.{ℕ, ◌+◌, ◌-◌, ◌^◌, ◌<◌, Bool, true, false, List, [], ◌∷◌, Option, Some, None, Result, Ok, Err, min, nat_eq, if◌then◌else◌}
use Rattle.dn_act.specs.declared.actions.Action.{Action}
use Rattle.dn_act.specs.declared.faults.Failed.{Failed}
use Rattle.dn_act.specs.Words.{word_at}
use Rattle.dn_act.specs.Action.{at_of, words_after}

-- the numbers of calls that fail ascend, each once, and lie past `before`
abbrev pub AscendFrom : ℕ → List (ℕ × Bool) → Type 0
AscendFrom before [] = Unit {0}
AscendFrom before (x ∷ xs) = (before < x.0) × AscendFrom x.0 xs

-- they begin at 1
abbrev pub Ascend : List (ℕ × Bool) → Type 0
Ascend xs = AscendFrom 0 xs

-- a pool of which listed calls fail: its words, the calls made so far, the pairs ahead, and how many were met
pub record Calls : Type 0 where
  pub words : List ℕ
  pub made : ℕ
  pub ahead : List (ℕ × Bool)
  pub met : ℕ

-- before the first call
abbrev pub uncalled : List ℕ → List (ℕ × Bool) → Calls
uncalled words failing = record { words = words; made = 0; ahead = failing; met = 0 }

-- the number of the next call; the count of calls stands still at its end
abbrev pub number_of : Calls → ℕ
number_of pool = min (pool.made + 1) (2 ^ 64 - 1)

-- whether a call of this number fails, and then whether its action is done
abbrev pub fails : ℕ → List (ℕ × Bool) → Option Bool
fails number [] = None
fails number (x ∷ xs) = if nat_eq x.0 number then Some x.1 else None

-- the words after a call: a failed one did its action or left them
abbrev pub words_by : Option Bool → Action → List ℕ → List ℕ
words_by None action words = words_after action words
words_by (Some true) action words = words_after action words
words_by (Some false) action words = words

-- the pairs that are ahead after it
abbrev pub ahead_by : Option Bool → List (ℕ × Bool) → List (ℕ × Bool)
ahead_by None ahead = ahead
ahead_by (Some done) [] = []
ahead_by (Some done) (x ∷ xs) = xs

-- how many pairs were met
abbrev pub met_by : Option Bool → ℕ → ℕ
met_by None met = met
met_by (Some done) met = met + 1

-- its answer: the old word, or the failure
abbrev pub answer_by : Option Bool → ℕ → Result ℕ Failed
answer_by None word = Ok word
answer_by (Some done) word = Err (record {})

-- whether the next call fails
abbrev pub next_fails : Calls → Option Bool
next_fails pool = fails (number_of pool) pool.ahead

-- the next call is counted, and its words aren't changed yet
abbrev pub counted : Calls → Calls
counted pool = record pool {
  made = number_of pool;
  ahead = ahead_by (next_fails pool) pool.ahead;
  met = met_by (next_fails pool) pool.met;
}

-- the answer of the next call
abbrev pub answer_of : Calls → Action → Result ℕ Failed
answer_of pool action = answer_by (next_fails pool) (word_at pool.words (at_of action))

-- the pool after the next call
abbrev pub calls_after : Calls → Action → Calls
calls_after pool action = record (counted pool) { words = words_by (next_fails pool) action pool.words }
