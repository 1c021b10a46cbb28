use Rattle.std.specs.Prelude.{◌≡◌, ℕ, List, [], ◌∷◌, Some}
use Rattle.std.specs.List.{remove}
use Rattle.dn_act.specs.declared.actions.Action.{Action}
use Rattle.dn_act.specs.declared.actions.Action.TheVariants.{Store}
use Rattle.dn_log.specs.declared.staging.Staged.{Staged}
use Rattle.dn_model.specs.Program.{Program, Return}
use Rattle.dn_model.specs.Program as plain
use Rattle.dn_known.specs.State.{KnownState}
use Rattle.dn_lane.specs.Next.{next_of}
use Rattle.dn_lane.specs.State.{LaneState, with_staging}
use Rattle.dn_lane.specs.Turns.{turn_of, left_of, flowed_of}
use Rattle.dn_lane.specs.declared.answers.Turn.{Turn}
use Rattle.dn_lane.specs.declared.answers.Turn.TheVariants.{More}
use Rattle.dn_lane.specs.declared.modes.Mode.TheVariants.{Idle}

-- What a lane does, to read: actions on single words, each going on by the old word that it answered; words that flow to
-- the pool in any order; and at the end what the lane answers and what it knows then.
pub data LaneProgram : Type 0 where
  End : Turn → KnownState → LaneProgram
  Do : Action → (ℕ → LaneProgram) → LaneProgram
  Flow : List Staged → LaneProgram → LaneProgram

-- a program of single actions, and behind it what goes on by its answer
infixl 10 ◌>>>◌
abbrev pub ◌>>>◌ : {A : Type 0} → Program A → (A → LaneProgram) → LaneProgram
(Return answer) >>> rest = rest answer
(plain.Do action behind) >>> rest = Do action (λ word. behind word >>> rest)

-- ---- that a lane runs it
-- what a lane has answered, and what it is then
pub record Answered : Type 0 where
  pub turn : Turn
  pub lane : LaneState

abbrev pub answered : LaneState → ℕ → Answered
answered l word = record { turn = turn_of l word; lane = left_of l word }

-- While words wait, the oldest is stored next and is gone then; and any may flow before it, as `flow` gives it.
pub record Drains (l : LaneState) : Type 0 where
  pub next : (w : Staged) (ws : List Staged) → next_of (with_staging l (w ∷ ws)) ≡ Some (Store w.at w.word)
  pub taken : (w : Staged) (ws : List Staged) (word : ℕ) → turn_of (with_staging l (w ∷ ws)) word ≡ More
  pub goes : (w : Staged) (ws : List Staged) (word : ℕ) → left_of (with_staging l (w ∷ ws)) word ≡ with_staging l ws
  pub any : (ws : List Staged) (index : ℕ) → flowed_of (with_staging l ws) index ≡ with_staging l (remove ws index)

-- A lane that has come to this runs the program to its end, whatever words its actions find. At the end it is idle, with
-- no word that waits.
abbrev pub Runs : LaneProgram → Answered → Type 0
Runs (End turn known) a = (a.turn ≡ turn) × (a.lane.mode ≡ Idle) × (a.lane.base.known ≡ known) × (a.lane.base.staging ≡ [])
Runs (Do action behind) a =
    (a.turn ≡ More) × (next_of a.lane ≡ Some action) × ((word : ℕ) → Runs (behind word) (answered a.lane word))
Runs (Flow words behind) a =
    (a.turn ≡ More) × (a.lane.base.staging ≡ words) × Drains a.lane × Runs behind (record { turn = More; lane = with_staging a.lane [] })

-- a lane that has begun follows the program
pub record Follows (l : LaneState) (program : LaneProgram) : Type 0 where
  pub runs : Runs program (record { turn = More; lane = l })
