use Rattle.std.specs.Prelude.{◌≡◌, ◌<◌, ℕ, Bool, true, false, List, [], ◌∷◌, ◌++◌, map, Option, Some, None}
use Rattle.dn_hist.specs.declared.receipts.Receipt.{Receipt}
use Rattle.dn_route.specs.CallersOrder.{Told}
use Rattle.dn_callers.specs.Callers.{Standing}
use Rattle.dn_cluster.specs.Machine.{machine_of}
use Rattle.dn_machine.specs.Sound.{IsSound}
use Rattle.dn_outcomes.specs.State.{World, Done}
use Rattle.dn_outcomes.specs.Sound.{IsWorld}
use Rattle.dn_outcomes.specs.declared.outcomes.Outcome.{Outcome}
use Rattle.dn_outcomes.specs.declared.outcomes.Outcome.TheVariants as outcome
use Rattle.dn_world.specs.State.{CrewState, world_of}
use Rattle.dn_world.specs.Inside.{stands_as}
use Rattle.dn_world.specs.declared.worlds.Standing.{Standing as Kept}

-- What a call does to a crew over the words of its pool, as a change of the world.

-- what came of a call, and the receipt that came to stand by it
pub record Came : Type 0 where
  pub outcome : Outcome
  pub receipt : Option Receipt

-- the receipt that joins
abbrev pub joining : Option Receipt → List Standing
joining None = []
joining (Some r) = (record { receipt = r; answered = true }) ∷ []

-- some told positions and receipts make it sound
pub record CanBeWorld (words : List ℕ) (x : CrewState) : Type 0 where
  pub told : List Told
  pub receipts : List Standing
  pub sound : IsWorld (world_of words x told receipts)

-- whatever was told and stands, no word is touched and this is done
pub record Turns (x y : CrewState) (f : World → World) : Type 0 where
  pub is : (words : List ℕ) (told : List Told) (receipts : List Standing) → world_of words y told receipts ≡ f (world_of words x told receipts)

-- with these told positions and receipts this is done, has this outcome, and leads to these words
pub record IsDone (words : List ℕ) (x : CrewState) (now : List ℕ) (y : CrewState) (came : Came) (f : World → Done) (told : List Told) (receipts : List Standing) : Type 0 where
  pub world : (f (world_of words x told receipts)).world
      ≡ world_of now y (f (world_of words x told receipts)).world.machine.callers.told (receipts ++ joining came.receipt)
  pub outcome : came.outcome ≡ (f (world_of words x told receipts)).outcome

-- whatever was told and stands
pub record Moves (words : List ℕ) (x : CrewState) (now : List ℕ) (y : CrewState) (came : Came) (f : World → Done) : Type 0 where
  pub is : (told : List Told) (receipts : List Standing) → IsDone words x now y came f told receipts

-- with all those with which the machine was sound before
pub record Carries (words : List ℕ) (x : CrewState) (now : List ℕ) (y : CrewState) (came : Came) (f : World → Done) : Type 0 where
  pub is : (told : List Told) (receipts : List Standing) → IsSound x.cluster.segments (machine_of words x.cluster told receipts) → IsDone words x now y came f told receipts

-- with all those with which the world was sound before
pub record Comes (words : List ℕ) (x : CrewState) (now : List ℕ) (y : CrewState) (came : Came) (f : World → Done) : Type 0 where
  pub is : (told : List Told) (receipts : List Standing) → IsWorld (world_of words x told receipts) → IsDone words x now y came f told receipts

-- no receipt comes
abbrev pub bare : Outcome → Came
bare outcome = record { outcome = outcome; receipt = None }

-- a receipt came to stand behind those that stood, or none, and this is so of what came
pub record Keeps (was now : List Kept) (outcome : Outcome) (P : Came → Type 0) : Type 0 where
  pub receipt : Option Receipt
  pub kept : map stands_as now ≡ map stands_as was ++ joining receipt
  pub is : P (record { outcome = outcome; receipt = receipt })

-- ---- whether the access failed
abbrev pub has_failed : Outcome → Bool
has_failed outcome.Nothing = false
has_failed outcome.Acted = false
has_failed (outcome.Numbered number) = false
has_failed outcome.Busy = false
has_failed outcome.Closed = false
has_failed (outcome.Answered session number answer given) = false
has_failed (outcome.GivenUp session number) = false
has_failed (outcome.Ordered answer) = false
has_failed outcome.MonitorBusy = false
has_failed (outcome.Tended answer) = false
has_failed (outcome.Added lane) = false
has_failed outcome.LanesFull = false
has_failed outcome.NoLane = false
has_failed (outcome.Merged turn) = false
has_failed (outcome.Fault actor) = true

abbrev pub OnDone : Outcome → Type 0 → Type 0
OnDone outcome P = has_failed outcome ≡ false → P

-- over some words
pub record Can (x : CrewState) : Type 0 where
  pub words : List ℕ
  pub can : CanBeWorld words x

-- an access that failed raised the count of faults, and any other left it
pub record CountsFault (outcome : Outcome) (old new : ℕ) : Type 0 where
  pub done : has_failed outcome ≡ false → new ≡ old
  pub fault : has_failed outcome ≡ true → old < new
