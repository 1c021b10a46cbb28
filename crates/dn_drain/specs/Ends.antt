use Rattle.std.specs.Prelude.{◌≡◌, ◌<◌, ℕ, ◌+◌}
use Rattle.dn_merge.specs.declared.places.MergePlace.TheVariants.{Gate}
use Rattle.dn_merge.specs.declared.mergers.MergeTurn.{MergeTurn}
use Rattle.dn_merge.specs.declared.mergers.MergeTurn.TheVariants.{More, Idle, IndexFull}
use Rattle.dn_drain.specs.Alone.{Alone, found_by, answer_by, run_by}

-- Which action of a merger ends a drain.

-- the last of these k actions began a turn: it was the load of the gate, and found this word
pub record HasLoaded (a : Alone) (k gate : ℕ) : Type 0 where
  pub before : ℕ
  pub last : before + 1 ≡ k
  pub begins : (run_by a before).merger.place ≡ Gate
  pub found : found_by (run_by a before) ≡ gate

-- This answer, which comes behind k others of the drain, ends it: all is merged by a gate that one of those k actions has
-- loaded, or the index is full. A gate that was loaded before them may be an old one.
abbrev pub EndsBy : Alone → ℕ → MergeTurn → Type 0
EndsBy a k More = ⊥
EndsBy a k (Idle gate mark) = HasLoaded a k gate
EndsBy a k (IndexFull counter) = Unit {0}

abbrev pub EndsAt : Alone → ℕ → Type 0
EndsAt a k = EndsBy a k (answer_by (run_by a k))

-- none of the first k actions ends it
pub record GoesOn (a : Alone) (k : ℕ) : Type 0 where
  pub each : (j : ℕ) → j < k → EndsAt a j → ⊥

-- The first action that ends the drain is the last of k, with this answer.
pub record Drains (a : Alone) (k : ℕ) (end : MergeTurn) : Type 0 where
  pub before : ℕ
  pub last : before + 1 ≡ k
  pub goes_on : GoesOn a before
  pub answer : answer_by (run_by a before) ≡ end
  pub ends : EndsBy a before end
