use Rattle.std.specs.Prelude.{◌≡◌, ℕ, false, Some, None}
use Rattle.dn_word.specs.Deed.{deed_of}
use Rattle.dn_known.specs.State.{KnownState}
use Rattle.dn_known.specs.Learnt.{met}
use Rattle.dn_owners.specs.Known.{Look, knowing_nothing}
use Rattle.dn_beside.specs.Pool.{Pool}
use Rattle.dn_beside.specs.Step.{IsStepBy, IsQuiet, by_lane}
use Rattle.dn_learnt.specs.Learning.{Learns}

-- what a look at a deed's word shows
abbrev pub look_by : ℕ → ℕ → Look
look_by slot word = record { slot = slot; epoch = (deed_of word).epoch; floor = (deed_of word).floor }

-- the lane has looked at the slot of a key, and found this word
pub record HasLooked (p : Pool) (n slot word : ℕ) : Type 0 where
  pub look : (p.owners.knows n).look ≡ Some (look_by slot word)

-- nobody sees that a lane learns: words and store stay
pub record IsLesson (n : ℕ) (p q : Pool) : Type 0 where
  pub words : q.words ≡ p.words
  pub chains : q.chains ≡ p.chains
  pub store : q.owners.store ≡ p.owners.store
  pub promised : q.owners.promised ≡ p.owners.promised
  pub watch : q.owners.watch ≡ p.owners.watch
  pub by : IsStepBy (by_lane n) p q
  pub quiet : IsQuiet p q

-- the lane looks at a deed of its own
pub record IsLooked (p : Pool) (n slot word : ℕ) (k : KnownState) : Type 0 where
  pub q : Pool
  pub lesson : IsLesson n p q
  pub looked : HasLooked q n slot word
  pub learns : Learns q n (met k slot (deed_of word).epoch)

-- the lane knows this then, and its look is gone
pub record IsTaught (p : Pool) (n : ℕ) (k : KnownState) : Type 0 where
  pub q : Pool
  pub lesson : IsLesson n p q
  pub learns : Learns q n k
  pub ended : (q.owners.knows n).look ≡ None

-- the same, and its look stays
pub record IsTrimmed (p : Pool) (n : ℕ) (k : KnownState) : Type 0 where
  pub q : Pool
  pub lesson : IsLesson n p q
  pub learns : Learns q n k
  pub look : (q.owners.knows n).look ≡ (p.owners.knows n).look

-- the lane runs no more
pub record IsStopped (p : Pool) (n : ℕ) : Type 0 where
  pub q : Pool
  pub lesson : IsLesson n p q
  pub nothing : q.owners.knows n ≡ knowing_nothing false
