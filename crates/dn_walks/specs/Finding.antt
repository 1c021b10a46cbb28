use Rattle.std.specs.Prelude.{◌≡◌, ◌⊎◌, ℕ, ◌≤◌, List, Option, Some, None}
use Rattle.dn_word.specs.Ref.{ref_of}
use Rattle.dn_index.specs.declared.places.Errand.{Errand}
use Rattle.dn_index.specs.declared.places.Errand.TheVariants.{Find, Set, Remove}
use Rattle.dn_index.specs.declared.places.WalkPlace.{WalkPlace}
use Rattle.dn_index.specs.declared.places.WalkPlace.TheVariants.{Key, Next, Match, Counter, Claim, FillPlace, FillKey, Link}
use Rattle.dn_index.specs.declared.places.WalkTurn.{WalkTurn}
use Rattle.dn_index.specs.declared.places.WalkTurn.TheVariants.{More, Found, Absent, Written, IndexFull}
use Rattle.dn_index.specs.declared.places.Step.{Step}
use Rattle.dn_index.specs.declared.places.Step.TheVariants.{On, End}
use Rattle.dn_walks.specs.Trails.{Tracks, IsMet}

-- A walk that finds a key: what it knows at each place, and what it answers.

abbrev pub Finds : Errand → Type 0
Finds Find = Unit {0}
Finds (Set at) = ⊥
Finds Remove = ⊥

abbrev pub KnowsFind : List ℕ → (ℕ → List ℕ) → ℕ → WalkPlace → Type 0
KnowsFind words chains k (Key errand t number) = Finds errand × (number ≤ 3) × Tracks words chains k t number
KnowsFind words chains k (Next errand t) = Finds errand × Tracks words chains k t 4
KnowsFind words chains k (Match errand s) = Finds errand × IsMet words chains k s
KnowsFind words chains k (Counter at last) = ⊥
KnowsFind words chains k (Claim at last) = ⊥
KnowsFind words chains k (FillPlace at s from) = ⊥
KnowsFind words chains k (FillKey s from) = ⊥
KnowsFind words chains k (Link last new) = ⊥

-- it answers what the index gives: the place that its word names, or that it gives nothing or a word that names none
abbrev pub AnswersFind : (ℕ → Option ℕ) → ℕ → WalkTurn → Type 0
AnswersFind index k More = ⊥
AnswersFind index k (Found at) = (w : ℕ) × (index k ≡ Some w) × (ref_of w ≡ Some at)
AnswersFind index k Absent = (index k ≡ None) ⊎ ((w : ℕ) × (index k ≡ Some w) × (ref_of w ≡ None))
AnswersFind index k Written = ⊥
AnswersFind index k (IndexFull counter) = ⊥

-- after an action it goes on with what it knows, or ends with its answer
abbrev pub KnowsFound : List ℕ → (ℕ → List ℕ) → (ℕ → Option ℕ) → ℕ → Step → Type 0
KnowsFound words chains index k (On place) = KnowsFind words chains k place
KnowsFound words chains index k (End turn) = AnswersFind index k turn
