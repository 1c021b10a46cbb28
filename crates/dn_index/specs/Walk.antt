use Rattle.std.specs.Prelude.{◌≢◌, ℕ, ◌+◌, ◌-◌, ◌*◌, ◌^◌, ◌<◌, ◌≤◌, ◌==◌, ◌&&◌, Bool, Option, Some, None, nat_lt, if◌then◌else◌}
use Rattle.dn_word.specs.Ref.{ref_of, ref_word}
use Rattle.dn_word.specs.declared.packed.place.Ref.{Ref}
use Rattle.dn_act.specs.declared.actions.Action.{Action}
use Rattle.dn_act.specs.declared.actions.Action.TheVariants.{Load, Store, Add}
use Rattle.dn_model.specs.Regions.{bucket_at}
use Rattle.dn_index.specs.declared.places.Spot.{Spot}
use Rattle.dn_index.specs.declared.places.Trail.{Trail}
use Rattle.dn_index.specs.declared.places.Errand.{Errand}
use Rattle.dn_index.specs.declared.places.Errand.TheVariants.{Find, Set, Remove}
use Rattle.dn_index.specs.declared.places.WalkPlace.{WalkPlace}
use Rattle.dn_index.specs.declared.places.WalkPlace.TheVariants.{Key, Next, Match, Counter, Claim, FillPlace, FillKey, Link}
use Rattle.dn_index.specs.declared.places.WalkTurn.{WalkTurn}
use Rattle.dn_index.specs.declared.places.WalkTurn.TheVariants.{More, Found, Absent, Written, IndexFull}
use Rattle.dn_index.specs.declared.places.Step.{Step}
use Rattle.dn_index.specs.declared.places.Step.TheVariants.{On, End}

-- a walk: the key, and where the walk is in its sequence of actions
pub record Walking : Type 0 where
  pub key : ℕ
  pub place : WalkPlace

-- a place of a bucket by the number of its key word
abbrev pub spot : ℕ → ℕ → Spot
spot b i = record { bucket = b; number = i }

-- in this bucket, with so many more that the walk may enter, and the first free place so far
abbrev pub trail : ℕ → ℕ → Option Spot → Trail
trail b left free = record { bucket = b; left = left; free = free }

-- it begins at the first place of the home bucket; a chain has up to 4,096 buckets behind that
abbrev pub begun : ℕ → ℕ → Errand → Walking
begun key home errand = record { key = key; place = Key errand (trail home 4096 None) 1 }

-- where the key word and the place word of a place stand
abbrev pub key_at : Spot → ℕ
key_at s = bucket_at s.bucket s.number

abbrev pub place_at : Spot → ℕ
place_at s = bucket_at s.bucket (s.number + 3)

-- ---- the actions
-- where the key was met: find loads the place word, set stores it, remove stores 0 for the key
abbrev pub met_action : Errand → Spot → Action
met_action Find s = Load (place_at s)
met_action (Set at) s = Store (place_at s) (ref_word at)
met_action Remove s = Store (key_at s) 0

abbrev pub next_at : ℕ → WalkPlace → Action
next_at key (Key errand t number) = Load (bucket_at t.bucket number)
next_at key (Next errand t) = Load (bucket_at t.bucket 7)
next_at key (Match errand s) = met_action errand s
next_at key (Counter at last) = Load 3
next_at key (Claim at last) = Add 3 1
next_at key (FillPlace at s from) = Store (place_at s) (ref_word at)
next_at key (FillKey s from) = Store (key_at s) key
next_at key (Link last new) = Store (bucket_at last 7) new

abbrev pub walk_next : Walking → Action
walk_next w = next_at w.key w.place

-- ---- the steps
-- the first place of the chain with 0 for a key
abbrev pub first_free : Option Spot → Spot → ℕ → Option Spot
first_free (Some free) s word = Some free
first_free None s word = if word == 0 then Some s else None

-- past a place with another key
abbrev pub noted : Trail → ℕ → ℕ → Trail
noted t number word = trail t.bucket t.left (first_free t.free (spot t.bucket number) word)

-- the third key word is followed by the next word
abbrev pub past : Errand → Trail → ℕ → Step
past errand t number = if number == 3 then On (Next errand t) else On (Key errand t (number + 1))

abbrev pub keyed : ℕ → Errand → Trail → ℕ → ℕ → Step
keyed key errand t number word =
    if word == key then On (Match errand (spot t.bucket number)) else past errand (noted t number word) number

-- at the end of the chain set fills the first free place, or claims a bucket
abbrev pub filling : Ref → ℕ → Option Spot → Step
filling at last (Some s) = On (FillPlace at s None)
filling at last None = On (Counter at last)

abbrev pub at_end : Errand → Trail → Step
at_end Find t = End Absent
at_end (Set at) t = filling at t.bucket t.free
at_end Remove t = End Written

-- the walk enters the next bucket where it may enter one more, and else takes this one for the last
abbrev pub onward : Errand → Trail → ℕ → Step
onward errand t next = if t.left == 0 then at_end errand t else On (Key errand (trail next (t.left - 1) t.free) 1)

-- whether a next word names a bucket; one that names none, as 0 does, ends the chain
abbrev pub names_bucket : ℕ → Bool
names_bucket word = nat_lt 0 word && nat_lt word 8192

abbrev pub led : Errand → Trail → ℕ → Step
led errand t word = if names_bucket word then onward errand t word else at_end errand t

-- the place word that was found, whose lower half is the place of a record
abbrev pub found : Option Ref → WalkTurn
found None = Absent
found (Some at) = Found at

abbrev pub met : Errand → ℕ → Step
met Find word = End (found (ref_of word))
met (Set at) word = End Written
met Remove word = End Written

-- the pool has 4,096 overflow buckets, numbered from 4,096
abbrev pub counted : Ref → ℕ → ℕ → Step
counted at last word = if nat_lt word 4096 then On (Claim at last) else End (IndexFull word)

abbrev pub claimed : Ref → ℕ → ℕ → Step
claimed at last word = if nat_lt word 4096 then On (FillPlace at (spot (4096 + word) 1) (Some last)) else End (IndexFull word)

-- a place that stands in the chain is written with its key; one of a new bucket once that is linked
abbrev pub filled : Spot → Option ℕ → Step
filled s None = End Written
filled s (Some last) = On (Link last s.bucket)

abbrev pub step_at : ℕ → WalkPlace → ℕ → Step
step_at key (Key errand t number) word = keyed key errand t number word
step_at key (Next errand t) word = led errand t word
step_at key (Match errand s) word = met errand word
step_at key (Counter at last) word = counted at last word
step_at key (Claim at last) word = claimed at last word
step_at key (FillPlace at s from) word = On (FillKey s from)
step_at key (FillKey s from) word = filled s from
step_at key (Link last new) word = End Written

abbrev pub walk_step : Walking → ℕ → Step
walk_step w word = step_at w.key w.place word

-- what the walk answers, and where it is then; one that has ended stays where it was
abbrev pub turn_of : Step → WalkTurn
turn_of (On place) = More
turn_of (End turn) = turn

abbrev pub after_of : Walking → Step → Walking
after_of w (On place) = record { key = w.key; place = place }
after_of w (End turn) = w

abbrev pub walk_turn : Walking → ℕ → WalkTurn
walk_turn w word = turn_of (walk_step w word)

abbrev pub walk_after : Walking → ℕ → Walking
walk_after w word = after_of w (walk_step w word)

-- the overflow counter was read, and all overflow buckets are claimed
abbrev pub IsFull : WalkPlace → ℕ → Type 0
IsFull (Key errand t number) word = ⊥
IsFull (Next errand t) word = ⊥
IsFull (Match errand s) word = ⊥
IsFull (Counter at last) word = 4096 ≤ word
IsFull (Claim at last) word = 4096 ≤ word
IsFull (FillPlace at s from) word = ⊥
IsFull (FillKey s from) word = ⊥
IsFull (Link last new) word = ⊥

-- a bound on the actions that are left
abbrev pub left_at : WalkPlace → ℕ
left_at (Key errand t number) = 4 * t.left + (10 - number)
left_at (Next errand t) = 4 * t.left + 6
left_at (Match errand s) = 1
left_at (Counter at last) = 5
left_at (Claim at last) = 4
left_at (FillPlace at s from) = 3
left_at (FillKey s from) = 2
left_at (Link last new) = 1

abbrev pub actions_left : Walking → ℕ
actions_left w = left_at w.place

-- ---- walks that the formats bound
pub record IsSpot (s : Spot) : Type 0 where
  pub bucket : s.bucket < 8192
  pub positive : 1 ≤ s.number
  pub most : s.number ≤ 3

abbrev pub MaySpot : Option Spot → Type 0
MaySpot None = Unit {0}
MaySpot (Some s) = IsSpot s

pub record IsTrail (t : Trail) : Type 0 where
  pub bucket : t.bucket < 8192
  pub free : MaySpot t.free

abbrev pub MayBucket : Option ℕ → Type 0
MayBucket None = Unit {0}
MayBucket (Some b) = b < 8192

abbrev pub IsErrand : Errand → Type 0
IsErrand Find = Unit {0}
IsErrand (Set at) = at.offset < 2 ^ 24
IsErrand Remove = Unit {0}

abbrev pub IsPlace : WalkPlace → Type 0
IsPlace (Key errand t number) = IsErrand errand × IsTrail t × (1 ≤ number) × (number ≤ 3)
IsPlace (Next errand t) = IsErrand errand × IsTrail t
IsPlace (Match errand s) = IsErrand errand × IsSpot s
IsPlace (Counter at last) = (at.offset < 2 ^ 24) × (last < 8192)
IsPlace (Claim at last) = (at.offset < 2 ^ 24) × (last < 8192)
IsPlace (FillPlace at s from) = (at.offset < 2 ^ 24) × IsSpot s × MayBucket from
IsPlace (FillKey s from) = IsSpot s × MayBucket from
IsPlace (Link last new) = (last < 8192) × (new < 8192)

abbrev pub IsStep : Step → Type 0
IsStep (On place) = IsPlace place
IsStep (End turn) = turn ≢ More

pub record IsWalk (w : Walking) : Type 0 where
  pub key : 0 < w.key
  pub place : IsPlace w.place
