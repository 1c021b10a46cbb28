use Rattle.std.proofs.Common.{ℕ, ◌==◌, Option, Some, None, Bool, true, false, nat_lt, if◌then◌else◌, refl}
use Rattle.dn_index.specs.Walk.{noted, past, at_end, onward, names_bucket, step_at}
use Rattle.dn_index.specs.Footprint.{Purpose, purpose_of, purpose_at, StaysOn}
use Rattle.dn_index.specs.declared.places.Spot.{Spot}
use Rattle.dn_index.specs.declared.places.Trail.{Trail}
use Rattle.dn_index.specs.declared.places.Errand.{Errand}
use Rattle.dn_index.specs.declared.places.Errand.TheVariants.{Find, Set, Remove}
use Rattle.dn_index.specs.declared.places.WalkPlace.{WalkPlace}
use Rattle.dn_index.specs.declared.places.WalkPlace.TheVariants.{Key, Next, Match, Counter, Claim, FillPlace, FillKey, Link}
use Rattle.dn_index.specs.declared.places.Step.{Step}

-- What a walk is for stays in each of its steps.

chosen : (p : Purpose) (x y : Step) (b : Bool) → StaysOn p x → StaysOn p y → StaysOn p (if b then x else y)
chosen p x y true h k = h
chosen p x y false h k = k

end_stays : (errand : Errand) (b left : ℕ) (free : Option Spot) → StaysOn (purpose_of errand) (at_end errand (record { bucket = b; left = left; free = free }))
end_stays Find b left free = tt
end_stays (Set at) b left None = refl
end_stays (Set at) b left (Some s) = refl
end_stays Remove b left free = tt

onward_stays : (errand : Errand) (t : Trail) (next : ℕ) → StaysOn (purpose_of errand) (onward errand t next)
onward_stays errand t next = chosen (purpose_of errand) _ _ (t.left == 0) (end_stays errand t.bucket t.left t.free) refl

past_stays : (errand : Errand) (t : Trail) (number : ℕ) → StaysOn (purpose_of errand) (past errand t number)
past_stays errand t number = chosen (purpose_of errand) _ _ (number == 3) refl refl

pub purpose_stays : (key : ℕ) (place : WalkPlace) (word : ℕ) → StaysOn (purpose_at place) (step_at key place word)
purpose_stays key (Key errand t number) word = chosen (purpose_of errand) _ _ (word == key) refl (past_stays errand (noted t number word) number)
purpose_stays key (Next errand t) word = chosen (purpose_of errand) _ _ (names_bucket word) (onward_stays errand t word) (end_stays errand t.bucket t.left t.free)
purpose_stays key (Match Find s) word = tt
purpose_stays key (Match (Set at) s) word = tt
purpose_stays key (Match Remove s) word = tt
purpose_stays key (Counter at last) word = chosen _ _ _ (nat_lt word 4096) refl tt
purpose_stays key (Claim at last) word = chosen _ _ _ (nat_lt word 4096) refl tt
purpose_stays key (FillPlace at s from) word = refl
purpose_stays key (FillKey s None) word = tt
purpose_stays key (FillKey s (Some last)) word = refl
purpose_stays key (Link last new) word = tt
