use Rattle.std.proofs.Common.{◌≡◌, ◌<◌, ℕ, ◌+◌, ◌*◌, ◌/◌, ◌%◌, ◌^◌, ◌==◌, nat_eq, nat_lt, Bool, true, false, Option, Some, None, if◌then◌else◌, subst, arith}
use Rattle.dn_word.specs.declared.packed.place.Ref.{Ref}
use Rattle.dn_act.specs.Action.{at_of}
use Rattle.dn_act.specs.declared.actions.Action.{Action}
use Rattle.dn_act.specs.declared.actions.Action.TheVariants.{Load, Store, Cas, Or, Add}
use Rattle.dn_index.specs.Walk.{Walking, turn_of, names_bucket, at_end, filling, met, found, step_at, walk_turn}
use Rattle.dn_index.specs.Footprint.{Purpose, Finds, purpose, Footprint}
use Rattle.dn_index.specs.declared.places.Errand.{Errand}
use Rattle.dn_index.specs.declared.places.Errand.TheVariants as errand
use Rattle.dn_index.specs.declared.places.Spot.{Spot}
use Rattle.dn_index.specs.declared.places.Trail.{Trail}
use Rattle.dn_index.specs.declared.places.Step.{Step}
use Rattle.dn_index.specs.declared.places.WalkPlace.{WalkPlace}
use Rattle.dn_index.specs.declared.places.WalkPlace.TheVariants as walk
use Rattle.dn_index.specs.declared.places.WalkTurn.{WalkTurn}
use Rattle.dn_index.specs.declared.places.WalkTurn.TheVariants as turned
use Rattle.dn_locate.specs.Fetch.{IsLoad}

-- ---- the loads of a walk that finds a key
-- they lie below the segments
pub record LoadsBelow (most : ℕ) (action : Action) : Type 0 where
  pub load : IsLoad action
  pub below : at_of action < most

find_inside : (key segments : ℕ) (action : Action) → Footprint Finds key action → LoadsBelow (98304 + 1024 * segments) action
find_inside key segments (Load at) h = record { load = tt; below = omega (arith, h.1) }
find_inside key segments (Store at word) h = absurd h
find_inside key segments (Cas at old new) h = absurd h
find_inside key segments (Or at bits) h = absurd h
find_inside key segments (Add at by) h = absurd h

pub walk_inside : (w : Walking) (segments : ℕ) (action : Action) → purpose w ≡ Finds → Footprint (purpose w) w.key action → LoadsBelow (98304 + 1024 * segments) action
walk_inside w segments action e h =
    let P : Purpose → Type 0 = λ p. Footprint p w.key action in
    find_inside w.key segments action (subst P e h)

-- ---- the place that a walk finds has its 24 bits
abbrev pub IsLow : WalkTurn → Type 0
IsLow turned.More = Unit {0}
IsLow (turned.Found at) = at.offset < 2 ^ 24
IsLow turned.Absent = Unit {0}
IsLow turned.Written = Unit {0}
IsLow (turned.IndexFull counter) = Unit {0}

low_by : (b : Bool) (x y : Step) → IsLow (turn_of x) → IsLow (turn_of y) → IsLow (turn_of (if b then x else y))
low_by true x y f g = f
low_by false x y f g = g

low_found : (b : Bool) (at : Ref) → at.offset < 2 ^ 24 → IsLow (found (if b then None else Some at))
low_found true at h = tt
low_found false at h = h

low_offset : (word : ℕ) → word % 2 ^ 24 < 2 ^ 24
low_offset word = omega arith

low_met : (e : Errand) (word : ℕ) → IsLow (turn_of (met e word))
low_met errand.Find word = low_found (nat_eq (word % 2 ^ 32) 0) (record { lane = word / 2 ^ 24 % 2 ^ 8; offset = word % 2 ^ 24 }) (low_offset word)
low_met (errand.Set at) word = tt
low_met errand.Remove word = tt

low_filling : (at : Ref) (last : ℕ) (free : Option Spot) → IsLow (turn_of (filling at last free))
low_filling at last None = tt
low_filling at last (Some s) = tt

low_end : (e : Errand) (t : Trail) → IsLow (turn_of (at_end e t))
low_end errand.Find t = tt
low_end (errand.Set at) t = low_filling at t.bucket t.free
low_end errand.Remove t = tt

low_at : (key : ℕ) (p : WalkPlace) (word : ℕ) → IsLow (turn_of (step_at key p word))
low_at key (walk.Key e t number) word = low_by (word == key) _ _ tt (low_by (number == 3) _ _ tt tt)
low_at key (walk.Next e t) word = low_by (names_bucket word) _ _ (low_by (t.left == 0) _ _ (low_end e t) tt) (low_end e t)
low_at key (walk.Match e s) word = low_met e word
low_at key (walk.Counter at last) word = low_by (nat_lt word 4096) _ _ tt tt
low_at key (walk.Claim at last) word = low_by (nat_lt word 4096) _ _ tt tt
low_at key (walk.FillPlace at s from) word = tt
low_at key (walk.FillKey s None) word = tt
low_at key (walk.FillKey s (Some last)) word = tt
low_at key (walk.Link last new) word = tt

pub walk_low : (w : Walking) (word : ℕ) (at : Ref) → walk_turn w word ≡ turned.Found at → at.offset < 2 ^ 24
walk_low w word at e = subst IsLow e (low_at w.key w.place word)
