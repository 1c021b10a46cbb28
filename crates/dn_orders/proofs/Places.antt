use Rattle.std.proofs.Common.{ℕ, ◌+◌, ◌-◌, ◌^◌, ◌==◌, ◌<◌, ◌≤◌, ◌≡◌, inl, inr, Bool, true, false, if◌then◌else◌, nat_lt, Option, Some, None, refl, ◌∙◌, ap, arith}
use Rattle.std.proofs.lemmas.Bool.Decides.{nat_tests}
use Rattle.dn_word.specs.Deed.{deed_of}
use Rattle.dn_word.specs.declared.packed.gate.Gate.{Gate}
use Rattle.dn_word.specs.declared.packed.deed.Deed.{Deed}
use Rattle.dn_word.specs.declared.packed.deed.DeedState.{DeedState}
use Rattle.dn_word.specs.declared.packed.deed.DeedState.TheVariants.{Nobody, Owned, Leaving, Released}
use Rattle.dn_monitor.specs.Monitor.{is_lane, slot_in, on, told, ended, granting, by_state, passed, after_deed, after_mark, won, IsErrand, NamesLane, MayGate, IsPlace}
use Rattle.dn_monitor.specs.declared.orders.MonitorAnswer.TheVariants.{Waiting, Worn, Granted, Taken}
use Rattle.dn_monitor.specs.declared.places.Errand.{Errand}
use Rattle.dn_monitor.specs.declared.places.Errand.TheVariants.{Move, Takeover}
use Rattle.dn_monitor.specs.declared.places.MonitorPlace.{MonitorPlace}
use Rattle.dn_monitor.specs.declared.places.MonitorPlace.TheVariants as at
use Rattle.dn_beside.specs.Pool.{Pool, store_in}
use Rattle.dn_orders.specs.Knowing.{HasLeft, IsStill, HasFound}

-- Where a step of the order leads, what the monitor has found there: of a pool p in which it has just loaded a word.

pub record IsKnown (p : Pool) (place : MonitorPlace) : Type 0 where
  pub is : IsPlace place
  pub found : HasFound p place

pub done_known : (p : Pool) → IsKnown p at.Done
done_known p = record { is = tt; found = tt }

pub deed_known : (p : Pool) (errand : Errand) → IsErrand errand → IsKnown p (at.Deed errand)
deed_known p errand h = record { is = h; found = tt }

-- ---- a grant is next, unless the epoch is the last one
epoch_below : (w : ℕ) → (deed_of w).epoch < 2 ^ 23
epoch_below w = omega arith

not_last : (n : ℕ) → n < 2 ^ 23 → (n == 2 ^ 23 - 1) ≡ false → n + 1 < 2 ^ 23
not_last n lt e = grind (arith, nat_tests)

granting_by : (p : Pool) (errand : Errand) (deed : ℕ) (gate : Option Gate) (b : Bool) → ((deed_of deed).epoch == 2 ^ 23 - 1) ≡ b → IsErrand errand → MayGate gate
    → HasFound p (at.Grant errand deed gate) → IsKnown p (if b then ended (Worn (deed_of deed).epoch) else on (at.Grant errand deed gate)).place
granting_by p errand deed gate true e i g h = done_known p
granting_by p errand deed gate false e i g h = record { is = (i, not_last (deed_of deed).epoch (epoch_below deed) e, g); found = h }

pub granting_known : (p : Pool) (errand : Errand) (deed : ℕ) (gate : Option Gate) → IsErrand errand → MayGate gate → HasFound p (at.Grant errand deed gate) → IsKnown p (granting errand deed gate).place
granting_known p errand deed gate i g h = granting_by p errand deed gate ((deed_of deed).epoch == 2 ^ 23 - 1) refl i g h

-- ---- after the deed
lane_is : (deed : ℕ) → is_lane (deed_of deed).lane ≡ true → NamesLane deed
lane_is deed e = (grind (arith, nat_tests), grind (arith, nat_tests))

yielding_by : (p : Pool) (errand : Errand) (deed : ℕ) (b : Bool) → is_lane (deed_of deed).lane ≡ b → IsErrand errand → IsStill p errand deed
    → IsKnown p (if b then on (at.Gate errand deed) else granting errand deed None).place
yielding_by p errand deed true e i h = record { is = (i, lane_is deed e); found = h }
yielding_by p errand deed false e i h = granting_known p errand deed None i tt (inr e)

owned_by : (p : Pool) (slot to deed : ℕ) (b : Bool) → IsErrand (Move slot to) → (deed_of deed).state ≡ Owned
    → IsKnown p (if b then ended (Granted deed) else on (at.Leave slot to deed)).place
owned_by p slot to deed true i e = done_known p
owned_by p slot to deed false i e = record { is = i; found = e }

-- the deed that stands is the one that was loaded
abbrev IsLoaded : Pool → Errand → ℕ → Type 0
IsLoaded p errand deed = (store_in p).deeds (slot_in errand) ≡ deed_of deed

still_loaded : (p : Pool) (errand : Errand) (deed : ℕ) → IsLoaded p errand deed → HasLeft errand deed → IsStill p errand deed
still_loaded p errand deed e h = record { names = ap (λ (d : Deed). d.lane) e; released = λ r. ap (λ (d : Deed). d.state) e ∙ r; left = h }

moved_by : (p : Pool) (slot to deed : ℕ) (s : DeedState) → (deed_of deed).state ≡ s → IsErrand (Move slot to) → IsLoaded p (Move slot to) deed → IsKnown p (by_state slot to deed s).place
moved_by p slot to deed Nobody e i l = granting_known p (Move slot to) deed None i tt (inl e)
moved_by p slot to deed Owned e i l = owned_by p slot to deed ((deed_of deed).lane == to) i e
moved_by p slot to deed Leaving e i l = yielding_by p (Move slot to) deed (is_lane (deed_of deed).lane) refl i (still_loaded p (Move slot to) deed l (inl e))
moved_by p slot to deed Released e i l = yielding_by p (Move slot to) deed (is_lane (deed_of deed).lane) refl i (still_loaded p (Move slot to) deed l (inr e))

passed_by : (p : Pool) (lane slot n : ℕ) (b : Bool) → (slot == 63) ≡ b → slot < 64 → 0 < lane → lane < 64 → n ≤ slot + 1
    → IsKnown p (if b then ended (Taken n) else on (at.Deed (Takeover lane (slot + 1) n))).place
passed_by p lane slot n true e lt pos below le = done_known p
passed_by p lane slot n false e lt pos below le = deed_known p (Takeover lane (slot + 1) n) (grind (arith, nat_tests), pos, below, le)

pub passed_known : (p : Pool) (lane slot n : ℕ) → slot < 64 → 0 < lane → lane < 64 → n ≤ slot + 1 → IsKnown p (passed lane slot n).place
passed_known p lane slot n lt pos below le = passed_by p lane slot n (slot == 63) refl lt pos below le

named_lane : (deed lane : ℕ) → ((deed_of deed).lane == lane) ≡ true → 0 < lane → lane < 64 → NamesLane deed
named_lane deed lane e pos below = (grind (arith, nat_tests), grind (arith, nat_tests))

taken_by : (p : Pool) (lane slot n deed : ℕ) (b : Bool) → ((deed_of deed).lane == lane) ≡ b → IsErrand (Takeover lane slot n) → IsLoaded p (Takeover lane slot n) deed
    → IsKnown p (if b then on (at.Gate (Takeover lane slot n) deed) else passed lane slot n).place
taken_by p lane slot n deed true e i l = record { is = (i, named_lane deed lane e i.1 i.2); found = still_loaded p (Takeover lane slot n) deed l tt }
taken_by p lane slot n deed false e i l = passed_known p lane slot n i.0 i.1 i.2 (omega (arith, i.3))

pub after_deed_known : (p : Pool) (errand : Errand) (deed : ℕ) → IsErrand errand → IsLoaded p errand deed → IsKnown p (after_deed errand deed).place
after_deed_known p (Move slot to) deed i l = moved_by p slot to deed (deed_of deed).state refl i l
after_deed_known p (Takeover lane slot n) deed i l = taken_by p lane slot n deed ((deed_of deed).lane == lane) refl i l

-- ---- after the mark
mark_by : (p : Pool) (errand : Errand) (deed : ℕ) (gate : Gate) (mark : ℕ) (b : Bool) → nat_lt mark gate.len ≡ b → IsPlace (at.Mark errand deed gate) → HasFound p (at.Mark errand deed gate)
    → mark ≤ (store_in p).marks (deed_of deed).lane
    → IsKnown p (if b then told (at.Mark errand deed gate) (Waiting mark gate.len) else granting errand deed (Some gate)).place
mark_by p errand deed gate mark true e i h le = record { is = i; found = h }
mark_by p errand deed gate mark false e i h le = granting_known p errand deed (Some gate) i.0 i.2 (record { watch = h; merged = grind (arith, nat_tests) })

pub after_mark_known : (p : Pool) (errand : Errand) (deed : ℕ) (gate : Gate) (mark : ℕ) → IsPlace (at.Mark errand deed gate) → HasFound p (at.Mark errand deed gate)
    → mark ≤ (store_in p).marks (deed_of deed).lane → IsKnown p (after_mark errand deed gate mark).place
after_mark_known p errand deed gate mark i h le = mark_by p errand deed gate mark (nat_lt mark gate.len) refl i h le

-- ---- after a grant
pub won_known : (p : Pool) (errand : Errand) (deed : ℕ) (gate : Option Gate) → IsErrand errand → IsKnown p (won errand deed gate).place
won_known p (Move slot to) deed gate i = done_known p
won_known p (Takeover lane slot n) deed gate i = passed_known p lane slot (n + 1) i.0 i.1 i.2 (omega (arith, i.3))
