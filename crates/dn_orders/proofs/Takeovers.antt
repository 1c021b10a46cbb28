use Rattle.std.proofs.Common.{ℕ, ◌-◌, ◌^◌, ◌==◌, ◌<◌, ◌≤◌, ◌≡◌, ◌≢◌, ◌⊎◌, inl, inr, Bool, true, false, if◌then◌else◌, nat_lt, List, [], ◌∷◌, Option, Some, None, slice_index, refl, sym, ◌∙◌, arith}
use Rattle.std.specs.Prelude.{All}
use Rattle.std.proofs.lemmas.Bool.{false≢true}
use Rattle.std.proofs.lemmas.List.Elements.{All-contains}
use Rattle.dn_word.specs.Gate.{gate_of}
use Rattle.dn_word.specs.Deed.{deed_of}
use Rattle.dn_word.specs.declared.packed.gate.Gate.{Gate}
use Rattle.dn_word.specs.declared.packed.deed.DeedState.{DeedState}
use Rattle.dn_word.specs.declared.packed.deed.DeedState.TheVariants.{Nobody, Owned, Leaving, Released}
use Rattle.dn_monitor.specs.Heirs.{AreHeirs}
use Rattle.dn_monitor.specs.Monitor.{is_lane, on, told, ended, granting, yielding, by_state, by_gate, won, step_in}
use Rattle.dn_monitor.specs.declared.orders.MonitorAnswer.TheVariants.{Granted, Held, Waiting, Worn}
use Rattle.dn_monitor.specs.declared.places.Errand.TheVariants.{Move, Takeover}
use Rattle.dn_monitor.specs.declared.places.MonitorPlace.{MonitorPlace}
use Rattle.dn_monitor.specs.declared.places.MonitorPlace.TheVariants as at
use Rattle.dn_monitor.specs.declared.steps.MonitorStep.{MonitorStep}
use Rattle.dn_orders.specs.Knowing.{is_taking, AreLanes}

-- The lanes that a takeover gives slots to; and no other order becomes one.

-- ---- the lanes that the ring of live lanes gives
none_or_some : (xs : List ℕ) → (xs ≡ []) ⊎ (xs ≢ [])
none_or_some [] = inl refl
none_or_some (x ∷ xs) = inr (λ e. absurd (cc e))

pub heirs_are : (live heirs : List ℕ) → All (λ lane. (1 ≤ lane) × (lane < 64)) live → AreHeirs live heirs → AreLanes heirs
heirs_are live heirs all h = record {
  below = λ t lt. elim (none_or_some live) [
    | inl none ↦ omega (arith, h.nobody none t)
    | inr some ↦ (All-contains (λ lane. (1 ≤ lane) × (lane < 64)) live (slice_index heirs t) all (h.owners some t lt).is_live).1
  ];
}

-- ---- a takeover goes on as one, and begins none
if_both : {A : Type 0} (P : A → Type 0) (b : Bool) (x y : A) → P x → P y → P (if b then x else y)
if_both P true x y hx hy = hx
if_both P false x y hx hy = hy

abbrev Moves : MonitorStep → Type 0
Moves s = is_taking s.place ≡ false

granting_moves : (slot to deed : ℕ) (gate : Option Gate) → Moves (granting (Move slot to) deed gate)
granting_moves slot to deed gate =
    if_both Moves ((deed_of deed).epoch == 2 ^ 23 - 1) (ended (Worn (deed_of deed).epoch)) (on (at.Grant (Move slot to) deed gate)) refl refl

yielding_moves : (slot to deed : ℕ) → Moves (yielding (Move slot to) deed)
yielding_moves slot to deed =
    if_both Moves (is_lane (deed_of deed).lane) (on (at.Gate (Move slot to) deed)) (granting (Move slot to) deed None) refl (granting_moves slot to deed None)

deed_moves : (slot to deed : ℕ) (s : DeedState) → Moves (by_state slot to deed s)
deed_moves slot to deed Nobody = granting_moves slot to deed None
deed_moves slot to deed Owned = if_both Moves ((deed_of deed).lane == to) (ended (Granted deed)) (on (at.Leave slot to deed)) refl refl
deed_moves slot to deed Leaving = yielding_moves slot to deed
deed_moves slot to deed Released = yielding_moves slot to deed

gate_moves : (slot to deed : ℕ) (gate : Gate) (s : DeedState) → Moves (by_gate slot to deed gate s)
gate_moves slot to deed gate Nobody = refl
gate_moves slot to deed gate Owned = refl
gate_moves slot to deed gate Leaving = if_both Moves gate.fenced (on (at.Mark (Move slot to) deed gate)) (told (at.Deed (Move slot to)) (Held deed)) refl refl
gate_moves slot to deed gate Released = refl

step_moves : (word : ℕ) (place : MonitorPlace) → is_taking place ≡ false → Moves (step_in word place)
step_moves word at.Done e = refl
step_moves word (at.Format segments) e = refl
step_moves word (at.Look slot) e = refl
step_moves word (at.Fence lane) e = refl
step_moves word (at.Deed (Move slot to)) e = deed_moves slot to word (deed_of word).state
step_moves word (at.Deed (Takeover lane slot n)) e = absurd (false≢true (sym e))
step_moves word (at.Leave slot to deed) e = refl
step_moves word (at.Gate (Move slot to) deed) e = gate_moves slot to deed (gate_of word) (deed_of deed).state
step_moves word (at.Gate (Takeover lane slot n) deed) e = absurd (false≢true (sym e))
step_moves word (at.Mark (Move slot to) deed gate) e =
    if_both Moves (nat_lt word gate.len) (told (at.Mark (Move slot to) deed gate) (Waiting word gate.len)) (granting (Move slot to) deed (Some gate)) refl (granting_moves slot to deed (Some gate))
step_moves word (at.Mark (Takeover lane slot n) deed gate) e = absurd (false≢true (sym e))
step_moves word (at.Grant (Move slot to) deed gate) e = if_both Moves (word == deed) (won (Move slot to) deed gate) (on (at.Deed (Move slot to))) refl refl
step_moves word (at.Grant (Takeover lane slot n) deed gate) e = absurd (false≢true (sym e))

taking_by : (word : ℕ) (place : MonitorPlace) (b : Bool) → is_taking place ≡ b → is_taking (step_in word place).place ≡ true → b ≡ true
taking_by word place true e f = refl
taking_by word place false e f = absurd (false≢true (sym (step_moves word place e) ∙ f))

pub was_taking : (word : ℕ) (place : MonitorPlace) → is_taking (step_in word place).place ≡ true → is_taking place ≡ true
was_taking word place f = taking_by word place (is_taking place) refl f
