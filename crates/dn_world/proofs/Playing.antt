use Rattle.std.proofs.Common.{ℕ, ◌<◌, ◌≡◌, Bool, true, false, List, refl, subst, sym, arith}
use Rattle.std.specs.Prelude.{Result, Ok, Err, OnErr, IfOk}
use Rattle.dn_outcomes.specs.Does.{does}
use Rattle.dn_outcomes.specs.Sound.{IsWorld}
use Rattle.dn_outcomes.specs.declared.events.Event.{Event}
use Rattle.dn_outcomes.specs.declared.outcomes.Outcome.{Outcome}
use Rattle.dn_world.specs.Comes.{OnDone, CountsFault, has_failed}
use Rattle.dn_world.specs.Finishes.{Finishes}
use Rattle.dn_world.specs.Happens.{CanBeSound, Happens}
use Rattle.dn_world.specs.State.{WorldState, world_of}

-- A world that can be sound stays so, whatever events it is given, and when it is finished.

pub happened_can : (words : List ℕ) (w : WorldState) (now : List ℕ) (v : WorldState) (e : Event) (outcome : Outcome) → Happens words w now v e outcome → CanBeSound words w → CanBeSound now v
happened_can words w now v e outcome h can =
    let it = h.is can.told can.sound in
    record {
      told = (does (world_of words w.crew can.told w.history) e h.heirs).world.machine.callers.told;
      sound = subst IsWorld it.world it.sound;
    }

pub finished_can : (words : List ℕ) (w : WorldState) (now : List ℕ) (v : WorldState) (n : ℕ) → Finishes words w now v n → CanBeSound words w → CanBeSound now v
finished_can words w now v n h can = record { told = can.told; sound = (h.is can.told can.sound).sound }

-- no access fails
not_failed : (outcome : Outcome) (b : Bool) → has_failed outcome ≡ b → (b ≡ true → 0 < 0) → has_failed outcome ≡ false
not_failed outcome true e h = absurd (omega (arith, h refl))
not_failed outcome false e h = e

pub played : {E : Type 0} (words : List ℕ) (w : WorldState) (now : List ℕ) (v : WorldState) (e : Event) (r : Result Outcome E) → IfOk r (λ outcome. OnDone outcome (Happens words w now v e outcome)) → IfOk r (λ outcome. CountsFault outcome 0 0)
    → OnErr r (v ≡ w) → OnErr r (now ≡ words) → CanBeSound words w → CanBeSound now v
played words w now v e (Ok outcome) happens counts same still can =
    happened_can words w now v e outcome (happens (not_failed outcome (has_failed outcome) refl (λ t. counts.fault t))) can
played words w now v e (Err x) happens counts same still can =
    subst (λ (ws : List ℕ). CanBeSound ws v) (sym still) (subst (λ (z : WorldState). CanBeSound words z) (sym same) can)
