use Rattle.std.proofs.Common.{ℕ, ◌≡◌, ◌<◌, inl, inr, true, List, refl, ap, arith}
use Rattle.dn_word.specs.declared.packed.deed.Deed.{Deed}
use Rattle.dn_callers.specs.Callers.{receipts_of}
use Rattle.dn_outcomes.specs.Does.{does}
use Rattle.dn_outcomes.specs.Sound.{IsWorld}
use Rattle.dn_outcomes.specs.State.{World}
use Rattle.dn_outcomes.specs.declared.events.Event.{Event}
use Rattle.dn_outcomes.specs.declared.events.Event.TheVariants as event
use Rattle.dn_moves.specs.Changes.{GivesUp}
use Rattle.dn_moves.specs.Grants.{Grants, IsGranted}
use Rattle.dn_moves.specs.Orders.{is_monitor}
use Rattle.dn_moves.proofs.Events.{changes, monitor_at}
use Rattle.dn_moves.proofs.Monitors.{monitor_grants}

-- A slot is granted by the monitor alone, and so.

-- ---- no other event gives a deed a later epoch
equal_not : (old new : Deed) → new ≡ old → old.epoch < new.epoch → ⊥
equal_not old new e lt = omega (arith, ap (λ (x : Deed). x.epoch) e, lt)

given_up_not : (old new : Deed) → GivesUp old new → old.epoch < new.epoch → ⊥
given_up_not old new (inl e) lt = equal_not old new e lt
given_up_not old new (inr is) lt = omega (arith, is.epoch, lt)

pub by_monitor : (w : World) (e : Event) (heirs : List ℕ) (t : ℕ) → IsWorld w → t < 64 → Grants w.machine.words (does w e heirs).world.machine.words t → is_monitor e ≡ true
by_monitor w (event.Start s lane call) heirs t h lt g = absurd (equal_not _ _ (changes w (event.Start s lane call) heirs t h lt) g)
by_monitor w (event.Step n) heirs t h lt g = absurd (given_up_not _ _ (changes w (event.Step n) heirs t h lt) g)
by_monitor w (event.Flow n index) heirs t h lt g = absurd (given_up_not _ _ (changes w (event.Flow n index) heirs t h lt) g)
by_monitor w (event.Merge n) heirs t h lt g = absurd (equal_not _ _ (changes w (event.Merge n) heirs t h lt) g)
by_monitor w event.Monitor heirs t h lt g = refl
by_monitor w (event.Refresh s) heirs t h lt g = absurd (equal_not _ _ (changes w (event.Refresh s) heirs t h lt) g)
by_monitor w (event.Give o) heirs t h lt g = absurd (equal_not _ _ (changes w (event.Give o) heirs t h lt) g)
by_monitor w event.DropOrder heirs t h lt g = absurd (equal_not _ _ (changes w event.DropOrder heirs t h lt) g)
by_monitor w (event.Queue n task) heirs t h lt g = absurd (equal_not _ _ (changes w (event.Queue n task) heirs t h lt) g)
by_monitor w event.Add heirs t h lt g = absurd (equal_not _ _ (changes w event.Add heirs t h lt) g)
by_monitor w (event.Tell s k) heirs t h lt g = absurd (equal_not _ _ (changes w (event.Tell s k) heirs t h lt) g)

-- ---- and by its action it is so
pub granted_so : (w : World) (heirs : List ℕ) (t : ℕ) → IsWorld w → t < 64 → Grants w.machine.words (does w event.Monitor heirs).world.machine.words t
    → IsGranted w.machine.words (does w event.Monitor heirs).world.machine.words (receipts_of w.machine.callers.receipts) t
granted_so w heirs t h lt g =
    monitor_at (λ now is. Grants w.machine.words now t → IsGranted w.machine.words now (receipts_of w.machine.callers.receipts) t) w
    (λ same. absurd (omega (arith, same)))
    (λ x action is e rises. monitor_grants w.segments w.machine x action t h.machine is e lt rises) g
