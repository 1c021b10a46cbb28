use Rattle.std.proofs.Common.{ℕ, ◌≡◌, sym, ◌∙◌, ap}
use Rattle.dn_machine.specs.Events.{Loads}
use Rattle.dn_waiting.specs.State.{call_of}
use Rattle.dn_waiting.specs.declared.calls.Course.{Course}
use Rattle.dn_waiting.specs.declared.calls.Course.TheVariants.{Load}
use Rattle.dn_outcomes.specs.State.{World, with_event}
use Rattle.dn_outcomes.specs.Going.{goes_on, slot_at}
use Rattle.dn_world.specs.State.{CrewState, world_of}
use Rattle.dn_world.specs.Comes.{Turns}
use Rattle.dn_world.proofs.Changes.{IsClustered, clustered}

-- A session's call goes on to a load of its slot's deed.
pub goes : (x y : CrewState) (s slot : ℕ) (course : Course) → course ≡ Load → slot ≡ slot_at (call_of x.waiting s) → IsClustered x y (Loads s slot) → Turns x y (λ w. goes_on w s course)
goes x y s slot course load at h = record {
  is = λ words told receipts.
      let w : World = world_of words x told receipts in
      (clustered x y (Loads s slot) h).is words told receipts ∙ ap (λ (k : ℕ). with_event w (Loads s k)) at ∙ sym (ap (λ (c : Course). goes_on w s c) load);
}
