use Rattle.std.proofs.Common.{ℕ, ◌≡◌, Bool, true, false, List, [], Option, Some, None, refl, sym, ◌∙◌, ap, subst}
use Rattle.std.proofs.lemmas.List.{append-nil}
use Rattle.dn_act.specs.declared.actions.Action.{Action}
use Rattle.dn_route.specs.CallersOrder.{Told}
use Rattle.dn_callers.specs.Callers.{Standing}
use Rattle.dn_machine.specs.Events.{Monitor as ByMonitor, Fails, Drops, of_monitor, monitor_fails}
use Rattle.dn_machine.specs.Sound.{IsSound}
use Rattle.dn_machine.specs.State.{Machine}
use Rattle.dn_machine.proofs.Kept.{sound}
use Rattle.dn_monitor.specs.Monitor.{Monitoring, monitor_next}
use Rattle.dn_outcomes.specs.Sound.{IsWorld}
use Rattle.dn_outcomes.specs.State.{World, Done, with_event}
use Rattle.dn_outcomes.specs.declared.outcomes.Outcome.{Outcome}
use Rattle.dn_outcomes.specs.declared.outcomes.Outcome.TheVariants as outcome
use Rattle.dn_cluster.specs.declared.actors.Actor.{Actor}
use Rattle.dn_world.specs.Comes.{Turns, Carries, bare, has_failed}
use Rattle.dn_world.specs.Opening.{MayGoOn, MonitorFails, Leads}
use Rattle.dn_world.specs.State.{CrewState, world_of}

-- An order whose action failed is dropped, and the world is sound still.

no_order : Machine → Machine
no_order m = record m { monitor = None }

-- the machine over the words that a failed action left, once no order is under way
failed_sound : (segments : ℕ) (m : Machine) (now : List ℕ) (done : Bool) (o : Option Monitoring) → m.monitor ≡ o → IsSound segments m
    → now ≡ (of_monitor m o (λ x. monitor_fails m done (monitor_next x))).words → IsSound segments (record m { words = now; monitor = None })
failed_sound segments m now done None is h e =
    subst (λ (w : List ℕ). IsSound segments (record m { words = w; monitor = None })) (sym e) (sound segments m Drops h tt)
failed_sound segments m now done (Some x) is h e = by_next done (monitor_next x) refl e where
  by_next : (b : Bool) (p : Option Action) → monitor_next x ≡ p → now ≡ (monitor_fails m b p).words → IsSound segments (record m { words = now; monitor = None })
  by_next b None n f = subst (λ (w : List ℕ). IsSound segments (record m { words = w; monitor = None })) (sym f) (sound segments m Drops h tt)
  by_next false (Some action) n f = subst (λ (w : List ℕ). IsSound segments (record m { words = w; monitor = None })) (sym f) (sound segments m Drops h tt)
  by_next true (Some action) n f =
      subst (λ (w : List ℕ). IsSound segments (record m { words = w; monitor = None })) (sym f)
      (subst (λ (k : Machine). IsSound segments k)
      (ap (λ (o : Option Monitoring). of_monitor m o (λ y. monitor_fails m true (monitor_next y))) is ∙ ap (λ (o : Option Action). monitor_fails m true o) n)
      (sound segments m (Fails ByMonitor true) h tt))

pub dropped_world : (words : List ℕ) (x : CrewState) (now : List ℕ) (y : CrewState) (told : List Told) (receipts : List Standing)
    → MonitorFails words x now → Turns x y (λ w. with_event w Drops) → IsWorld (world_of words x told receipts) → IsWorld (world_of now y told receipts)
dropped_world words x now y told receipts fails drops h = subst IsWorld (sym (drops.is now told receipts)) (record {
  machine = failed_sound x.cluster.segments (world_of words x told receipts).machine now fails.done x.cluster.monitor refl h.machine (fails.so told receipts);
  waiting = h.waiting;
  calls = h.calls;
  asked = h.asked;
  made = h.made;
  live = h.live;
})

pub may_drop : (words : List ℕ) (x z : CrewState) (now : List ℕ) (y : CrewState) → MayGoOn words x → MonitorFails words x now → z ≡ x → Turns z y (λ w. with_event w Drops) → MayGoOn now y
may_drop words x z now y can fails same drops = record {
  told = can.told;
  sound = dropped_world words x now y can.told [] fails (subst (λ (k : CrewState). Turns k y (λ w. with_event w Drops)) same drops) can.sound;
}

pub leads_by : (words : List ℕ) (x : CrewState) (now : List ℕ) (y : CrewState) (o : Outcome) (f : World → Done) → Carries words x now y (bare o) f → Leads words x now y f
leads_by words x now y o f h = record {
  is = λ told receipts sound.
      (h.is told receipts sound).world ∙ ap (λ (rs : List Standing). world_of now y (f (world_of words x told receipts)).world.machine.callers.told rs) (append-nil receipts);
}

pub may_lead : (words : List ℕ) (x : CrewState) (now : List ℕ) (y : CrewState) (f : World → Done) → Leads words x now y f → ((w : World) → IsWorld w → IsWorld (f w).world) → MayGoOn words x → MayGoOn now y
may_lead words x now y f leads keeps can = record {
  told = (f (world_of words x can.told [])).world.machine.callers.told;
  sound = subst IsWorld (leads.is can.told [] can.sound.machine) (keeps (world_of words x can.told []) can.sound);
}

-- an outcome that isn't a fault
pub is_fine : (o : Outcome) → ((a : Actor) → o ≡ outcome.Fault a → ⊥) → has_failed o ≡ false
is_fine outcome.Nothing h = refl
is_fine outcome.Acted h = refl
is_fine (outcome.Numbered number) h = refl
is_fine outcome.Busy h = refl
is_fine outcome.Closed h = refl
is_fine (outcome.Answered session number answer given) h = refl
is_fine (outcome.GivenUp session number) h = refl
is_fine (outcome.Ordered answer) h = refl
is_fine outcome.MonitorBusy h = refl
is_fine (outcome.Tended answer) h = refl
is_fine (outcome.Added lane) h = refl
is_fine outcome.LanesFull h = refl
is_fine outcome.NoLane h = refl
is_fine (outcome.Merged turn) h = refl
is_fine (outcome.Fault actor) h = absurd (h actor refl)
