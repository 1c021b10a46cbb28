use Rattle.std.specs.Prelude.{◌≡◌, ◌<◌, ◌-◌, ◌^◌, ℕ, List}
use Rattle.dn_monitor.specs.Monitor.{IsOrder}
use Rattle.dn_monitor.specs.declared.orders.Order.{Order}
use Rattle.dn_monitor.specs.declared.orders.Order.TheVariants.{Format}
use Rattle.dn_lanes.specs.Begun.{IsOwnTask}
use Rattle.dn_lanes.specs.Calls.{IsCall}
use Rattle.dn_route.specs.CallersOrder.{Told}
use Rattle.dn_callers.specs.Callers.{Standing}
use Rattle.dn_callers.specs.Sessions.{IsSession}
use Rattle.dn_cluster.specs.Machine.{session_at}
use Rattle.dn_outcomes.specs.Does.{does}
use Rattle.dn_outcomes.specs.Sound.{IsWorld, MayHappen}
use Rattle.dn_outcomes.specs.declared.events.Event.{Event}
use Rattle.dn_outcomes.specs.declared.events.Event.TheVariants as event
use Rattle.dn_outcomes.specs.declared.outcomes.Outcome.{Outcome}
use Rattle.dn_world.specs.Comes.{Came, IsDone}
use Rattle.dn_world.specs.State.{CrewState, WorldState, world_of}

-- What an event does to a world over the words of its pool.

-- ---- what may be given
-- the session has numbered fewer than 2^32 - 1 calls
abbrev pub HasNumber : CrewState → ℕ → Type 0
HasNumber x s = (session_at x.cluster s).number < 2 ^ 32 - 1

abbrev pub IsNoFormat : Order → Type 0
IsNoFormat o = (segments : ℕ) → o ≡ Format segments → ⊥

abbrev pub MayBeGivenTo : CrewState → Event → Type 0
MayBeGivenTo x (event.Start s lane call) = IsSession s × IsCall call × HasNumber x s
MayBeGivenTo x (event.Step n) = Unit {0}
MayBeGivenTo x (event.Flow n index) = Unit {0}
MayBeGivenTo x (event.Merge n) = Unit {0}
MayBeGivenTo x event.Monitor = Unit {0}
MayBeGivenTo x (event.Refresh s) = IsSession s
MayBeGivenTo x (event.Give o) = IsOrder o × IsNoFormat o
MayBeGivenTo x event.DropOrder = Unit {0}
MayBeGivenTo x (event.Queue n t) = IsOwnTask t
MayBeGivenTo x event.Add = Unit {0}
MayBeGivenTo x (event.Tell s t) = IsSession s × IsSession t

abbrev pub MayBeGiven : WorldState → Event → Type 0
MayBeGiven w e = MayBeGivenTo w.crew e

-- ---- what comes of it
-- These lanes are a takeover's; with them the event may happen and is done.
pub record IsEvent (words : List ℕ) (x : CrewState) (now : List ℕ) (y : CrewState) (came : Came) (e : Event) (heirs : List ℕ) (told : List Told) (receipts : List Standing) : Type 0 where
  pub may : MayHappen (world_of words x told receipts) e heirs
  pub is : IsDone words x now y came (λ w. does w e heirs) told receipts

pub record HappensTo (words : List ℕ) (x : CrewState) (now : List ℕ) (y : CrewState) (came : Came) (e : Event) : Type 0 where
  pub heirs : List ℕ
  pub is : (told : List Told) (receipts : List Standing) → IsWorld (world_of words x told receipts) → IsEvent words x now y came e heirs told receipts

-- ---- of a world with its receipts
-- some told positions make it sound
pub record CanBeSound (words : List ℕ) (w : WorldState) : Type 0 where
  pub told : List Told
  pub sound : IsWorld (world_of words w.crew told w.history)

-- the world after it is sound, and is the one that the event leaves
pub record IsHappened (words : List ℕ) (w : WorldState) (now : List ℕ) (v : WorldState) (e : Event) (outcome : Outcome) (heirs : List ℕ) (told : List Told) : Type 0 where
  pub may : MayHappen (world_of words w.crew told w.history) e heirs
  pub world : (does (world_of words w.crew told w.history) e heirs).world
      ≡ world_of now v.crew (does (world_of words w.crew told w.history) e heirs).world.machine.callers.told v.history
  pub outcome_is : outcome ≡ (does (world_of words w.crew told w.history) e heirs).outcome
  pub sound : IsWorld (does (world_of words w.crew told w.history) e heirs).world

-- whatever was told, with these lanes for a takeover
pub record Happens (words : List ℕ) (w : WorldState) (now : List ℕ) (v : WorldState) (e : Event) (outcome : Outcome) : Type 0 where
  pub heirs : List ℕ
  pub is : (told : List Told) → IsWorld (world_of words w.crew told w.history) → IsHappened words w now v e outcome heirs told
