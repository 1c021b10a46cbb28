use Rattle.std.specs.Prelude.{◌≡◌, ◌≢◌, ◌<◌, ◌++◌, ◌∷◌, [], ℕ, zero, suc, Bool, true, false, List, Some, None, length, replicate, slice_set}
use Rattle.dn_word.specs.Format.{format_word}
use Rattle.dn_word.specs.Regions.{format_at}
use Rattle.dn_act.specs.Action.{words_after}
use Rattle.dn_act.specs.Words.{word_at}
use Rattle.dn_cluster.specs.Acting.{format_of}
use Rattle.dn_cluster.specs.Does.{Rests, FailsAs}
use Rattle.dn_cluster.specs.Machine.{lane_in}
use Rattle.dn_cluster.specs.State.{numbered}
use Rattle.dn_lane.specs.State.{LaneState}
use Rattle.dn_lane.specs.declared.modes.Mode.TheVariants.{Idle}
use Rattle.dn_machine.specs.Events.{Fails, Monitor as ByMonitor}
use Rattle.dn_machine.specs.Sound.{IsSound}
use Rattle.dn_model.specs.Regions.{deed_at}
use Rattle.dn_monitor.specs.Heirs.{no_heirs}
use Rattle.dn_monitor.specs.declared.orders.Order.TheVariants.{Move}
use Rattle.dn_ring.specs.Ring.{IsOwner}
use Rattle.dn_route.specs.CallersOrder.{Told}
use Rattle.dn_callers.specs.Callers.{Standing}
use Rattle.dn_store.specs.Fresh.{first_deed, IsFreshPool}
use Rattle.dn_waiting.specs.State.{nothing_waits}
use Rattle.dn_outcomes.specs.Runs.{after, IsRun}
use Rattle.dn_outcomes.specs.Sound.{IsWorld}
use Rattle.dn_outcomes.specs.State.{World, Done, opened, is_live}
use Rattle.dn_outcomes.specs.declared.events.Event.{Event}
use Rattle.dn_outcomes.specs.declared.events.Event.TheVariants.{Add, Give, Monitor}
use Rattle.dn_world.specs.State.{CrewState, WorldState, world_of}

-- The opening of a world.

-- ---- its events
-- so many lanes are added
abbrev pub adds_for : ℕ → List (Event × List ℕ)
adds_for n = replicate n (Add, [])

-- a slot is given to a lane: the monitor is given the order, and makes its two actions
abbrev pub grants : ℕ → ℕ → List (Event × List ℕ)
grants slot lane = (Give (Move slot lane), no_heirs) ∷ (Monitor, []) ∷ (Monitor, []) ∷ []

-- and so is each slot below n to its owner, in order
abbrev pub grants_to : (ℕ → ℕ) → ℕ → List (Event × List ℕ)
grants_to owners zero = []
grants_to owners (suc n) = grants_to owners n ++ grants n (owners n)

-- the words of a pool once it is formatted
abbrev pub formatted : ℕ → List ℕ → List ℕ
formatted segments words = words_after (format_of segments) words

-- the pool has its format word
abbrev pub HasFormat : ℕ → List ℕ → Type 0
HasFormat segments words = word_at words format_at ≡ format_word (record { segments = segments; number = 1 })

-- whether no access failed, by the count of those that did
pub record IsWhole (whole : Bool) (old new : ℕ) : Type 0 where
  pub yes_whole : whole ≡ true → new ≡ old
  pub not_whole : whole ≡ false → old < new

-- ---- what it leaves
-- the lanes 1 to n
abbrev pub lanes_to : ℕ → List ℕ
lanes_to zero = []
lanes_to (suc n) = lanes_to n ++ suc n ∷ []

-- Over these words stands a sound world with lanes 1 to n, which are live. No call was made, no task waits, no order is
-- under way, and no lane does anything. Each slot has its owner on the ring of these lanes, by its deed; of all words but
-- the format word and the deeds each is 0. It is what a run of events leads to from the formatted pool: n lanes are added,
-- and each slot is given to its owner.
pub record IsOpened (before words : List ℕ) (w : WorldState) (segments n : ℕ) : Type 0 where
  pub sound : IsWorld (world_of words w.crew [] [])
  pub history : w.history ≡ []
  pub segments_are : w.crew.cluster.segments ≡ segments
  pub made : length w.crew.cluster.nodes ≡ n
  pub live : w.crew.live ≡ lanes_to n
  pub waits : w.crew.waiting ≡ nothing_waits
  pub order : w.crew.cluster.monitor ≡ None
  pub idle : (k : ℕ) (l : LaneState) → lane_in (numbered w.crew.cluster.nodes k) ≡ Some l → l.mode ≡ Idle
  pub owners : ℕ → ℕ
  pub ring : (slot : ℕ) → slot < 64 → IsOwner (lanes_to n) slot (owners slot)
  pub fresh : IsFreshPool words segments n owners
  pub may : IsRun (opened segments (formatted segments before)) (adds_for n ++ grants_to owners 64)
  pub run : world_of words w.crew [] [] ≡ after (opened segments (formatted segments before)) (adds_for n ++ grants_to owners 64)

-- ---- its steps
-- no lane was made, and nobody acts
pub record IsNew (segments : ℕ) (x : CrewState) : Type 0 where
  pub segments_are : x.cluster.segments ≡ segments
  pub rests : Rests x.cluster
  pub waits : x.waiting ≡ nothing_waits
  pub live : x.live ≡ []

-- some told positions make it sound, where no receipt stands
pub record MayGoOn (words : List ℕ) (x : CrewState) : Type 0 where
  pub told : List Told
  pub sound : IsWorld (world_of words x told [])

-- the monitor's action failed, and was done or not done
abbrev pub MonitorFails : List ℕ → CrewState → List ℕ → Type 0
MonitorFails words x now = FailsAs words x.cluster now (λ done. Fails ByMonitor done)

-- this is done, and no receipt comes to stand
pub record Leads (words : List ℕ) (x : CrewState) (now : List ℕ) (y : CrewState) (f : World → Done) : Type 0 where
  pub is : (told : List Told) (receipts : List Standing) → IsSound x.cluster.segments (world_of words x told receipts).machine
      → (f (world_of words x told receipts)).world ≡ world_of now y (f (world_of words x told receipts)).world.machine.callers.told receipts

-- the world over other words
abbrev pub with_words : World → List ℕ → World
with_words w words = record w { machine = record w.machine { words = words } }

-- the words once a slot is a lane's, and once each slot below n is its owner's
abbrev pub granted_to : List ℕ → ℕ → ℕ → List ℕ
granted_to words slot lane = slice_set words (deed_at slot) (first_deed lane)

abbrev pub all_granted : (ℕ → ℕ) → ℕ → List ℕ → List ℕ
all_granted owners zero words = words
all_granted owners (suc n) words = granted_to (all_granted owners n words) n (owners n)

-- no order is under way, the lane is live, and nobody has had the slot
pub record MayGrant (words : List ℕ) (x : CrewState) (slot lane : ℕ) : Type 0 where
  pub sound : IsWorld (world_of words x [] [])
  pub order : x.cluster.monitor ≡ None
  pub lane_is : is_live (world_of words x [] []) lane ≡ true
  pub deed : word_at words (deed_at slot) ≡ 0

pub record IsGranted (words : List ℕ) (x : CrewState) (now : List ℕ) (y : CrewState) (slot lane : ℕ) : Type 0 where
  pub sound : IsWorld (world_of now y [] [])
  pub is : world_of now y [] [] ≡ with_words (world_of words x [] []) (granted_to words slot lane)

-- the same of each slot
pub record MayGrantAll (words : List ℕ) (x : CrewState) : Type 0 where
  pub sound : IsWorld (world_of words x [] [])
  pub order : x.cluster.monitor ≡ None
  pub some : x.live ≢ []
  pub deeds : (slot : ℕ) → slot < 64 → word_at words (deed_at slot) ≡ 0

pub record AreGranted (words : List ℕ) (x : CrewState) (now : List ℕ) (y : CrewState) : Type 0 where
  pub sound : IsWorld (world_of now y [] [])
  pub owners : ℕ → ℕ
  pub ring : (slot : ℕ) → slot < 64 → IsOwner x.live slot (owners slot)
  pub is : world_of now y [] [] ≡ with_words (world_of words x [] []) (all_granted owners 64 words)
  pub run : world_of now y [] [] ≡ after (world_of words x [] []) (grants_to owners 64)
