use Rattle.std.specs.Prelude.{◌≡◌, ◌⊎◌, ℕ, ◌<◌, ◌≤◌, Bool, true, false, List, Some, None, slice_index}
use Rattle.dn_word.specs.Deed.{deed_of}
use Rattle.dn_word.specs.declared.packed.gate.Gate.{Gate}
use Rattle.dn_word.specs.declared.packed.deed.DeedState.TheVariants.{Nobody, Owned, Released}
use Rattle.dn_monitor.specs.Causes.{IsGivenUp}
use Rattle.dn_monitor.specs.Monitor.{Monitoring, IsPlace, is_lane, slot_in}
use Rattle.dn_monitor.specs.declared.places.Errand.{Errand}
use Rattle.dn_monitor.specs.declared.places.Errand.TheVariants.{Move, Takeover}
use Rattle.dn_monitor.specs.declared.places.MonitorPlace.{MonitorPlace}
use Rattle.dn_monitor.specs.declared.places.MonitorPlace.TheVariants as at
use Rattle.dn_owners.specs.Known.{Watch}
use Rattle.dn_beside.specs.Pool.{Pool, store_in}

-- What the monitor knows of the pool, place by place. `deed` is the word of the slot's deed that it has loaded.

-- a move goes on to the gate of a lane that leaves the slot or has left it; a takeover, whatever the state
abbrev pub HasLeft : Errand → ℕ → Type 0
HasLeft (Move slot to) deed = IsGivenUp deed
HasLeft (Takeover lane slot n) deed = Unit {0}

-- the slot is still that lane's: no lane takes one, and one that was given up stays so
pub record IsStill (p : Pool) (errand : Errand) (deed : ℕ) : Type 0 where
  pub names : ((store_in p).deeds (slot_in errand)).lane ≡ (deed_of deed).lane
  pub released : (deed_of deed).state ≡ Released → ((store_in p).deeds (slot_in errand)).state ≡ Released
  pub left : HasLeft errand deed

-- what the load of that lane's gate has shown, past Released or the bit
abbrev pub watch_of : Errand → ℕ → Gate → Watch
watch_of errand deed gate =
    record { slot = slot_in errand; lane = (deed_of deed).lane; len = gate.len; stamp = gate.stamp }

-- and that the log was merged up to that length
pub record IsMerged (p : Pool) (errand : Errand) (deed : ℕ) (gate : Gate) : Type 0 where
  pub watch : p.owners.watch ≡ Some (watch_of errand deed gate)
  pub merged : gate.len ≤ (store_in p).marks (deed_of deed).lane

-- a deed without a lane: of nobody, or one that names no lane from 1 to 63
abbrev pub HasNobody : ℕ → Type 0
HasNobody deed = ((deed_of deed).state ≡ Nobody) ⊎ (is_lane (deed_of deed).lane ≡ false)

-- The format that an order stores is the one that stands.
abbrev pub HasFound : Pool → MonitorPlace → Type 0
HasFound p at.Done = Unit {0}
HasFound p (at.Format segments) = segments ≡ (store_in p).pool
HasFound p (at.Look slot) = Unit {0}
HasFound p (at.Fence lane) = Unit {0}
HasFound p (at.Deed errand) = Unit {0}
HasFound p (at.Leave slot to deed) = (deed_of deed).state ≡ Owned
HasFound p (at.Gate errand deed) = IsStill p errand deed
HasFound p (at.Mark errand deed gate) = p.owners.watch ≡ Some (watch_of errand deed gate)
HasFound p (at.Grant errand deed None) = HasNobody deed
HasFound p (at.Grant errand deed (Some gate)) = IsMerged p errand deed gate

-- a takeover is under way
abbrev pub takes : Errand → Bool
takes (Move slot to) = false
takes (Takeover lane slot n) = true

abbrev pub is_taking : MonitorPlace → Bool
is_taking at.Done = false
is_taking (at.Format segments) = false
is_taking (at.Look slot) = false
is_taking (at.Fence lane) = false
is_taking (at.Deed errand) = takes errand
is_taking (at.Leave slot to deed) = false
is_taking (at.Gate errand deed) = takes errand
is_taking (at.Mark errand deed gate) = takes errand
is_taking (at.Grant errand deed gate) = takes errand

-- and gives each slot to a lane, or to nobody, which is 0
pub record AreLanes (heirs : List ℕ) : Type 0 where
  pub below : (t : ℕ) → t < 64 → slice_index heirs t < 64

pub record KnowsOrder (p : Pool) (m : Monitoring) : Type 0 where
  pub heirs : is_taking m.place ≡ true → AreLanes m.heirs
  pub place : IsPlace m.place
  pub found : HasFound p m.place
