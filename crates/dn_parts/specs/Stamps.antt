use Rattle.std.specs.Prelude.{◌≡◌, ◌⊎◌, ◌<◌, ◌≤◌, ℕ, ◌+◌, true, max, Contains, Option, Some, None}
use Rattle.dn_word.specs.Deed.{deed_of}
use Rattle.dn_word.specs.declared.packed.gate.Gate.{Gate}
use Rattle.dn_word.specs.declared.packed.deed.DeedState.TheVariants.{Released}
use Rattle.dn_record.specs.Record.{length_in_words}
use Rattle.dn_hist.specs.Calls.{key_of}
use Rattle.dn_model.specs.Regions.{gate, mark, deed, slot_of}
use Rattle.dn_model.specs.declared.logs.Placed.{Placed}
use Rattle.dn_monitor.specs.Monitor.{Monitoring}
use Rattle.dn_monitor.specs.declared.places.Errand.{Errand}
use Rattle.dn_monitor.specs.declared.places.MonitorPlace.{MonitorPlace}
use Rattle.dn_monitor.specs.declared.places.MonitorPlace.TheVariants as at
use Rattle.dn_owners.specs.Known.{Watch}
use Rattle.dn_owners.specs.Sound.{bound_by}
use Rattle.dn_orders.specs.Knowing.{watch_of}
use Rattle.dn_callers.specs.Callers.{Standing}
use Rattle.dn_machine.specs.State.{Machine}
use Rattle.dn_parts.specs.Sealed.{IsSealedOf}

-- Stamps: no change of a key comes before what was answered of it.

-- ---- A receipt's stamp is at most the floor of the deed of its key's slot, or the stamp of the gate of that deed's lane.
pub record AreBound (m : Machine) : Type 0 where
  pub each : (x : Standing) → Contains m.callers.receipts x
      → x.receipt.position.stamp ≤ bound_by (deed m.words) (gate m.words) (key_of x.receipt.call)

-- ---- The monitor grants a slot anew.
-- what it has read of a gate by then: whose, for which slot, its length and its stamp
abbrev pub watched_by : Errand → ℕ → Option Gate → Option Watch
watched_by errand deed None = None
watched_by errand deed (Some gate) = Some (watch_of errand deed gate)

abbrev pub watched_at : MonitorPlace → Option Watch
watched_at at.Done = None
watched_at (at.Format segments) = None
watched_at (at.Look slot) = None
watched_at (at.Fence lane) = None
watched_at (at.Deed errand) = None
watched_at (at.Leave slot to deed) = None
watched_at (at.Gate errand deed) = None
watched_at (at.Mark errand deed gate) = watched_by errand deed (Some gate)
watched_at (at.Grant errand deed gate) = watched_by errand deed gate

-- That lane has given the slot up, or its gate has the bit. All that it sealed of the slot begins below that length, and
-- all that was answered of the slot's keys has at most that stamp, or at most the deed's floor.
pub record IsEnded (m : Machine) (w : Watch) : Type 0 where
  pub past : ((deed m.words w.slot).state ≡ Released) ⊎ ((gate m.words w.lane).fenced ≡ true)
  pub names : (deed m.words w.slot).lane ≡ w.lane
  pub sealed : (k : ℕ) (p : Placed) → IsSealedOf m.words w.lane k p → slot_of k ≡ w.slot → p.offset < w.len
  pub stamps : (x : Standing) → Contains m.callers.receipts x → slot_of (key_of x.receipt.call) ≡ w.slot
      → x.receipt.position.stamp ≤ max (deed m.words w.slot).floor w.stamp

-- At the grant the log is merged up to that length, and with it each whole record that the lane sealed of the slot.
pub record IsMergedFor (m : Machine) (errand : Errand) (word : ℕ) (gate : Gate) : Type 0 where
  pub length : gate.len ≤ mark m.words (deed_of word).lane
  pub all : (k : ℕ) (p : Placed) → IsSealedOf m.words (deed_of word).lane k p → slot_of k ≡ (watch_of errand word gate).slot
      → p.offset + length_in_words p.entry ≤ mark m.words (deed_of word).lane

pub record GrantsInOrder (m : Machine) : Type 0 where
  pub ended : (x : Monitoring) (w : Watch) → m.monitor ≡ Some x → watched_at x.place ≡ Some w → IsEnded m w
  pub merged : (x : Monitoring) (errand : Errand) (word : ℕ) (gate : Gate) → m.monitor ≡ Some x
      → x.place ≡ at.Grant errand word (Some gate) → IsMergedFor m errand word gate
