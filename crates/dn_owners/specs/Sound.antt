use Rattle.std.specs.Prelude.{◌≡◌, ◌⊎◌, ℕ, ◌+◌, ◌<◌, ◌≤◌, Bool, true, false, max, List, [], ◌∷◌, Option, Some, None, Contains}
use Rattle.dn_word.specs.Ref.{ref_of}
use Rattle.dn_word.specs.declared.packed.gate.Gate.{Gate}
use Rattle.dn_word.specs.declared.packed.deed.Deed.{Deed}
use Rattle.dn_word.specs.declared.packed.deed.DeedState.TheVariants.{Nobody, Owned, Leaving, Released}
use Rattle.dn_record.specs.declared.records.Record.{Record}
use Rattle.dn_record.specs.declared.records.Record.TheVariants.{Delete}
use Rattle.dn_model.specs.Regions.{slot_of}
use Rattle.dn_model.specs.declared.logs.Placed.{Placed}
use Rattle.dn_model.specs.Held.{Found, Says, is_authority, unmerged, record_at}
use Rattle.dn_store.specs.Holding.{authority_in}
use Rattle.dn_owners.specs.Counting.{pending_from}
use Rattle.dn_owners.specs.Known.{Look, Learnt, Knows, Watch, Owners}

-- What stays true of owners, part by part. A part has for parameters the functions, or the one lane's share of them,
-- that it reads.

-- ---- what a store that words represent gives: offsets rise up to a log's length
abbrev pub Rise : ℕ → List Placed → Type 0
Rise from [] = Unit {0}
Rise from (p ∷ ps) = (from ≤ p.offset) × Rise (p.offset + 1) ps

pub record IsOrdered (logs : ℕ → List Placed) (gates : ℕ → Gate) (marks : ℕ → ℕ) : Type 0 where
  pub rise : (n : ℕ) → Rise 0 (logs n)
  pub below : (n : ℕ) (p : Placed) → Contains (logs n) p → p.offset < (gates n).len
  pub merged : (n : ℕ) → marks n ≤ (gates n).len
  -- 0 is no lane
  pub nobody : logs 0 ≡ []

-- ---- an authority record that isn't merged lies only in the log of the lane that its slot's deed names
pub record IsOne (logs : ℕ → List Placed) (marks : ℕ → ℕ) (deeds : ℕ → Deed) : Type 0 where
  pub each : (n k : ℕ) (p : Placed) → Contains (logs n) p → marks n ≤ p.offset → is_authority k p.entry ≡ true
      → (deeds (slot_of k)).lane ≡ n

-- ---- a slot of nobody names no lane, and that has no stamp
pub record IsIdle (deeds : ℕ → Deed) (gates : ℕ → Gate) : Type 0 where
  pub slots : (t : ℕ) → t < 64 → (deeds t).state ≡ Nobody → (deeds t).lane ≡ 0
  pub stamp : (gates 0).stamp ≡ 0

-- ---- the index leads to an authority record of its key
pub record IsLeading (logs : ℕ → List Placed) (index : ℕ → Option ℕ) : Type 0 where
  pub leads : (k w : ℕ) → index k ≡ Some w
      → (r : Record) × (record_at logs (ref_of w) ≡ Some r) × (is_authority k r ≡ true)

-- ---- what a look has shown: while the gate has no bit, the deed is as it was found, or Leaving
abbrev pub IsLive : Deed → Type 0
IsLive d = (d.state ≡ Owned) ⊎ (d.state ≡ Leaving)

pub record IsHeld (d : Deed) (n : ℕ) (l : Look) : Type 0 where
  pub names : d.lane ≡ n
  pub epoch : d.epoch ≡ l.epoch
  pub floor : d.floor ≡ l.floor
  pub live : IsLive d

-- an epoch was learnt, when the log was no longer than this
pub record IsLearnt (learnt : Option Learnt) (epoch upto : ℕ) : Type 0 where
  pub of : Learnt
  pub is : learnt ≡ Some of
  pub same : of.epoch ≡ epoch
  pub before : of.from ≤ upto

pub record IsLooking (deeds : ℕ → Deed) (gate : Gate) (n : ℕ) (v : Knows) : Type 0 where
  pub held : (l : Look) → v.look ≡ Some l → gate.fenced ≡ false → IsHeld (deeds l.slot) n l
  pub learnt : (l : Look) → v.look ≡ Some l → IsLearnt (v.learnt l.slot) l.epoch gate.len
  pub running : (l : Look) → v.look ≡ Some l → v.running ≡ true

-- ---- what a lane has learnt isn't of the future
pub record IsPast (deeds : ℕ → Deed) (gate : Gate) (v : Knows) : Type 0 where
  pub each : (t : ℕ) (c : Learnt) → v.learnt t ≡ Some c → (c.epoch ≤ (deeds t).epoch) × (c.from ≤ gate.len)

-- ---- the pending records of a lane that runs: all of its log but those that it dropped, which are merged
pub record IsPending (log : List Placed) (mark : ℕ) (v : Knows) : Type 0 where
  pub keeps : v.running ≡ true → v.pending ≡ pending_from v.dropped log
  pub low : v.running ≡ true → v.dropped ≤ mark

-- ---- which of them count
-- a lane owns a slot by this deed: it runs, without the bit
pub record Owns (running : Bool) (gate : Gate) (d : Deed) (n : ℕ) : Type 0 where
  pub is_running : running ≡ true
  pub unfenced : gate.fenced ≡ false
  pub names : d.lane ≡ n

-- an authority record of a slot that it owns, where it isn't merged, was sealed since the lane learnt the slot's epoch
pub record IsCounted (log : List Placed) (gate : Gate) (mark : ℕ) (deeds : ℕ → Deed) (n : ℕ) (v : Knows) : Type 0 where
  pub each : (k : ℕ) (p : Placed) → Owns v.running gate (deeds (slot_of k)) n → Contains log p → mark ≤ p.offset
      → is_authority k p.entry ≡ true → IsLearnt (v.learnt (slot_of k)) (deeds (slot_of k)).epoch p.offset

-- ---- and what they tell
-- a record is a key's authority, or a Delete of a key without authority
abbrev pub Agrees : Found (Option Record) → ℕ → Record → Type 0
Agrees found k r = (found ≡ Says (Some r)) ⊎ ((found ≡ Says None) × (r ≡ Delete k))

-- the last one since the epoch of now was learnt is the key's authority
pub record IsTold (log : List Placed) (gate : Gate) (deeds : ℕ → Deed) (authority : ℕ → Found (Option Record))
    (n : ℕ) (v : Knows) : Type 0 where
  pub each : (k : ℕ) (c : Learnt) (r : Record) → Owns v.running gate (deeds (slot_of k)) n
      → v.learnt (slot_of k) ≡ Some c → c.epoch ≡ (deeds (slot_of k)).epoch → unmerged k c.from log ≡ Some r
      → Agrees (authority k) k r

-- ---- what was promised: the floor of the key's slot, or the gate of its lane, has at least that stamp
abbrev pub bound_by : (ℕ → Deed) → (ℕ → Gate) → ℕ → ℕ
bound_by deeds gates k = max (deeds (slot_of k)).floor (gates (deeds (slot_of k)).lane).stamp

pub record AreStamps (deeds : ℕ → Deed) (gates : ℕ → Gate) (promised : ℕ → ℕ) : Type 0 where
  pub each : (k : ℕ) → promised k ≤ bound_by deeds gates k

-- ---- a monitor past Released or the bit: that lane seals no authority record of the slot and promises nothing of it
-- any more
pub record IsWatched (logs : ℕ → List Placed) (gates : ℕ → Gate) (deeds : ℕ → Deed) (promised : ℕ → ℕ)
    (w : Watch) : Type 0 where
  pub past : ((deeds w.slot).state ≡ Released) ⊎ ((gates w.lane).fenced ≡ true)
  pub names : (deeds w.slot).lane ≡ w.lane
  pub ended : (k : ℕ) (p : Placed) → Contains (logs w.lane) p → is_authority k p.entry ≡ true
      → slot_of k ≡ w.slot → p.offset < w.len
  pub stamps : (k : ℕ) → slot_of k ≡ w.slot → promised k ≤ max (deeds w.slot).floor w.stamp

-- ---- all of them
pub record IsSound (o : Owners) : Type 0 where
  pub one : IsOne o.store.logs o.store.marks o.store.deeds
  pub idle : IsIdle o.store.deeds o.store.gates
  pub leading : IsLeading o.store.logs o.store.index
  pub looks : (n : ℕ) → IsLooking o.store.deeds (o.store.gates n) n (o.knows n)
  pub past : (n : ℕ) → IsPast o.store.deeds (o.store.gates n) (o.knows n)
  pub pending : (n : ℕ) → IsPending (o.store.logs n) (o.store.marks n) (o.knows n)
  pub counted : (n : ℕ) → IsCounted (o.store.logs n) (o.store.gates n) (o.store.marks n) o.store.deeds n (o.knows n)
  pub told : (n : ℕ) → IsTold (o.store.logs n) (o.store.gates n) o.store.deeds (authority_in o.store) n (o.knows n)
  pub stamps : AreStamps o.store.deeds o.store.gates o.promised
  pub watched : (w : Watch) → o.watch ≡ Some w → IsWatched o.store.logs o.store.gates o.store.deeds o.promised w
