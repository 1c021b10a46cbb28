use Rattle.std.specs.Prelude.{◌≡◌, ◌⊎◌, ℕ, ◌<◌, ◌≤◌, true, false, max, List, [], ◌∷◌, ◌++◌, Option, Some, None, Contains}
use Rattle.dn_word.specs.Ref.{ref_of}
use Rattle.dn_word.specs.declared.packed.gate.Gate.{Gate}
use Rattle.dn_word.specs.declared.packed.deed.Deed.{Deed}
use Rattle.dn_word.specs.declared.packed.deed.DeedState.{DeedState}
use Rattle.dn_word.specs.declared.packed.deed.DeedState.TheVariants.{Nobody, Owned, Leaving, Released}
use Rattle.dn_record.specs.declared.records.Record.{Record}
use Rattle.dn_record.specs.declared.records.Record.TheVariants.{Delete}
use Rattle.dn_model.specs.Regions.{slot_of}
use Rattle.dn_model.specs.declared.logs.Placed.{Placed}
use Rattle.dn_model.specs.Held.{is_authority, unmerged, record_at}
use Rattle.dn_owners.specs.Known.{Look, Learnt, Watch, Owners}
use Rattle.dn_owners.specs.Sound.{Rise}
use Rattle.dn_owners.specs.Events.{Event, Look_known, Look_new, End, Raise, Seal, Promise, Trim, Set, Pass, Fence, Leave, Release, Watches, Grant, Adopt, Stop, Begin}

-- When an event may happen: what its actor has found at the word, and what it knows.

-- ---- lanes
-- a lane that runs finds the slot Owned, and itself named
pub record IsOwner (o : Owners) (n : ℕ) (l : Look) : Type 0 where
  pub running : (o.knows n).running ≡ true
  pub state : (o.store.deeds l.slot).state ≡ Owned
  pub names : (o.store.deeds l.slot).lane ≡ n
  pub epoch : (o.store.deeds l.slot).epoch ≡ l.epoch
  pub floor : (o.store.deeds l.slot).floor ≡ l.floor

abbrev pub HasLearnt : Owners → ℕ → Look → Type 0
HasLearnt o n l = (c : Learnt) × ((o.knows n).learnt l.slot ≡ Some c) × (c.epoch ≡ l.epoch)

-- a gate without the bit is exchanged: the stamp doesn't fall
pub record IsExchange (old new : Gate) (n : ℕ) : Type 0 where
  pub lane : 0 < n
  pub unfenced : old.fenced ≡ false
  pub stays : new.fenced ≡ false
  pub stamp : old.stamp ≤ new.stamp

-- Records are sealed. Where they change a key, by their last record of it, the key is of the slot of the lane's look.
pub record IsSealing (o : Owners) (n : ℕ) (gate : Gate) (more : List Placed) : Type 0 where
  pub running : (o.knows n).running ≡ true
  pub exchange : IsExchange (o.store.gates n) gate n
  pub longer : (o.store.gates n).len ≤ gate.len
  pub rise : Rise (o.store.gates n).len more
  pub owned : (k : ℕ) (r : Record) → unmerged k 0 more ≡ Some r
      → (l : Look) × ((o.knows n).look ≡ Some l) × (slot_of k ≡ l.slot)

-- A stamp of a key is promised: it is at most the floor or the gate of the call that looked at the key's slot; or it
-- was before.
pub data IsPromise (o : Owners) (n k stamp : ℕ) : Type 0 where
  At_gate : (l : Look) → (o.knows n).look ≡ Some l → slot_of k ≡ l.slot → (o.store.gates n).fenced ≡ false
      → stamp ≤ max l.floor (o.store.gates n).stamp → IsPromise o n k stamp
  Again : stamp ≤ o.promised k → IsPromise o n k stamp

-- ---- mergers
-- the index is set to the place of a record that isn't merged, or its key is taken out
pub record IsSetting (o : Owners) (n k : ℕ) (p : Placed) (place : Option ℕ) : Type 0 where
  pub has : Contains (o.store.logs n) p
  pub unmerged : o.store.marks n ≤ p.offset
  pub authority : is_authority k p.entry ≡ true
  pub leads : (w : ℕ) → place ≡ Some w → record_at o.store.logs (ref_of w) ≡ Some p.entry

-- the index follows a record: it leads there, or past a Delete it gives nothing for its key
abbrev pub IsFollowed : Owners → ℕ → Record → Type 0
IsFollowed o k r = ((w : ℕ) × (o.store.index k ≡ Some w) × (record_at o.store.logs (ref_of w) ≡ Some r))
    ⊎ ((o.store.index k ≡ None) × (r ≡ Delete k))

-- the mark goes from the record to where the next begins
pub record IsPassing (o : Owners) (n to : ℕ) (p : Placed) : Type 0 where
  pub before : List Placed
  pub after : List Placed
  pub log : o.store.logs n ≡ before ++ p ∷ after
  pub at : o.store.marks n ≡ p.offset
  pub past : p.offset < to
  pub rest : (q : Placed) → Contains after q → to ≤ q.offset
  pub followed : (k : ℕ) → is_authority k p.entry ≡ true → IsFollowed o k p.entry

-- ---- deeds
-- a deed keeps all but its state
pub record IsStep (old new : Deed) (from to : DeedState) : Type 0 where
  pub was : old.state ≡ from
  pub is : new.state ≡ to
  pub epoch : new.epoch ≡ old.epoch
  pub lane : new.lane ≡ old.lane
  pub floor : new.floor ≡ old.floor

pub record IsWatching (o : Owners) (w : Watch) : Type 0 where
  pub past : ((o.store.deeds w.slot).state ≡ Released) ⊎ ((o.store.gates w.lane).fenced ≡ true)
  pub names : (o.store.deeds w.slot).lane ≡ w.lane
  pub len : w.len ≡ (o.store.gates w.lane).len
  pub stamp : w.stamp ≡ (o.store.gates w.lane).stamp

-- a deed of a later epoch; nobody's names no lane
pub record IsNewDeed (old new : Deed) : Type 0 where
  pub epoch : old.epoch < new.epoch
  pub floor : old.floor ≤ new.floor
  pub idle : new.state ≡ Nobody → new.lane ≡ 0

-- a grant after that load: the log that was loaded is merged, and the floor is at least the stamp
pub record IsGrant (o : Owners) (w : Watch) (d : Deed) : Type 0 where
  pub watch : o.watch ≡ Some w
  pub merged : w.len ≤ o.store.marks w.lane
  pub new : IsNewDeed (o.store.deeds w.slot) d
  pub stamp : w.stamp ≤ d.floor

pub record IsAdoption (o : Owners) (t : ℕ) (d : Deed) : Type 0 where
  pub slot : t < 64
  pub was : (o.store.deeds t).state ≡ Nobody
  pub new : IsNewDeed (o.store.deeds t) d

-- ---- the premises of each event
abbrev pub IsGiven : Owners → Event → Type 0
IsGiven o (Look_known n l) = IsOwner o n l × HasLearnt o n l
IsGiven o (Look_new n l) = IsOwner o n l × (HasLearnt o n l → ⊥)
IsGiven o (End n) = Unit {0}
IsGiven o (Raise n gate) = IsExchange (o.store.gates n) gate n × (gate.len ≡ (o.store.gates n).len)
IsGiven o (Seal n gate more) = IsSealing o n gate more
IsGiven o (Promise n k stamp) = IsPromise o n k stamp
IsGiven o (Trim n to) = ((o.knows n).dropped ≤ to) × (to ≤ o.store.marks n)
IsGiven o (Set n k p place) = IsSetting o n k p place
IsGiven o (Pass n to p) = IsPassing o n to p
IsGiven o (Fence n gate) = (gate.fenced ≡ true) × (gate.stamp ≡ (o.store.gates n).stamp)
    × (gate.len ≡ (o.store.gates n).len)
IsGiven o (Leave t d) = IsStep (o.store.deeds t) d Owned Leaving
IsGiven o (Release t d) = IsStep (o.store.deeds t) d Leaving Released × ((o.knows (o.store.deeds t).lane).look ≡ None)
IsGiven o (Watches w) = IsWatching o w
IsGiven o (Grant w d) = IsGrant o w d
IsGiven o (Adopt t d) = IsAdoption o t d
IsGiven o (Stop n) = Unit {0}
IsGiven o (Begin n) = o.store.logs n ≡ []
