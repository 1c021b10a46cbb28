use Rattle.std.specs.Prelude.{◌≡◌, ◌⊎◌, ℕ, ◌≤◌, true, false, List, ◌++◌, Option, Some, None}
use Rattle.dn_word.specs.declared.packed.gate.Gate.{Gate}
use Rattle.dn_record.specs.Record.{value_of}
use Rattle.dn_record.specs.declared.records.Record.{Record}
use Rattle.dn_record.specs.declared.records.Record.TheVariants.{Delete}
use Rattle.dn_model.specs.declared.logs.Placed.{Placed}
use Rattle.dn_model.specs.Held.{Found, Says, unmerged, held_by}
use Rattle.dn_model.specs.OneLog.{is_plain}
use Rattle.dn_store.specs.Holding.{owner_in, authority_in, holds}
use Rattle.dn_owners.specs.Known.{Owners}
use Rattle.dn_owners.specs.Events.{Event, Look_known, Look_new, End, Raise, Seal, Promise, Trim, Set, Pass, Fence, Leave, Release, Watches, Grant, Adopt, Stop, Begin, happens}

-- What is so after an event.

-- ---- what only grows
-- a gate's length and stamp don't fall, and a bit stays
pub record IsRisen (old new : Gate) : Type 0 where
  pub len : old.len ≤ new.len
  pub stamp : old.stamp ≤ new.stamp
  pub clear : new.fenced ≡ false → old.fenced ≡ false

pub record IsLater (old new : Owners) : Type 0 where
  pub logs : (n : ℕ) → (more : List Placed) × (new.store.logs n ≡ old.store.logs n ++ more)
  pub gates : (n : ℕ) → IsRisen (old.store.gates n) (new.store.gates n)
  pub marks : (n : ℕ) → old.store.marks n ≤ new.store.marks n
  pub epochs : (t : ℕ) → (old.store.deeds t).epoch ≤ (new.store.deeds t).epoch
  pub floors : (t : ℕ) → (old.store.deeds t).floor ≤ (new.store.deeds t).floor
  pub promised : (k : ℕ) → old.promised k ≤ new.promised k

-- ---- the authority of a key
abbrev pub SameAuthority : Owners → Event → ℕ → Type 0
SameAuthority o e k = authority_in (happens o e).store k ≡ authority_in o.store k

-- a Delete is forgotten: its key has no authority then
abbrev pub Forgets : Found (Option Record) → Found (Option Record) → ℕ → Type 0
Forgets old new k = (old ≡ Says (Some (Delete k))) × (new ≡ Says None)

-- Records are sealed by the owner of each key that they change, and the last one of a key is its authority then. A
-- merger's mark may forget a Delete. Nothing else moves an authority.
abbrev pub AuthorityAfter : Owners → Event → ℕ → Type 0
AuthorityAfter o (Look_known n l) k = SameAuthority o (Look_known n l) k
AuthorityAfter o (Look_new n l) k = SameAuthority o (Look_new n l) k
AuthorityAfter o (End n) k = SameAuthority o (End n) k
AuthorityAfter o (Raise n gate) k = SameAuthority o (Raise n gate) k
AuthorityAfter o (Seal n gate more) k = (unmerged k 0 more ≡ None → SameAuthority o (Seal n gate more) k)
    × ((r : Record) → unmerged k 0 more ≡ Some r
    → (owner_in o.store k ≡ n) × (authority_in (happens o (Seal n gate more)).store k ≡ Says (Some r)))
AuthorityAfter o (Promise n q stamp) k = SameAuthority o (Promise n q stamp) k
AuthorityAfter o (Trim n to) k = SameAuthority o (Trim n to) k
AuthorityAfter o (Set n q p place) k = SameAuthority o (Set n q p place) k
AuthorityAfter o (Pass n to p) k = SameAuthority o (Pass n to p) k
    ⊎ ((p.entry ≡ Delete k) × Forgets (authority_in o.store k) (authority_in (happens o (Pass n to p)).store k) k)
AuthorityAfter o (Fence n gate) k = SameAuthority o (Fence n gate) k
AuthorityAfter o (Leave t d) k = SameAuthority o (Leave t d) k
AuthorityAfter o (Release t d) k = SameAuthority o (Release t d) k
AuthorityAfter o (Watches w) k = SameAuthority o (Watches w) k
AuthorityAfter o (Grant w d) k = SameAuthority o (Grant w d) k
AuthorityAfter o (Adopt t d) k = SameAuthority o (Adopt t d) k
AuthorityAfter o (Stop n) k = SameAuthority o (Stop n) k
AuthorityAfter o (Begin n) k = SameAuthority o (Begin n) k

-- ---- what is held at a key
abbrev pub SameHeld : Owners → Event → ℕ → Type 0
SameHeld o e k = holds (happens o e).store k ≡ holds o.store k

-- what a seal does to it: nothing, or what the last record of the key says, for a put or delete its own value
pub record IsHeldAfterSeal (o : Owners) (n : ℕ) (gate : Gate) (more : List Placed) (k : ℕ) : Type 0 where
  pub other : (v : Option (List ℕ)) → unmerged k 0 more ≡ None → holds o.store k ≡ Says v
      → holds (happens o (Seal n gate more)).store k ≡ Says v
  pub last : (r : Record) → unmerged k 0 more ≡ Some r
      → holds (happens o (Seal n gate more)).store k
      ≡ held_by o.store.cells (happens o (Seal n gate more)).store.logs k r
  pub plain : (r : Record) → unmerged k 0 more ≡ Some r → is_plain r ≡ true
      → holds (happens o (Seal n gate more)).store k ≡ Says (value_of r)

-- It changes by a seal alone.
abbrev pub HeldAfter : Owners → Event → ℕ → Type 0
HeldAfter o (Look_known n l) k = SameHeld o (Look_known n l) k
HeldAfter o (Look_new n l) k = SameHeld o (Look_new n l) k
HeldAfter o (End n) k = SameHeld o (End n) k
HeldAfter o (Raise n gate) k = SameHeld o (Raise n gate) k
HeldAfter o (Seal n gate more) k = IsHeldAfterSeal o n gate more k
HeldAfter o (Promise n q stamp) k = SameHeld o (Promise n q stamp) k
HeldAfter o (Trim n to) k = SameHeld o (Trim n to) k
HeldAfter o (Set n q p place) k = SameHeld o (Set n q p place) k
HeldAfter o (Pass n to p) k = SameHeld o (Pass n to p) k
HeldAfter o (Fence n gate) k = SameHeld o (Fence n gate) k
HeldAfter o (Leave t d) k = SameHeld o (Leave t d) k
HeldAfter o (Release t d) k = SameHeld o (Release t d) k
HeldAfter o (Watches w) k = SameHeld o (Watches w) k
HeldAfter o (Grant w d) k = SameHeld o (Grant w d) k
HeldAfter o (Adopt t d) k = SameHeld o (Adopt t d) k
HeldAfter o (Stop n) k = SameHeld o (Stop n) k
HeldAfter o (Begin n) k = SameHeld o (Begin n) k
