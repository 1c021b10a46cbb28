use Rattle.std.specs.Prelude.{◌≡◌, ◌<◌, ◌≤◌, ℕ, false, List, Contains, Option, Some, None, slice_index}
use Rattle.dn_word.specs.declared.packed.deed.DeedState.TheVariants.{Owned}
use Rattle.dn_word.specs.declared.packed.place.Ref.{Ref}
use Rattle.dn_record.specs.declared.records.Record.{Record}
use Rattle.dn_model.specs.Regions.{gate, mark, deed, owner, slot_of}
use Rattle.dn_model.specs.Held.{Reads, authority}
use Rattle.dn_model.specs.declared.logs.Placed.{Placed}
use Rattle.dn_plan.specs.declared.phases.LocatePhase.TheVariants.{Owner}
use Rattle.dn_plan.specs.declared.phases.ActPhase.TheVariants as phase
use Rattle.dn_plan.specs.declared.phases.RoomPhase.TheVariants as rooming
use Rattle.dn_plan.specs.declared.phases.SealPhase.TheVariants as sealing
use Rattle.dn_ask.specs.declared.asks.Act.{Act}
use Rattle.dn_ask.specs.declared.asks.Act.TheVariants as act
use Rattle.dn_ask.specs.declared.asks.FindRoom.TheVariants as room
use Rattle.dn_ask.specs.declared.asks.Locate.TheVariants as locate
use Rattle.dn_ask.specs.declared.asks.Seal.TheVariants as seal
use Rattle.dn_pending.specs.declared.entries.Entry.{Entry}
use Rattle.dn_known.specs.Counting.{pending_of, IsCounting}
use Rattle.dn_lane.specs.State.{LaneState}
use Rattle.dn_lane.specs.declared.modes.Mode.{Mode}
use Rattle.dn_lane.specs.declared.modes.Mode.TheVariants as mode
use Rattle.dn_owners.specs.Sound.{IsHeld, Agrees}
use Rattle.dn_learnt.specs.Heeding.{look_by}
use Rattle.dn_lanes.specs.Calls.{key_in}
use Rattle.dn_machine.specs.State.{Machine}
use Rattle.dn_parts.specs.Sealed.{IsSealedOf}

-- Owners: who may change a key, and what they know of it.

-- lane n runs, and its gate has no bit
pub record IsClear (m : Machine) (n : ℕ) (l : LaneState) : Type 0 where
  pub runs : m.lanes n ≡ Some l
  pub unfenced : (gate m.words n).fenced ≡ false

-- ---- An authority record that isn't merged lies only in the log of the lane that its slot's deed names.
pub record IsInOneLog (m : Machine) : Type 0 where
  pub each : (n k : ℕ) (p : Placed) → IsSealedOf m.words n k p → mark m.words n ≤ p.offset → owner m.words k ≡ n

-- ---- After a look.
-- the deed of its key's slot that a call has loaded, and by which its lane is owner
abbrev pub looked_at : Act → Option ℕ
looked_at (act.Call phase.Look) = None
looked_at (act.Call (phase.Gate look located)) = Some look
looked_at (act.Call (phase.Raise r)) = Some r.look
looked_at (act.Task phase) = None

abbrev pub look_in : Mode → Option ℕ
look_in mode.Idle = None
look_in (mode.Acting wait) = looked_at wait
look_in (mode.Finding (locate.Call (Owner look)) find) = Some look
look_in (mode.Finding (locate.Task phase) find) = None
look_in (mode.Claiming (room.Call (rooming.Write r)) claim) = Some r.look
look_in (mode.Claiming (room.Task phase) claim) = None
look_in (mode.Sealing (seal.Call (sealing.Write r)) s) = Some r.look
look_in (mode.Sealing (seal.Task phase) s) = None

-- While the lane's gate has no bit, the deed still names it, in that epoch and with that floor, and is Owned or Leaving.
pub record HoldLooks (m : Machine) : Type 0 where
  pub each : (n word : ℕ) (l : LaneState) → IsClear m n l → look_in l.mode ≡ Some word
      → IsHeld (deed m.words (slot_of (key_in l.asked))) n (look_by (slot_of (key_in l.asked)) word)

-- ---- Pending records.
-- such a lane is the one that the slot's deed names
pub record OwnsSlot (m : Machine) (n slot : ℕ) (l : LaneState) : Type 0 where
  pub clear : IsClear m n l
  pub names : (deed m.words slot).lane ≡ n

-- the deed is Owned, and the lane has met its epoch
pub record HasMet (m : Machine) (n slot : ℕ) (l : LaneState) : Type 0 where
  pub owns : OwnsSlot m n slot l
  pub state : (deed m.words slot).state ≡ Owned
  pub epoch : slice_index l.base.known.epochs slot ≡ (deed m.words slot).epoch

-- the record is the key's authority, as the words are read, or a Delete of a key without one
pub record IsLatest (m : Machine) (k : ℕ) (r : Record) : Type 0 where
  pub logs : ℕ → List Placed
  pub chains : ℕ → List ℕ
  pub reads : Reads m.words logs chains
  pub agrees : Agrees (authority m.words logs chains k) k r

-- a sealed record of the key, which is that
pub record IsLatestAt (m : Machine) (n k offset : ℕ) : Type 0 where
  pub p : Placed
  pub at : p.offset ≡ offset
  pub of : IsSealedOf m.words n k p
  pub latest : IsLatest m k p.entry

pub record KnowPending (m : Machine) : Type 0 where
  -- no epoch that a lane has met is of the future
  pub past : (n slot : ℕ) (l : LaneState) → m.lanes n ≡ Some l → slot < 64
      → slice_index l.base.known.epochs slot ≤ (deed m.words slot).epoch
  -- what is pending is sealed there
  pub sealed : (n : ℕ) (l : LaneState) (e : Entry) → m.lanes n ≡ Some l → Contains l.base.known.pending.entries e
      → (p : Placed) × (p.offset ≡ e.at) × IsSealedOf m.words n e.key p
  -- what isn't merged, of a slot that the lane owns, is pending and counts, and was sealed in the epoch that it has met
  pub counts : (n k : ℕ) (l : LaneState) (p : Placed) → OwnsSlot m n (slot_of k) l → IsSealedOf m.words n k p
      → mark m.words n ≤ p.offset → IsCounting l.base.known k p.offset
  pub met : (n k : ℕ) (l : LaneState) (p : Placed) → OwnsSlot m n (slot_of k) l → IsSealedOf m.words n k p
      → mark m.words n ≤ p.offset → slice_index l.base.known.epochs (slot_of k) ≡ (deed m.words (slot_of k)).epoch
  -- the last that counts is the key's authority: of a slot whose deed is Owned, and after a look
  pub last : (n k : ℕ) (l : LaneState) (at : Ref) → 0 < k → HasMet m n (slot_of k) l
      → pending_of l.base.known k ≡ Some at → (at.lane ≡ n) × IsLatestAt m n k at.offset
  pub looked : (n word : ℕ) (l : LaneState) (at : Ref) → IsClear m n l → look_in l.mode ≡ Some word
      → pending_of l.base.known (key_in l.asked) ≡ Some at
      → (at.lane ≡ n) × IsLatestAt m n (key_in l.asked) at.offset
