use Rattle.std.specs.Prelude.{◌≡◌, ◌≤◌, ℕ, List, [], Option, Some, None}
use Rattle.dn_act.specs.Words.{word_at}
use Rattle.dn_record.specs.declared.records.Record.{Record}
use Rattle.dn_hist.specs.Calls.{found_of}
use Rattle.dn_hist.specs.declared.calls.Call.TheVariants.{Get}
use Rattle.dn_hist.specs.declared.calls.Reply.{Reply}
use Rattle.dn_hist.specs.declared.receipts.SessionView.{SessionView}
use Rattle.dn_model.specs.Regions.{gate_at, mark, offsets}
use Rattle.dn_model.specs.Log.{Tiles}
use Rattle.dn_model.specs.declared.logs.Placed.{Placed}
use Rattle.dn_index.specs.Walk.{Walking}
use Rattle.dn_find.specs.declared.finds.Find.TheVariants as find
use Rattle.dn_plan.specs.declared.phases.ActPhase.TheVariants as phase
use Rattle.dn_plan.specs.declared.phases.Located.{Located}
use Rattle.dn_plan.specs.declared.phases.LocatePhase.TheVariants.{Owner}
use Rattle.dn_plan.specs.declared.phases.Raised.{Raised}
use Rattle.dn_plan.specs.declared.phases.Way.{Way}
use Rattle.dn_plan.specs.declared.phases.RoomPhase.TheVariants as rooming
use Rattle.dn_plan.specs.declared.phases.SealPhase.TheVariants as sealing
use Rattle.dn_ask.specs.declared.asks.Act.{Act}
use Rattle.dn_ask.specs.declared.asks.Act.TheVariants as act
use Rattle.dn_ask.specs.declared.asks.FindRoom.TheVariants as room
use Rattle.dn_ask.specs.declared.asks.Locate.TheVariants as locate
use Rattle.dn_ask.specs.declared.asks.Seal.TheVariants as seal
use Rattle.dn_services.specs.declared.seals.Seal.{Seal}
use Rattle.dn_lane.specs.Asked.{call_in}
use Rattle.dn_lane.specs.Ends.{reply_in}
use Rattle.dn_lane.specs.State.{LaneState}
use Rattle.dn_lane.specs.declared.asked.Asked.TheVariants as asked
use Rattle.dn_lane.specs.declared.modes.Mode.{Mode}
use Rattle.dn_lane.specs.declared.modes.Mode.TheVariants as mode
use Rattle.dn_reach.specs.Placing.{plan_for, staged_for, placed_by}
use Rattle.dn_reach.specs.Staging.{AreFlowing}
use Rattle.dn_receipts.specs.Sealing.{record_of}
use Rattle.dn_lanes.specs.Calls.{key_in}
use Rattle.dn_machine.specs.State.{Machine}
use Rattle.dn_parts.specs.Sealed.{IsSealedOf, HoldsAt}
use Rattle.dn_parts.specs.Owning.{IsClear, IsLatestAt}
use Rattle.dn_parts.specs.Walking.{HasWalked}

-- What a lane knows at the phases of its call.

-- what a call has found of its key, when it has loaded or raises its gate
abbrev pub located_at : Act → Option Located
located_at (act.Call phase.Look) = None
located_at (act.Call (phase.Gate look located)) = Some located
located_at (act.Call (phase.Raise r)) = Some r.located
located_at (act.Task phase) = None

abbrev pub located_in : Mode → Option Located
located_in mode.Idle = None
located_in (mode.Acting wait) = located_at wait
located_in (mode.Finding wait find) = None
located_in (mode.Claiming wait claim) = None
located_in (mode.Sealing wait s) = None

-- the gate that it has loaded and will exchange
abbrev pub raised_at : Act → Option Raised
raised_at (act.Call phase.Look) = None
raised_at (act.Call (phase.Gate look located)) = None
raised_at (act.Call (phase.Raise r)) = Some r
raised_at (act.Task phase) = None

abbrev pub raised_in : Mode → Option Raised
raised_in mode.Idle = None
raised_in (mode.Acting wait) = raised_at wait
raised_in (mode.Finding wait find) = None
raised_in (mode.Claiming (room.Call (rooming.Write r)) claim) = Some r
raised_in (mode.Claiming (room.Task phase) claim) = None
raised_in (mode.Sealing (seal.Call (sealing.Write r)) s) = Some r
raised_in (mode.Sealing (seal.Task phase) s) = None

-- the record that a call of a put or delete seals
abbrev pub record_in : LaneState → Record
record_in l = record_of (call_in l.asked)

-- this reply is what is held at the key
pub record IsReplyFor (words : List ℕ) (key : ℕ) (reply : Reply) : Type 0 where
  pub value : Option (List ℕ)
  pub held : HoldsAt words key value
  pub says : reply ≡ found_of value

-- Each word of the record that a lane seals is staged or stands in the pool; so when none is staged any more, the words
-- behind its log spell the record, with the pad before it.
pub record IsSealingIn (words : List ℕ) (n : ℕ) (l : LaneState) : Type 0 where
  pub flowing : AreFlowing words l.base.staging (staged_for l.base.known.log (record_in l))
  pub spelled : l.base.staging ≡ [] → Tiles (offsets words n) l.base.known.log.len
      (placed_by (plan_for l.base.known.log (record_in l)) (record_in l)) (plan_for l.base.known.log (record_in l)).len

-- no log has a record of key k that isn't merged: what the index gives is all that there is
abbrev pub AllMerged : List ℕ → ℕ → Type 0
AllMerged words k = (n : ℕ) (p : Placed) → IsSealedOf words n k p → mark words n ≤ p.offset → ⊥

-- While its gate has no bit:
pub record KnowPlaces (m : Machine) : Type 0 where
  -- an owner finds the key of its call in the index
  pub walks : (n look : ℕ) (l : LaneState) (w : Walking) → IsClear m n l
      → l.mode ≡ mode.Finding (locate.Call (Owner look)) (find.Walk w)
      → (w.key ≡ key_in l.asked) × HasWalked m.words w × AllMerged m.words w.key
  -- or fetches the record that is its authority
  pub fetches : (n look : ℕ) (l : LaneState) (way : Way) → IsClear m n l
      → l.mode ≡ mode.Finding (locate.Call (Owner look)) (find.Fetch way)
      → IsLatestAt m l.base.fetch.at.lane (key_in l.asked) l.base.fetch.at.offset
  -- what a get is to reply is held at its key
  pub replies : (n key : ℕ) (l : LaneState) (view : SessionView) (value : List ℕ) (located : Located)
      → IsClear m n l → l.asked ≡ asked.Call (Get key) view value → located_in l.mode ≡ Some located
      → IsReplyFor m.words key (reply_in (Get key) value located.held)
  -- the gate that it loaded still stands, and its record is on its way
  pub gates : (n : ℕ) (l : LaneState) (r : Raised) → IsClear m n l → raised_in l.mode ≡ Some r
      → word_at m.words (gate_at n) ≡ r.gate
  pub seals : (n : ℕ) (l : LaneState) (r : Raised) (s : Seal) → IsClear m n l
      → l.mode ≡ mode.Sealing (seal.Call (sealing.Write r)) s → IsSealingIn m.words n l
