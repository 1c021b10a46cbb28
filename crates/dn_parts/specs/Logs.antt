use Rattle.std.specs.Prelude.{◌≡◌, ℕ, true, List, Contains, Some, None}
use Rattle.dn_model.specs.Regions.{gate, mark, IsLane}
use Rattle.dn_model.specs.Log.{IsLog}
use Rattle.dn_model.specs.OneLog.{is_plain}
use Rattle.dn_model.specs.declared.logs.Placed.{Placed}
use Rattle.dn_store.specs.Cut.{IsCut}
use Rattle.dn_reach.specs.Directory.{NamesSegments}
use Rattle.dn_reach.specs.Staging.{MayStageAll}
use Rattle.dn_lane.specs.State.{LaneState}
use Rattle.dn_machine.specs.State.{Machine}

-- Logs: what lanes have sealed, and what they are about to write behind it.

-- Lane n's log is read from the words up to its gate's length. What is merged of it is whole records. No key is shared
-- yet: all records are puts, deletes and pads.
pub record HasLog (words : List ℕ) (n : ℕ) : Type 0 where
  pub log : List Placed
  pub is : IsLog words n log
  pub merged : IsCut log (mark words n)
  pub plain : (p : Placed) → Contains log p → is_plain p.entry ≡ true

-- What lane n, which runs, knows of it, also behind a fence: the length and the segments. It has staged no word that
-- others read.
pub record KnowsLog (words : List ℕ) (n : ℕ) (l : LaneState) : Type 0 where
  pub lane : l.base.known.log.lane ≡ n
  pub len : l.base.known.log.len ≡ (gate words n).len
  pub segments : NamesSegments words l.base.known.log
  pub staged : MayStageAll l.base.known.log l.base.staging

pub record HaveLogs (m : Machine) : Type 0 where
  pub logs : (n : ℕ) → IsLane n → HasLog m.words n
  pub known : (n : ℕ) (l : LaneState) → m.lanes n ≡ Some l → KnowsLog m.words n l
  -- a lane that wasn't made has sealed nothing
  pub unmade : (n : ℕ) → IsLane n → m.mergers n ≡ None → (gate m.words n).len ≡ 0
