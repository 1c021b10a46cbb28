use Rattle.std.specs.Prelude.{◌≡◌, ℕ, false}
use Rattle.dn_lane.specs.State.{LaneState}
use Rattle.dn_beside.specs.Pool.{Pool, store_in}
use Rattle.dn_learnt.specs.Learning.{Learns}
use Rattle.dn_reach.specs.OwnLog.{HoldsLog}
use Rattle.dn_lanes.specs.Phases.{IsAt, Knows}

-- What lane n, which runs, knows of a pool: of its log and of owners; at its phase what is so whatever becomes of it, and
-- what is so while its gate has no bit.
pub record IsLaneAt (n : ℕ) (l : LaneState) (p : Pool) : Type 0 where
  pub log : HoldsLog p n l.base.known.log
  pub learns : Learns p n l.base.known
  pub fetch : l.base.fetch.segments ≡ (store_in p).pool
  pub at : IsAt (p.owners.knows n).look n l.base l.asked l.mode
  pub knows : ((store_in p).gates n).fenced ≡ false → Knows p n l.base l.asked l.mode
