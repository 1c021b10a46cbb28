use Rattle.std.proofs.Common.{◌-◌, List}
use Rattle.dn_model.specs.Regions.{offsets}
use Rattle.dn_model.specs.Log.{Placed, Tiles, IsCovered, IsLog}
use Rattle.dn_model.proofs.logs.log_of.Given as goal

-- the records so far tile the words so far, and any log of the lane goes on from here
abbrev pub invariant-loop-offset : goal.invariant-loop-offset
invariant-loop-offset l = record {
  tiled : Tiles (offsets l.words l.lane) 0 l.log.items l.offset;
  covered : IsCovered l.words l.lane l.offset;
  rest : (full : List Placed) → IsLog l.words l.lane full → (more : List Placed) × Tiles (offsets l.words l.lane) l.offset more l.len;
}

abbrev pub decreases-loop-offset : goal.decreases-loop-offset
decreases-loop-offset l = l.len - l.offset
