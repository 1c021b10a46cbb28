use Rattle.std.specs.Prelude.{◌≡◌}
use Rattle.dn_word.specs.Regions.{IsLane}
use Rattle.dn_lane.specs.Asked.{FitsAsked}
use Rattle.dn_lane.specs.Fit.{FitsMode}
use Rattle.dn_lane.specs.State.{LaneState}
use Rattle.dn_lane.specs.declared.lanes.Lane.TheInside.{Inside}

abbrev pub state_of : Inside → LaneState
state_of i = record { base = i.base; asked = i.asked; mode = i.mode }

pub record IsInside (i : Inside) : Type 0 where
  pub number : IsLane i.base.known.log.lane
  pub pool : i.base.fetch.segments ≡ i.base.known.log.pool
  pub fits : FitsMode i.base i.asked i.mode
  pub asked : FitsAsked i.asked
