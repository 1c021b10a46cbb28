use Rattle.dn_lanes.proofs.Lasts.{lane_lasts}
use Rattle.dn_lanes.proofs.laws.lasting.Goals as goal

pub returns : goal.returns
returns c = λ n l p q before after lane grows leaves h. lane_lasts n l p q (record { before = before; after = after; lane = lane; grows = grows; leaves = leaves }) h
