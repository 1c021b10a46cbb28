use Rattle.std.proofs.Common.{ℕ, ◌≡◌, ◌≢◌, false, Some, None}
use Rattle.dn_model.specs.Regions.{IsLane}
use Rattle.dn_merge.specs.Merge.{Merging}
use Rattle.dn_monitor.specs.Monitor.{Monitoring}
use Rattle.dn_lane.specs.State.{LaneState}
use Rattle.dn_beside.specs.Pool.{Pool}
use Rattle.dn_beside.specs.Step.{Acting, IsStepBy}
use Rattle.dn_turns.specs.Knows.{IsMergerAt}
use Rattle.dn_turns.proofs.Lasts.{merger_lasts}
use Rattle.dn_orders.specs.Knowing.{KnowsOrder}
use Rattle.dn_orders.proofs.Lasting.{lasts as order_lasts}
use Rattle.dn_lanes.specs.Lane.{IsLaneAt}
use Rattle.dn_lanes.specs.Unmade.{IsUnmade}
use Rattle.dn_lanes.proofs.Lasts.{lane_lasts}
use Rattle.dn_lanes.proofs.Unmade.{unmade_lasts as unmade_stays}
use Rattle.dn_machine.specs.State.{Machine}
use Rattle.dn_machine.specs.Sound.{IsMachineAt}

-- A step of one actor leaves to all others what they know.

pub lanes_last : (a : Acting) (p q : Pool) (m : Machine) (n : ℕ) (l : LaneState) → IsMachineAt p m → IsStepBy a p q → m.lanes n ≡ Some l → n ≢ a.lane → IsLaneAt n l q
lanes_last a p q m n l h s is d =
    let made = h.actors.made n l is in
    let lane : IsLane n = h.actors.numbers n made.0 made.1 in
    lane_lasts n l p q (record { before = h.whole; after = s.whole; lane = lane; grows = s.grows; leaves = s.lanes n lane d }) (h.know.lanes n l is)

pub mergers_last : (a : Acting) (p q : Pool) (m : Machine) (n : ℕ) (x : Merging) → IsMachineAt p m → IsStepBy a p q → m.mergers n ≡ Some x → n ≢ a.merger → IsMergerAt n x q
mergers_last a p q m n x h s is d =
    let lane : IsLane n = h.actors.numbers n x is in
    merger_lasts n x p q (record { whole = h.whole; lane = lane; grows = s.grows; leaves = s.mergers n lane d }) (h.know.mergers n x is)

pub monitor_lasts : (a : Acting) (p q : Pool) (m : Machine) (x : Monitoring) → IsMachineAt p m → IsStepBy a p q → m.monitor ≡ Some x → a.monitor ≡ false → KnowsOrder q x
monitor_lasts a p q m x h s is f = order_lasts p q x (h.know.monitor x is) s.grows (s.order f)

pub unmade_lasts : (a : Acting) (p q : Pool) (m : Machine) (n : ℕ) → IsMachineAt p m → IsStepBy a p q → IsLane n → m.mergers n ≡ None → n ≢ a.lane → IsUnmade q n
unmade_lasts a p q m n h s l is d = unmade_stays n p q (s.lanes n l d) (h.know.unmade n l is)
