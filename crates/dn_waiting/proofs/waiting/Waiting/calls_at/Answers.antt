use Rattle.std.proofs.Common.{◌≡◌, ◌≤◌, length, sym, subst}
use Rattle.dn_waiting.specs.State.{WaitingState, at_lane}
use Rattle.dn_waiting.specs.Queues.{AtLane}
use Rattle.dn_waiting.proofs.Joined.{lane_is}
use Rattle.dn_waiting.proofs.Ranges.{queue_most}
use Rattle.dn_waiting.proofs.waiting.Waiting.calls_at.Goals as goal

pub len-requires : goal.len-requires
len-requires c =
    let w : WaitingState = record { calls = c.self.inside.calls.items; lanes = c.self.inside.lanes.items } in
    let is : c.index.result.now ≡ at_lane w c.args.lane = lane_is w c.args.lane c.index.result.now c.self.invariant c.requires c.index.ensures in
    subst (λ (q : AtLane). length q.queue ≤ 1001) (sym is) (queue_most w c.self.invariant c.args.lane)
