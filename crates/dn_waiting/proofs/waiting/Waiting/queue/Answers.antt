use Rattle.std.proofs.Common.{◌≡◌, ◌≤◌, length, sym, subst}
use Rattle.dn_waiting.specs.State.{WaitingState, call_of, at_lane}
use Rattle.dn_waiting.specs.Queues.{AtLane}
use Rattle.dn_waiting.specs.Sound.{IsLoading, Shows}
use Rattle.dn_waiting.proofs.Joined.{lane_is, queued_joined}
use Rattle.dn_waiting.proofs.Places.{IsAway, loading_away}
use Rattle.dn_waiting.proofs.Ranges.{queue_room}
use Rattle.dn_waiting.proofs.waiting.Waiting.queue.Goals as goal

pub queue_attempt-requires : goal.queue_attempt-requires
queue_attempt-requires c =
    let w : WaitingState = record { calls = c.self.inside.calls.items; lanes = c.self.inside.lanes.items } in
    let is : c.index_mut.result.now ≡ at_lane w c.args.lane = lane_is w c.args.lane c.index_mut.result.now c.self.invariant c.requires.lane c.index_mut.ensures.value in
    let loading : IsLoading (call_of w c.args.view.session) = subst (λ (n : WaitingState). IsLoading (call_of n c.args.view.session)) (sym c.self.view_is) c.requires.loading in
    let away : IsAway (call_of w c.args.view.session) = loading_away (call_of w c.args.view.session) loading in
    subst (λ (q : AtLane). length q.queue ≤ 1000) (sym is) (queue_room w c.args.view c.args.lane c.self.invariant c.requires.session.1 (away.waits c.args.lane))

pub invariant_of-self : goal.invariant_of-self
invariant_of-self c =
    let w : WaitingState = record { calls = c.self.inside.calls.items; lanes = c.self.inside.lanes.items } in
    let loading : IsLoading (call_of w c.args.view.session) = subst (λ (n : WaitingState). IsLoading (call_of n c.args.view.session)) (sym c.self.view_is) c.requires.loading in
    let shows : Shows c.args.view (call_of w c.args.view.session) = subst (λ (n : WaitingState). Shows c.args.view (call_of n c.args.view.session)) (sym c.self.view_is) c.requires.number in
    queued_joined w c.args.lane c.index_mut.result.now c.queue_attempt.new.self c.args.view c.move_to.new.calls.items c.self.invariant c.requires.lane c.index_mut.ensures.value
    c.requires.session.1 loading shows c.move_to.ensures c.queue_attempt.ensures
