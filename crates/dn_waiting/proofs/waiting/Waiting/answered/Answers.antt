use Rattle.std.proofs.Common.{◌≡◌, Some, ap, sym, ◌∙◌, arith}
use Rattle.dn_waiting.specs.State.{WaitingState, at_lane}
use Rattle.dn_waiting.specs.Queues.{AtLane}
use Rattle.dn_waiting.proofs.Joined.{lane_is, settled_joined}
use Rattle.dn_waiting.proofs.Ranges.{shown_inside}
use Rattle.dn_waiting.proofs.waiting.Waiting.answered.Goals as goal

pub settle-requires : goal.settle-requires
settle-requires c =
    let w : WaitingState = record { calls = c.self.inside.calls.items; lanes = c.self.inside.lanes.items } in
    let is : c.index_mut.result.now ≡ at_lane w c.args.lane = lane_is w c.args.lane c.index_mut.result.now c.self.invariant c.requires.lane c.index_mut.ensures.value in
    let begun : (at_lane w c.args.lane).begun ≡ Some c.in-Some.view = ap (λ (q : AtLane). q.begun) (sym is) ∙ (sym c.finish.ensures.value ∙ c.in-Some.is) in
    omega (arith, c.self.invariant.sessions, shown_inside w c.in-Some.view c.self.invariant (c.self.invariant.number c.args.lane c.in-Some.view begun))

pub invariant_of-self : goal.invariant_of-self
invariant_of-self c =
    let w : WaitingState = record { calls = c.self.inside.calls.items; lanes = c.self.inside.lanes.items } in
    settled_joined w c.args.lane c.index_mut.result.now c.finish.new.self c.in-Some.view c.args.end c.settle.new.calls.items c.self.invariant c.requires.lane c.index_mut.ensures.value
    (sym c.finish.ensures.value ∙ c.in-Some.is) c.settle.ensures.after c.finish.ensures.after
