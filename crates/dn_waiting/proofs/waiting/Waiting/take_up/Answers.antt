use Rattle.std.proofs.Common.{◌≡◌, None, ap, sym, ◌∙◌, arith}
use Rattle.dn_waiting.specs.State.{WaitingState, at_lane}
use Rattle.dn_waiting.proofs.Joined.{try_joined, try_inside, no_try_joined}
use Rattle.dn_waiting.proofs.waiting.Waiting.take_up.Goals as goal

pub move_to-requires : goal.move_to-requires
move_to-requires c =
    let w : WaitingState = record { calls = c.self.inside.calls.items; lanes = c.self.inside.lanes.items } in
    omega (
      arith,
      c.self.invariant.sessions,
      try_inside w c.args.lane c.index_mut.result.now c.in-Try.view c.self.invariant c.requires.lane c.index_mut.ensures.value (sym c.take_up-next.ensures.value ∙ c.in-Try.is),
    )

pub invariant_of-self : goal.invariant_of-self
invariant_of-self c =
    let w : WaitingState = record { calls = c.self.inside.calls.items; lanes = c.self.inside.lanes.items } in
    let free : (at_lane w c.args.lane).begun ≡ None = ap (λ (n : WaitingState). (at_lane n c.args.lane).begun) c.self.view_is ∙ c.requires.free in
    try_joined w c.args.lane c.index_mut.result.now c.take_up-next.new.self c.in-Try.view c.move_to.new.calls.items c.self.invariant c.requires.lane c.index_mut.ensures.value free
    (sym c.take_up-next.ensures.value ∙ c.in-Try.is) c.move_to.ensures c.take_up-next.ensures.after

pub invariant_of-self-in_default : goal.invariant_of-self-in_default
invariant_of-self-in_default c =
    let w : WaitingState = record { calls = c.self.inside.calls.items; lanes = c.self.inside.lanes.items } in
    no_try_joined w c.args.lane c.index_mut.result.now c.take_up-next.new.self c.self.invariant c.requires.lane c.index_mut.ensures.value
    (λ v e. c.in_default.not-Try v (c.take_up-next.ensures.value ∙ e)) c.take_up-next.ensures.after
