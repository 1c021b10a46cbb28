use Rattle.std.proofs.Common.{◌≡◌, None, ap, ◌∙◌}
use Rattle.dn_waiting.specs.State.{WaitingState, call_of}
use Rattle.dn_waiting.proofs.Kept.{opened_sound}
use Rattle.dn_waiting.proofs.waiting.Waiting.open.Goals as goal

pub invariant_of-self : goal.invariant_of-self
invariant_of-self c =
    let w : WaitingState = record { calls = c.self.inside.calls.items; lanes = c.self.inside.lanes.items } in
    let free : call_of w c.args.view.now.session ≡ None = ap (λ (n : WaitingState). call_of n c.args.view.now.session) c.self.view_is ∙ c.requires.free in
    opened_sound w c.args.call c.args.view.now c.args.named c.self.invariant c.requires.session.1 free c.requires.named
