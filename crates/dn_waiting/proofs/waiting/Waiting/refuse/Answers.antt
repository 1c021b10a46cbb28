use Rattle.std.proofs.Common.{sym, subst}
use Rattle.dn_waiting.specs.State.{WaitingState, call_of}
use Rattle.dn_waiting.specs.Sound.{IsSound, IsLoading}
use Rattle.dn_waiting.proofs.Joined.{made_of}
use Rattle.dn_waiting.proofs.Kept.{refused_sound}
use Rattle.dn_waiting.proofs.waiting.Waiting.refuse.Goals as goal

pub invariant_of-self : goal.invariant_of-self
invariant_of-self c =
    let w : WaitingState = record { calls = c.self.inside.calls.items; lanes = c.self.inside.lanes.items } in
    let loading : IsLoading (call_of w c.args.session) = subst (λ (n : WaitingState). IsLoading (call_of n c.args.session)) (sym c.self.view_is) c.requires.loading in
    subst (λ cs. IsSound (made_of cs w.lanes)) (sym c.refuse.ensures.after)
    (refused_sound w c.args.session c.args.named c.self.invariant c.requires.session.1 loading c.requires.named)
