use Rattle.std.proofs.Common.{ℕ, ◌≡◌, ap, sym, subst, ◌∙◌, arith, vec_len, set}
use Rattle.dn_waiting.specs.State.{WaitingState, at_lane}
use Rattle.dn_waiting.specs.Queues.{AtLane, attempts_at}
use Rattle.dn_waiting.specs.Sound.{IsSound}
use Rattle.dn_waiting.specs.Stops.{without, AreBelow}
use Rattle.dn_waiting.proofs.Joined.{lane_is, made_of}
use Rattle.dn_waiting.proofs.Ranges.{attempts_inside}
use Rattle.dn_waiting.proofs.Stopping.{stopped_sound}
use Rattle.dn_waiting.proofs.waiting.Waiting.stop.Goals as goal

inside_at : (w : WaitingState) (l : ℕ) (q : AtLane) (n : ℕ) → IsSound w → q ≡ at_lane w l → n ≡ 1001 → AreBelow n (attempts_at q)
inside_at w l q n sound is e k d x =
    let every : AreBelow 1001 (attempts_at q) = subst (λ (p : AtLane). AreBelow 1001 (attempts_at p)) (sym is) (attempts_inside w sound l) in
    omega (arith, every k d x, e)

pub end_all-requires-clause-inside : goal.end_all-requires-clause-inside
end_all-requires-clause-inside c =
    let w : WaitingState = record { calls = c.self.inside.calls.items; lanes = c.self.inside.lanes.items } in
    inside_at w c.args.lane c.index_mut.result.now (vec_len c.self.inside.calls) c.self.invariant
    (lane_is w c.args.lane c.index_mut.result.now c.self.invariant c.requires.lane c.index_mut.ensures.value) (omega (arith, c.self.invariant.sessions))

pub invariant_of-self : goal.invariant_of-self
invariant_of-self c =
    let w : WaitingState = record { calls = c.self.inside.calls.items; lanes = c.self.inside.lanes.items } in
    let is : c.index_mut.result.now ≡ at_lane w c.args.lane = lane_is w c.args.lane c.index_mut.result.now c.self.invariant c.requires.lane c.index_mut.ensures.value in
    subst (λ cs. IsSound (made_of cs (set w.lanes c.args.lane c.end_all.new.at))) (sym (c.end_all.ensures.calls ∙ ap (λ (q : AtLane). without w.calls (attempts_at q)) is))
    (subst (λ (q : AtLane). IsSound (made_of (without w.calls (attempts_at (at_lane w c.args.lane))) (set w.lanes c.args.lane q))) (sym c.end_all.ensures.at)
    (stopped_sound w c.args.lane c.self.invariant (omega (arith, c.requires.lane.1))))
