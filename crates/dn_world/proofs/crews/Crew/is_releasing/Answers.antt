use Rattle.std.proofs.Common.{ℕ, ◌≡◌, ◌||◌, Bool, [], None, ap, sym, subst, ◌∙◌, arith}
use Rattle.dn_cluster.specs.Machine.{IsMade, lane_in}
use Rattle.dn_cluster.specs.State.{numbered}
use Rattle.dn_outcomes.specs.Awaited.{is_tending}
use Rattle.dn_waiting.specs.Queues.{is_queued}
use Rattle.dn_waiting.specs.State.{at_lane}
use Rattle.dn_world.specs.State.{CrewState, world_of}
use Rattle.dn_world.proofs.Awaited.{releasing, not_releasing}
use Rattle.dn_world.proofs.Stepping.{made_of, some_of, not_both}
use Rattle.dn_world.proofs.crews.Crew.is_releasing.Goals as goal

pub returns-then-not-is_made : goal.returns-then-not-is_made
returns-then-not-is_made c words told receipts = sym (not_releasing (world_of words c.args.self.now told receipts) c.args.lane c.args.slot (sym (c.is_made.ensures words told receipts) ∙ c.if-not-is_made.true))

pub is_stopped-requires : goal.is_stopped-requires
is_stopped-requires c = subst (λ (z : CrewState). IsMade z.cluster c.args.lane) (sym c.self.view_is) (made_of [] c.args.self.now [] [] c.args.lane (sym (c.is_made.ensures [] [] []) ∙ c.if-not-is_made.false))

pub is_tending-requires-clause-made : goal.is_tending-requires-clause-made
is_tending-requires-clause-made c = made_of [] c.args.self.now [] [] c.args.lane (sym (c.is_made.ensures [] [] []) ∙ c.if-not-is_made.false)

pub is_queued-requires : goal.is_queued-requires
is_queued-requires c = (let is = made_of [] c.args.self.now [] [] c.args.lane (sym (c.is_made.ensures [] [] []) ∙ c.if-not-is_made.false) in (is.0, omega (arith, is.1, c.requires)))

pub returns-then-is_tending : goal.returns-then-is_tending
returns-then-is_tending c words told receipts =
    let x : CrewState = c.args.self.now in
    let n : ℕ = c.args.lane in
    let there = some_of (lane_in (numbered x.cluster.nodes n))
    (λ e. not_both c.is_stopped.result (c.is_stopped.ensures.1 (subst (λ (z : CrewState). lane_in (numbered z.cluster.nodes n) ≡ None) (sym c.self.view_is) e)) c.if-is_stopped.false) in
    let tends : is_tending (at_lane x.waiting n) there.0 ≡ c.is_tending.result = sym (c.is_tending.ensures there.0 there.1) in
    c.if-is_tending.true
    ∙ sym (releasing (world_of words x told receipts) n c.args.slot there.0 (sym (c.is_made.ensures words told receipts) ∙ c.if-not-is_made.false) there.1
    ∙ ap (λ (b : Bool). b || is_queued c.args.slot (at_lane x.waiting n).tasks) (tends ∙ c.if-is_tending.true))

pub returns-else-is_tending : goal.returns-else-is_tending
returns-else-is_tending c words told receipts =
    let x : CrewState = c.args.self.now in
    let n : ℕ = c.args.lane in
    let there = some_of (lane_in (numbered x.cluster.nodes n))
    (λ e. not_both c.is_stopped.result (c.is_stopped.ensures.1 (subst (λ (z : CrewState). lane_in (numbered z.cluster.nodes n) ≡ None) (sym c.self.view_is) e)) c.if-is_stopped.false) in
    let tends : is_tending (at_lane x.waiting n) there.0 ≡ c.is_tending.result = sym (c.is_tending.ensures there.0 there.1) in
    c.is_queued.ensures
    ∙ ap (λ (z : CrewState). is_queued c.args.slot (at_lane z.waiting n).tasks) c.self.view_is
    ∙ sym (releasing (world_of words x told receipts) n c.args.slot there.0 (sym (c.is_made.ensures words told receipts) ∙ c.if-not-is_made.false) there.1
    ∙ ap (λ (b : Bool). b || is_queued c.args.slot (at_lane x.waiting n).tasks) (tends ∙ c.if-is_tending.false))
