use Rattle.std.proofs.Common.{rules, ◌≡◌, None}
use Rattle.dn_drain.proofs.Playing.{numbered_can, runs_still, shows, keyed, asked_by}
use Rattle.dn_drain.proofs.tests.plays.Play.ask.Goals as goal

pub give_call-requires-clause-runs : goal.give_call-requires-clause-runs
give_call-requires-clause-runs g c = runs_still c.self.inside.cluster c.number-view.new.self c.args.session c.args.lane c.number-view.ensures.does (c.runs.ensures (search rules)).1

pub give_call-requires-clause-session : goal.give_call-requires-clause-session
give_call-requires-clause-session g c = shows c.number-view.new.self c.args.session c.key_in-key.result c.number-view.result c.self.inside.pool.words c.number-view.ensures.value (c.is_idle.ensures (search rules)).0
    (numbered_can c.self.inside.pool.words c.self.inside.cluster c.number-view.new.self c.args.session c.number-view.ensures.does c.number-view.ensures.segments c.self.invariant)

pub give_call-requires-clause-key : goal.give_call-requires-clause-key
give_call-requires-clause-key g c = keyed c.args.call.now (c.is_call.ensures (search rules))

pub invariant_of-self : goal.invariant_of-self
invariant_of-self g c =
    let hint : c.number-view.result.hint ≡ None = search rules in
    asked_by c.self.inside.pool.words c.self.inside.cluster c.number-view.new.self c.give_call.new.self c.args.session c.args.lane c.key_in-key.result c.number-view.result c.args.call.now c.give_call.result
    c.number-view.ensures.does c.number-view.ensures.segments c.number-view.ensures.value (c.is_idle.ensures (search rules)) (c.runs.ensures (search rules)).1 (c.is_call.ensures (search rules))
    c.number-view.ensures.last hint c.give_call.ensures.free c.give_call.ensures.does c.give_call.ensures.same c.give_call.ensures.segments c.self.invariant
