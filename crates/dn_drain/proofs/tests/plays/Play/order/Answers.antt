use Rattle.std.proofs.Common.{rules, ◌≡◌, None}
use Rattle.dn_drain.proofs.Playing.{ordered_can}
use Rattle.dn_drain.proofs.tests.plays.Play.order.Goals as goal

pub invariant_of-self : goal.invariant_of-self
invariant_of-self g c =
    let free : c.self.inside.cluster.monitor ≡ None = c.is_free.ensures (search rules) in
    ordered_can c.self.inside.pool.words c.self.inside.cluster c.give_order.new.self c.args.order c.args.live.now c.give_order.ensures.given c.give_order.ensures.does
    c.give_order.ensures.heirs c.give_order.ensures.segments free c.requires.order c.requires.formatted c.requires.lanes c.self.invariant
