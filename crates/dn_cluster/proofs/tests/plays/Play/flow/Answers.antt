use Rattle.std.proofs.Common.{rules, ◌≡◌, false, sym, ◌∙◌}
use Rattle.dn_machine.specs.Events.{Flows}
use Rattle.dn_cluster.specs.Acting.{joined}
use Rattle.dn_cluster.proofs.Playing.{acted_can}
use Rattle.dn_cluster.proofs.tests.plays.Play.flow.Goals as goal

pub invariant_of-self : goal.invariant_of-self
invariant_of-self g c =
    let done : c.is_fault.result ≡ false = search rules in
    acted_can c.self.inside.pool.0 c.flow-acted.new.mem.0 c.self.inside.cluster c.flow-acted.new.self (joined c.flow-acted.result) (Flows c.args.lane c.args.index) (c.flow-acted.ensures.event (sym c.is_fault.ensures ∙ done)) c.self.invariant
