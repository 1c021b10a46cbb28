use Rattle.std.proofs.Common.{rules, ◌≡◌, false, sym, ◌∙◌}
use Rattle.dn_callers.specs.Sessions.{IsSession}
use Rattle.dn_cluster.proofs.Playing.{told_can}
use Rattle.dn_cluster.proofs.tests.plays.Play.tell.Goals as goal

pub invariant_of-self : goal.invariant_of-self
invariant_of-self g c =
    let is : IsSession c.args.session = c.is_session.ensures (search rules) in
    let unclosed : c.is_closed.result ≡ false = search rules in
    told_can c.self.inside.pool.0 c.self.inside.cluster c.tell.new.self c.args.session c.args.position c.tell.ensures.told c.tell.ensures.segments is (sym c.is_closed.ensures ∙ unclosed) c.self.invariant
