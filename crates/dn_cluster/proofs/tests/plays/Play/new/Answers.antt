use Rattle.std.proofs.Common.{rules, [], ◌≡◌, true}
use Rattle.dn_cluster.proofs.tests.plays.Play.new.Goals as goal

pub invariant_of-result : goal.invariant_of-result
invariant_of-result g c =
    let done : c.is_formatted.result ≡ true = search rules in
    record { told = []; receipts = []; sound = c.format-formatted.ensures.sound (c.is_formatted.ensures done) c.in_ok-pool.ensures.zeros c.in_ok-cluster.ensures.rests }
