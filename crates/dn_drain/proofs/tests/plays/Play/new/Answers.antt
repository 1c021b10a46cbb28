use Rattle.std.proofs.Common.{rules, [], ◌≡◌, false, sym, ◌∙◌}
use Rattle.dn_drain.proofs.tests.plays.Play.new.Goals as goal

pub invariant_of-result : goal.invariant_of-result
invariant_of-result g c =
    let done : c.is_fault.result ≡ false = search rules in
    record { told = []; receipts = []; sound = c.format-formatted.ensures.sound (sym c.is_fault.ensures ∙ done) c.in_ok-pool.ensures.zeros c.in_ok-cluster.ensures.rests }
