use Rattle.std.proofs.Common.{◌≡◌, true}
use Rattle.dn_locate.specs.Fetch.{is_under_way}
use Rattle.dn_locate.proofs.tests.finish.Given as goal

-- the fetch goes on
abbrev pub invariant-loop : goal.invariant-loop
invariant-loop g l = is_under_way l.fetch ≡ true
