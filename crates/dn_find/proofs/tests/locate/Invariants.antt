use Rattle.dn_find.specs.Fit.{FitsFind}
use Rattle.dn_find.proofs.tests.locate.Given as goal

-- the location goes on
abbrev pub invariant-loop : goal.invariant-loop
invariant-loop g l = FitsFind l.fetch l.find
