use Rattle.dn_model.specs.Told.{AreChains}
use Rattle.dn_model.proofs.maps.read_chains.Given as goal

-- the chains of the home buckets so far
abbrev pub invariant-loop-home : goal.invariant-loop-home
invariant-loop-home l = AreChains l.words l.home l.chains.items
