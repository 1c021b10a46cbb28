use Rattle.std.proofs.Common.{List, sym, subst}
use Rattle.dn_log.specs.declared.staging.Staged.{Staged}
use Rattle.dn_lane.specs.Fit.{FitsMode}
use Rattle.dn_lane.proofs.FlowLemmas.{flowed_fits}
use Rattle.dn_lane.proofs.lanes.Lane.flowed.Goals as goal

pub invariant_of-self : goal.invariant_of-self
invariant_of-self c = record {
  number = c.self.invariant.number;
  pool = c.self.invariant.pool;
  fits = subst (λ (ss : List Staged). FitsMode (record c.self.inside.base { staging = ss }) c.self.inside.asked c.self.inside.mode) (sym c.flowed.ensures)
      (flowed_fits c.self.inside.base c.self.inside.asked c.args.index c.self.inside.mode c.self.invariant.fits);
  asked = c.self.invariant.asked;
}
