use Rattle.std.proofs.Common.{ap, ◌∙◌}
use Rattle.std.specs.FinMap as map
use Rattle.dn_hist.proofs.MapLemmas.{one_removed}
use Rattle.dn_hist.proofs.plain_map.PlainMap.remove.Goals as goal

pub returns : goal.returns
returns c = one_removed c.self.inside.values.entries c.remove.new.self.entries c.args.key c.remove.ensures.updates.0 ∙ ap (λ m. map.remove m c.args.key) c.self.view_is
