use Rattle.std.proofs.Common.{ap, ◌∙◌}
use Rattle.std.specs.FinMap as map
use Rattle.dn_hist.proofs.MapLemmas.{one_put}
use Rattle.dn_hist.proofs.plain_map.PlainMap.insert.Goals as goal

pub returns-in-Ok-clause-ok : goal.returns-in-Ok-clause-ok
returns-in-Ok-clause-ok c = one_put c.self.inside.values.entries c.insert.new.self.entries c.args.key c.args.value c.in-Ok.ensures.updates.0 ∙ ap (λ m. map.insert m c.args.key c.args.value) c.self.view_is
