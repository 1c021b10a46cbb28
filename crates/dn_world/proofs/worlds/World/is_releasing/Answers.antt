use Rattle.std.proofs.Common.{ap, ◌∙◌}
use Rattle.dn_outcomes.specs.Awaited.{is_releasing}
use Rattle.dn_world.specs.State.{WorldState, world_of}
use Rattle.dn_world.proofs.worlds.World.is_releasing.Goals as goal

pub returns : goal.returns
returns c words told receipts =
    c.is_releasing.ensures words told receipts ∙ ap (λ (v : WorldState). is_releasing (world_of words v.crew told receipts) c.args.lane c.args.slot) c.self.view_is
