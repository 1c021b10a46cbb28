use Rattle.std.proofs.Common.{ap, ◌∙◌}
use Rattle.dn_outcomes.specs.Awaited.{marked}
use Rattle.dn_world.specs.State.{WorldState, world_of}
use Rattle.dn_world.proofs.worlds.World.marked.Goals as goal

pub returns : goal.returns
returns c words told receipts = c.marked.ensures words told receipts ∙ ap (λ (v : WorldState). marked (world_of words v.crew told receipts)) c.self.view_is
