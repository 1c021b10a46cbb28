use Rattle.std.proofs.Common.{sym, subst}
use Rattle.dn_world.specs.Opening.{IsOpened}
use Rattle.dn_world.specs.State.{WorldState}
use Rattle.dn_world.proofs.worlds.World.open_whole.Goals as goal

pub returns-then-whole-clause-opened : goal.returns-then-whole-clause-opened
returns-then-whole-clause-opened g c =
    subst (λ (w : WorldState). IsOpened (g.M.Memory.words c.args.mem.now) (g.M.Memory.words c.open.new.mem) w c.args.segments c.args.nodes) (sym c.of.ensures)
    (c.in-Ok.ensures.opened (c.in-Ok.ensures.whole.yes_whole c.if-whole.true))
