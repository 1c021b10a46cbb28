use Rattle.std.proofs.Common.{[], refl, sym, subst}
use Rattle.dn_world.specs.Happens.{CanBeSound}
use Rattle.dn_world.specs.Opening.{IsOpened}
use Rattle.dn_world.specs.State.{WorldState}
use Rattle.dn_world.proofs.Opened.{opened_sound, goes_on_so}
use Rattle.dn_world.proofs.worlds.World.open.Goals as goal

pub returns-clause-opened : goal.returns-clause-opened
returns-clause-opened g c same =
    subst (λ (w : WorldState). IsOpened (g.M.Memory.words c.args.mem.now) (g.M.Memory.words c.open.new.mem) w c.args.segments c.args.nodes) (sym c.of.ensures)
    (c.in_ok-crew.ensures.opened same)

pub returns-clause-sound : goal.returns-clause-sound
returns-clause-sound g c same =
    opened_sound (g.M.Memory.words c.args.mem.now) (g.M.Memory.words c.open.new.mem) c.of.result c.args.segments c.args.nodes (returns-clause-opened g c same)

pub returns-clause-formatted : goal.returns-clause-formatted
returns-clause-formatted g c has =
    subst (λ (w : WorldState). CanBeSound (g.M.Memory.words c.open.new.mem) w) (sym c.of.ensures)
    (goes_on_so (g.M.Memory.words c.open.new.mem) c.in_ok-crew.field-0.crew [] [] refl (c.in_ok-crew.ensures.formatted has))
