use Rattle.std.proofs.Common.{None, refl}
use Rattle.dn_play.specs.declared.players.Player.{Player}
use Rattle.dn_play.proofs.Opened.{starts_at}
use Rattle.dn_play.proofs.players.Player.open.Goals as goal

pub returns-in-Ok-clause-started : goal.returns-in-Ok-clause-started
returns-in-Ok-clause-started g c =
    let p : Player = record { world = c.in-Ok.world; counts = c.nothing.result; events = 129; order = None } in record {
      opened = c.in-Ok.ensures.opened;
      is = λ lines fit. starts_at (g.M.Memory.words c.args.mem.now) (g.M.Memory.words c.open_whole.new.mem) p c.args.segments c.args.nodes lines c.in-Ok.ensures.opened c.nothing.ensures refl refl fit;
    }
