use Rattle.std.proofs.Common.{◌≡◌, List, length}
use Rattle.std.specs.Vec.Iter.{into_iter_items, into_iter_len}
use Rattle.dn_outcomes.specs.State.{World}
use Rattle.dn_script.specs.declared.scripts.Line.{Line}
use Rattle.dn_run.specs.Run.{Run}
use Rattle.dn_play.specs.At.{IsAt, CanGo, Follow, Reached}
use Rattle.dn_play.proofs.players.Player.lines.Given as goal

-- the lines so far are played
abbrev pub invariant-loop-line : goal.invariant-loop-line
invariant-loop-line g l = record {
  reached : (w : World) (lines : List Line) (r : Run) → IsAt w lines (g.M.Memory.words l.fn.mem) l.fn.self l.fn.out.items r → Follow l.fn.lines.items r
      → Reached w lines (g.M.Memory.words l.mem) l.self l.out.items r (into_iter_items l.line-iterator);
  can : CanGo (g.M.Memory.words l.mem) l.self l.out.items (Follow (into_iter_items l.line-iterator));
  whole : into_iter_len l.line-iterator ≡ length (into_iter_items l.line-iterator);
  faults : g.M.Memory.faults l.mem ≡ g.M.Memory.faults l.fn.mem;
}
