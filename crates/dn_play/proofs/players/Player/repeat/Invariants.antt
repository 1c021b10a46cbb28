use Rattle.std.proofs.Common.{◌≡◌, ◌-◌, List}
use Rattle.dn_outcomes.specs.State.{World}
use Rattle.dn_script.specs.declared.scripts.Line.{Line}
use Rattle.dn_run.specs.Doing.{Repeat}
use Rattle.dn_run.specs.Run.{Run}
use Rattle.dn_play.specs.At.{IsAt, CanGo, Leads, Repeats, event_by}
use Rattle.dn_play.proofs.players.Player.repeat.Given as goal

-- so many of the actions are done, and each has found something to do
abbrev pub invariant-loop-done : goal.invariant-loop-done
invariant-loop-done g l = record {
  leads : (w : World) (lines : List Line) (r : Run) → IsAt w lines (g.M.Memory.words l.fn.mem) l.fn.self l.fn.out.items r → Repeats (event_by l.action) l.count r
      → Leads w lines (g.M.Memory.words l.mem) l.self l.out.items r (Repeat (event_by l.action) (l.count - l.done));
  can : CanGo (g.M.Memory.words l.mem) l.self l.out.items (Repeats (event_by l.action) (l.count - l.done));
  faults : g.M.Memory.faults l.mem ≡ g.M.Memory.faults l.fn.mem;
}
