use Rattle.std.proofs.Common.{◌≡◌, ◌≤◌, ◌-◌, ◌^◌, List}
use Rattle.dn_outcomes.specs.State.{World}
use Rattle.dn_script.specs.declared.scripts.Line.{Line}
use Rattle.dn_run.specs.Run.{Run}
use Rattle.dn_play.specs.At.{IsAt, CanGo, IsMoved}
use Rattle.dn_play.proofs.Loading.{IsLoading}
use Rattle.dn_play.proofs.players.Player.load.Given as goal

-- the session has loaded deeds so far
abbrev pub invariant-loop-self : goal.invariant-loop-self
invariant-loop-self g l = record {
  loading : (w : World) (lines : List Line) (r : Run) → IsAt w lines (g.M.Memory.words l.fn.mem) l.fn.self l.fn.out.items r → IsMoved l.session r
      → IsLoading w lines (g.M.Memory.words l.mem) l.self l.out.items r l.session;
  can : CanGo (g.M.Memory.words l.mem) l.self l.out.items (IsMoved l.session);
  grows : l.fn.self.events ≤ l.self.events;
  faults : g.M.Memory.faults l.mem ≡ g.M.Memory.faults l.fn.mem;
}

abbrev pub decreases-loop-self : goal.decreases-loop-self
decreases-loop-self g l = 2 ^ 22 - l.self.events
