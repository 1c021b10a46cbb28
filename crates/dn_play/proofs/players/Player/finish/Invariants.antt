use Rattle.std.proofs.Common.{◌≡◌, ◌-◌, ◌^◌, List}
use Rattle.dn_outcomes.specs.State.{World}
use Rattle.dn_script.specs.declared.scripts.Line.{Line}
use Rattle.dn_run.specs.Doing.{Finish}
use Rattle.dn_run.specs.Run.{Run}
use Rattle.dn_play.specs.At.{IsAt, CanGo, Leads, Finishes}
use Rattle.dn_play.proofs.players.Player.finish.Given as goal

-- the call has gone on so far
abbrev pub invariant-loop-place : goal.invariant-loop-place
invariant-loop-place g l = record {
  leads : (w : World) (lines : List Line) (r : Run) → IsAt w lines (g.M.Memory.words l.fn.mem) l.fn.self l.fn.out.items r → Finishes l.session r
      → Leads w lines (g.M.Memory.words l.mem) l.self l.out.items r (Finish l.session);
  can : CanGo (g.M.Memory.words l.mem) l.self l.out.items (Finishes l.session);
  faults : g.M.Memory.faults l.mem ≡ g.M.Memory.faults l.fn.mem;
}

abbrev pub decreases-loop-place : goal.decreases-loop-place
decreases-loop-place g l = 2 ^ 22 - l.self.events
