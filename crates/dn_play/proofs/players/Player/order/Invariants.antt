use Rattle.std.proofs.Common.{◌≡◌, ◌-◌, ◌^◌, List}
use Rattle.dn_outcomes.specs.State.{World}
use Rattle.dn_script.specs.declared.scripts.Line.{Line}
use Rattle.dn_run.specs.Doing.{Order}
use Rattle.dn_run.specs.Run.{Run}
use Rattle.dn_play.specs.At.{IsAt, CanGo, Leads, Undone, order_doing}
use Rattle.dn_play.proofs.players.Player.order.Given as goal

-- the order has gone on so far
abbrev pub invariant-loop-left : goal.invariant-loop-left
invariant-loop-left g l = record {
  leads : (w : World) (lines : List Line) (r : Run) → IsAt w lines (g.M.Memory.words l.fn.mem) l.fn.self l.fn.out.items r → Undone (Order l.slot 0) r
      → Leads w lines (g.M.Memory.words l.mem) l.self l.out.items r (order_doing l.slot l.left);
  can : CanGo (g.M.Memory.words l.mem) l.self l.out.items (Undone (order_doing l.slot l.left));
  faults : g.M.Memory.faults l.mem ≡ g.M.Memory.faults l.fn.mem;
}

abbrev pub decreases-loop-left : goal.decreases-loop-left
decreases-loop-left g l = 2 ^ 22 - l.self.events
