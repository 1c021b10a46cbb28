use Rattle.std.proofs.Common.{◌≡◌, ◌++◌, ℕ, List, length}
use Rattle.dn_route.specs.CallersOrder.{Told}
use Rattle.dn_run.specs.Output.{lanes_text}
use Rattle.dn_world.specs.Finishes.{HaveEnded}
use Rattle.dn_world.specs.State.{world_of}
use Rattle.dn_report.proofs.lane_lines.lanes.Given as goal

-- the lines of so many lanes are printed
abbrev pub invariant-loop-number : goal.invariant-loop-number
invariant-loop-number l = (words : List ℕ) (told : List Told) → HaveEnded words (length l.world.crew.cluster.nodes) l.world.ended
    → l.out.items ≡ l.fn.out.items ++ lanes_text (world_of words l.world.crew told l.world.history) words l.number
