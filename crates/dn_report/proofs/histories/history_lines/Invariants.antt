use Rattle.std.proofs.Common.{◌≡◌, ◌++◌, drop, map}
use Rattle.std.specs.List.{flat_map}
use Rattle.dn_callers.specs.Callers.{Standing as Stands}
use Rattle.dn_print.specs.HistoryLine.{history_line_text}
use Rattle.dn_run.specs.Output.{history_text}
use Rattle.dn_world.specs.Inside.{stands_as}
use Rattle.dn_report.proofs.histories.history_lines.Given as goal

-- what is printed, and the lines that are left, are the whole history
abbrev pub invariant-loop-standing : goal.invariant-loop-standing
invariant-loop-standing l =
    l.out.items ++ flat_map (λ (x : Stands). history_line_text x.receipt x.answered) (map stands_as (drop l.standing-index l.history))
    ≡ l.fn.out.items ++ history_text (map stands_as l.history)
