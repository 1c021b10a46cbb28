use Rattle.std.proofs.Common.{◌≡◌, ◌++◌, drop}
use Rattle.dn_run.specs.Output.{unanswered_text}
use Rattle.dn_report.proofs.unanswered_lines.unanswered.Given as goal

-- what is printed, and the lines that are left, are the lines of all calls
abbrev pub invariant-loop-session : goal.invariant-loop-session
invariant-loop-session l = l.out.items ++ unanswered_text (drop l.session-index l.calls) ≡ l.fn.out.items ++ unanswered_text l.calls
