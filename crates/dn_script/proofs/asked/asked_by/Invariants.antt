use Rattle.std.proofs.Common.{◌≡◌, ◌≤◌, drop, length}
use Rattle.dn_script.specs.Asked.{asked_behind, asked_by}
use Rattle.dn_script.proofs.asked.asked_by.Given as goal

-- the calls so far, and behind them those of the lines that are left, are all of them
abbrev pub invariant-loop-at : goal.invariant-loop-at
invariant-loop-at l = record {
  all : asked_behind l.asked.items (drop l.at l.lines) (drop l.at l.taken) ≡ asked_by l.lines l.taken;
  few : length l.asked.items ≤ l.at;
}
