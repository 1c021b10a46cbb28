use Rattle.std.proofs.Common.{◌≡◌, ◌++◌, drop}
use Rattle.dn_waiting.specs.Stops.{waiting_from}
use Rattle.dn_waiting.proofs.waiting.Waiting.waiting.Given as goal

abbrev pub invariant-loop-session : goal.invariant-loop-session
invariant-loop-session l =
    l.waiting.items ++ waiting_from l.session (drop l.session l.self-inside.calls.items) ≡ waiting_from 0 l.self-inside.calls.items
