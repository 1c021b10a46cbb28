use Rattle.std.proofs.Common.{◌<◌, ◌*◌, All}
use Rattle.dn_pending.specs.declared.entries.Entry.{Entry}
use Rattle.dn_pending_bench.proofs.loads.table.Given as goal

abbrev pub invariant-loop-number : goal.invariant-loop-number
invariant-loop-number l = All (λ (e : Entry). e.at < 8 * l.number) l.table.entries
