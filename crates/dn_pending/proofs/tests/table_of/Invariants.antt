use Rattle.std.proofs.Common.{◌<◌, ◌≤◌, All}
use Rattle.dn_pending.specs.declared.entries.Entry.{Entry}
use Rattle.dn_pending.proofs.tests.table_of.Given as goal

abbrev pub invariant-loop-entry : goal.invariant-loop-entry
invariant-loop-entry g l = All (λ (e : Entry). e.at < l.past) l.table.entries × (l.past ≤ 200000)
