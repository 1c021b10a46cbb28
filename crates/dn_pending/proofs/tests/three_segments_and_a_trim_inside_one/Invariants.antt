use Rattle.std.proofs.Common.{◌<◌, All}
use Rattle.dn_pending.specs.declared.entries.Entry.{Entry}
use Rattle.dn_pending.proofs.tests.three_segments_and_a_trim_inside_one.Given as goal

abbrev pub invariant-loop-index : goal.invariant-loop-index
invariant-loop-index g l = All (λ (e : Entry). e.at < 200000) l.table.entries

abbrev pub invariant-loop-mark : goal.invariant-loop-mark
invariant-loop-mark g l = All (λ (e : Entry). e.at < 200000) l.table.entries
