use Rattle.std.proofs.Common.{◌≡◌, ◌≤◌, ◌+◌, nat_eq, length}
use Rattle.std.specs.List.{slice_split}
use Rattle.dn_script.specs.Script.{drafted, blank}
use Rattle.dn_script.proofs.parsing.drafts.Given as goal

-- what the lines so far give, and those of the bytes that are left, is what all of them give
abbrev pub invariant-loop-end : goal.invariant-loop-end
invariant-loop-end l = record {
  lines : drafted l.verbs l.rules l.number (record { header = l.header; lines = l.lines.items }) (slice_split (λ b. nat_eq b 10) l.rest)
      ≡ drafted l.verbs l.rules 1 blank (slice_split (λ b. nat_eq b 10) l.bytes);
  number : l.number + length l.rest ≤ length l.bytes + 1;
}

abbrev pub decreases-loop-end : goal.decreases-loop-end
decreases-loop-end l = length l.rest
