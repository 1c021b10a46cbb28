use Rattle.std.proofs.Common.{◌≡◌, ◌≤◌, ◌+◌, ◌-◌, vec_len}
use Rattle.std.specs.Io.KnownBytes.{Consumes}
use Rattle.dn_io.proofs.whole.read_all.Given as goal

-- so far the bytes are the front of the source's, and at most one more than allowed
abbrev pub invariant-loop-piece : goal.invariant-loop-piece
invariant-loop-piece g l = record {
  read : Consumes (g.S.Source.left l.fn.source) (g.S.Source.left l.source) l.bytes.items;
  faults : g.S.Source.faults l.source ≡ g.S.Source.faults l.fn.source;
  few : vec_len l.bytes ≤ l.limit + 1;
}

abbrev pub decreases-loop-piece : goal.decreases-loop-piece
decreases-loop-piece g l = l.limit + 1 - vec_len l.bytes
