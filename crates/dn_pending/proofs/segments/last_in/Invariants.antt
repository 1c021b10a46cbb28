use Rattle.std.proofs.Common.{◌≡◌, reverse, length}
use Rattle.dn_pending.specs.Entries.{last_of}
use Rattle.dn_pending.specs.Filter.{bits_of, AreInside}
use Rattle.dn_pending.specs.Segments.{Covers}
use Rattle.dn_pending.proofs.segments.last_in.Given as goal

abbrev pub invariant-loop-newest : goal.invariant-loop-newest
invariant-loop-newest l = record {
  covers : Covers (reverse l.unseen) (reverse l.left);
  same : last_of l.key l.fn.entries ≡ last_of l.key l.left;
  bits : l.bits ≡ bits_of l.key;
  inside : AreInside l.bits;
}

abbrev pub decreases-loop-newest : goal.decreases-loop-newest
decreases-loop-newest l = length l.unseen
