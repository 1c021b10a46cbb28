use Rattle.std.specs.Prelude.{List}
use Rattle.std.specs.Ordering.{nat_cmp, ordering_then}
use Rattle.std.specs.declared.cmp.Ordering.{Ordering}
use Rattle.std.specs.List.Sorted.{IsSortedByKey}
use Rattle.dn_word.specs.declared.positions.Position.{Position}
use Rattle.dn_hist.specs.declared.receipts.Receipt.{Receipt}

-- the stamp decides first, then the rank, and the session breaks ties
abbrev pub position_cmp : Position → Position → Ordering
position_cmp a b = ordering_then (nat_cmp a.stamp b.stamp) (ordering_then (nat_cmp a.rank b.rank) (nat_cmp a.session b.session))

-- No receipt stands behind one of a greater position.
abbrev pub IsInOrder : List Receipt → Type 0
IsInOrder receipts = IsSortedByKey (λ (r : Receipt). r.position) position_cmp receipts
