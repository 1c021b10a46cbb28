use Rattle.std.proofs.Common.{◌≡◌, take}
use Rattle.dn_owners.specs.Counting.{last_counting}
use Rattle.dn_owners.proofs.plain.last_counting.Given as goal

-- the last of the records so far
abbrev pub invariant-loop-one : goal.invariant-loop-one
invariant-loop-one l = l.last ≡ last_counting l.key l.learnt_at (take l.one-index l.pending)
