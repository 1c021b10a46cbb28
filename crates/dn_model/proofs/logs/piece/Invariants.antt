use Rattle.std.proofs.Common.{◌≡◌}
use Rattle.dn_model.specs.Regions.{offsets}
use Rattle.dn_model.specs.Pieces.{reads}
use Rattle.dn_model.proofs.logs.piece.Given as goal

-- the words so far
abbrev pub invariant-loop-i : goal.invariant-loop-i
invariant-loop-i l = l.piece.items ≡ reads (offsets l.words l.lane) l.offset l.i
