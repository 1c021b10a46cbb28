use Rattle.std.proofs.Common.{◌≡◌, ◌++◌, drop}
use Rattle.dn_print.specs.Front.{KeepsFront}
use Rattle.dn_print.specs.Piece.{hex_text}
use Rattle.dn_print.proofs.pieces.hex.Given as goal

-- what is done and what is left give the whole
abbrev pub invariant-loop-byte : goal.invariant-loop-byte
invariant-loop-byte l = record {
  done : l.out.items ++ hex_text (drop l.byte-index l.of) ≡ l.fn.out.items ++ hex_text l.of;
  front : KeepsFront l.start l.fn.out.items l.out.items;
}
