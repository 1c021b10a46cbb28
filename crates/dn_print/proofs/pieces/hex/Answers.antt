use Rattle.std.proofs.Common.{arith, refl}
use Rattle.dn_print.proofs.FrontLemmas.{keeps_on}
use Rattle.dn_print.proofs.HexLemmas.{hex_more, hex_done}
use Rattle.dn_print.proofs.pieces.hex.Goals as goal

pub loop-byte-preserved : goal.loop-byte-preserved
loop-byte-preserved c = record {
  done = hex_more c.args.out.now.items c.loop-byte.out.items c.digits.new.out.items c.args.of.now c.loop-byte.byte-index 0 _ (omega (arith, c.loop-byte-test.true)) refl c.in_ok-digits.ensures.ok
      c.loop-byte.invariant.done;
  front = keeps_on c.args.start c.args.out.now.items c.loop-byte.out.items c.digits.new.out.items c.loop-byte.invariant.front c.digits.ensures.front;
}

pub returns-clause-ok : goal.returns-clause-ok
returns-clause-ok c = hex_done c.args.out.now.items c.loop-byte.out.items c.args.of.now c.loop-byte.byte-index (omega (arith, c.loop-byte-test.false)) c.loop-byte.invariant.done
