use Rattle.std.proofs.Common.{arith}
use Rattle.std.proofs.lemmas.Grind.{common_steps}
use Rattle.dn_word.proofs.BytesLemmas.{word_more}
use Rattle.dn_word.proofs.rooms.ValueRoom.fill_words.Goals as goal

pub loop-word-preserved : goal.loop-word-preserved
loop-word-preserved c = record {
  count = grind (arith, common_steps);
  room = grind (arith, common_steps);
  left = grind (arith, common_steps);
  value = grind (arith, common_steps, word_more);
}
