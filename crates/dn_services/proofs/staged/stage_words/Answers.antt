use Rattle.std.proofs.Common.{arith, ◌<◌, sym, subst}
use Rattle.std.specs.List.{All}
use Rattle.std.proofs.lemmas.List.Elements.{All-push}
use Rattle.std.proofs.lemmas.Grind.{common_steps}
use Rattle.dn_act.specs.Words.{pool_size}
use Rattle.dn_log.specs.declared.staging.Staged.{Staged}
use Rattle.dn_services.proofs.StagedLemmas.{staged_more}
use Rattle.dn_services.proofs.staged.stage_words.Goals as goal

pub loop-index-preserved : goal.loop-index-preserved
loop-index-preserved c = record {
  staged = staged_more c.args.log.now c.args.at c.loop-index.index c.word_at.result c.args.words.now c.loop-index.staging c.put.new.self c.args.staging.now c.loop-index-test.true c.word_at.ensures.value c.loop-index.invariant.staged c.put.ensures;
  within =
      let P : Staged → Type 0 = λ s. s.at < pool_size c.args.log.now.pool in
      subst (All P) (sym c.put.ensures) (All-push P c.loop-index.staging _ c.loop-index.invariant.within c.word_at.ensures.below);
  count = grind (arith, common_steps, c.put.ensures);
}
