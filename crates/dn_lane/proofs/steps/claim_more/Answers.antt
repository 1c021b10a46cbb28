use Rattle.std.proofs.Common.{refl, ap, ◌∙◌, arith}
use Rattle.dn_known.specs.State.{KnownState}
use Rattle.dn_log.specs.Claim.{turn_of}
use Rattle.dn_lane.specs.Asked.{words_in}
use Rattle.dn_lane.proofs.StepLemmas.{may_seal, room_told, claimed_lane, claimed_pool, same_lane}
use Rattle.dn_lane.proofs.steps.claim_more.Goals as goal

pub enter_then-requires-clause-room : goal.enter_then-requires-clause-room
enter_then-requires-clause-room c h = record {
  reaches = room_told c.claim_on.new.known.log (words_in c.args.asked.now) _ (c.in-Told.ensures.fits (words_in c.args.asked.now) (omega (arith, c.words-words.ensures.value, c.words-words.ensures.most))) (c.roomed-then.ensures.room h);
  seals = may_seal c.args.base.now.known.log.lane c.args.asked.now c.args.wait c.requires.asked c.requires.fits.1;
}

pub returns-in-Told-clause-same : goal.returns-in-Told-clause-same
returns-in-Told-clause-same c =
    same_lane _ _ _ c.enter_then.ensures.same
    (ap (λ (k : KnownState). k.log.lane) c.claim_on.ensures.known ∙ claimed_lane _ (turn_of c.args.claim c.args.word))
    (ap (λ (k : KnownState). k.log.pool) c.claim_on.ensures.known ∙ claimed_pool _ (turn_of c.args.claim c.args.word))
    refl
