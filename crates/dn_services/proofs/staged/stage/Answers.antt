use Rattle.std.proofs.Common.{rules, arith, ◌≡◌, ◌<◌, All, length, refl, sym, subst}
use Rattle.dn_log.specs.Log.{plan_of, new_segment_of}
use Rattle.dn_log.specs.declared.plans.Plan.{Plan}
use Rattle.dn_log.specs.declared.staging.Staged.{Staged}
use Rattle.dn_services.specs.Staged.{directory_staged, staged_of, GoApart}
use Rattle.dn_services.proofs.ApartLaws.{staged-apart}
use Rattle.dn_services.proofs.staged.stage.Goals as goal

pub returns-clause-apart : goal.returns-clause-apart
returns-clause-apart c = λ apart.
    let value : c.stage_words.new.staging ≡ staged_of c.args.log.now (length c.args.words.now) c.args.words.now = search rules in
    let before : All (λ (s : Staged). s.at < 98304) (directory_staged c.args.log.now (new_segment_of c.args.log.now (plan_of c.args.log.now (length c.args.words.now)))) =
    subst (λ (p : Plan). All (λ (s : Staged). s.at < 98304) (directory_staged c.args.log.now (new_segment_of c.args.log.now p))) c.plan-plan.ensures.value c.stage_directory.ensures.before in
    subst GoApart (sym value)
    (staged-apart c.args.log.now (length c.args.words.now) c.args.words.now apart c.requires.least (omega (arith, c.requires.most)) refl c.requires.reach before)
