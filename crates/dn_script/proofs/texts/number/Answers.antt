use Rattle.std.proofs.Common.{◌≡◌, None, arith, sym, ◌∙◌}
use Rattle.std.proofs.lemmas.Grind.{common_steps}
use Rattle.dn_script.proofs.FieldLemmas.{overflows, all_read}
use Rattle.dn_script.proofs.texts.number.Goals as goal

pub returns-in_err-checked_mul : goal.returns-in_err-checked_mul
returns-in_err-checked_mul c =
    let none : c.from_residual.result ≡ None = grind (arith, common_steps) in
    none ∙ sym (overflows c.args.digits.now c.loop-digit.digit-index c.loop-digit.value c.loop-digit-test.true (grind (arith, common_steps))) ∙ c.loop-digit.invariant.same

pub returns-in_err-value : goal.returns-in_err-value
returns-in_err-value c =
    let none : c.from_residual-in_err-value.result ≡ None = grind (arith, common_steps) in
    none ∙ sym (overflows c.args.digits.now c.loop-digit.digit-index c.loop-digit.value c.loop-digit-test.true (grind (arith, common_steps))) ∙ c.loop-digit.invariant.same

pub returns : goal.returns
returns c = sym (all_read c.args.digits.now c.loop-digit.digit-index c.loop-digit.value c.loop-digit-test.false c.loop-digit.invariant.fits) ∙ c.loop-digit.invariant.same
