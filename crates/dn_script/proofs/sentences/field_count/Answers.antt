use Rattle.std.proofs.Common.{nat_eq, arith}
use Rattle.std.proofs.lemmas.List.Splits.{length-slice_split}
use Rattle.dn_script.proofs.sentences.field_count.Goals as goal

pub returns : goal.returns
returns c = omega (arith, length-slice_split (λ b. nat_eq b 32) c.args.line.now, c.space_count.ensures.value)
