use Rattle.std.proofs.Common.{sym, subst}
use Rattle.dn_index.specs.Walk.{Walking}
use Rattle.dn_index.specs.Sequence.{Walks, find_program}
use Rattle.dn_index.proofs.SequenceLaws.{find_run}
use Rattle.dn_index.proofs.walks.Walk.find.Goals as goal

pub returns-clause-sequence : goal.returns-clause-sequence
returns-clause-sequence c =
    let P : Walking → Type 0 = λ w. Walks w (find_program c.args.key) in
    subst P (sym c.begin.ensures) (find_run c.args.key)
