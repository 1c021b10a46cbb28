use Rattle.std.proofs.Common.{sym, subst}
use Rattle.dn_index.specs.Walk.{Walking}
use Rattle.dn_index.specs.Sequence.{Walks, remove_program}
use Rattle.dn_index.proofs.SequenceLaws.{remove_run}
use Rattle.dn_index.proofs.walks.Walk.remove.Goals as goal

pub returns-clause-sequence : goal.returns-clause-sequence
returns-clause-sequence c =
    let P : Walking → Type 0 = λ w. Walks w (remove_program c.args.key) in
    subst P (sym c.begin.ensures) (remove_run c.args.key)
