use Rattle.std.proofs.Common.{sym, subst}
use Rattle.dn_index.specs.Walk.{Walking}
use Rattle.dn_index.specs.Sequence.{Walks, set_program}
use Rattle.dn_index.proofs.SequenceLaws.{set_run}
use Rattle.dn_index.proofs.walks.Walk.set.Goals as goal

pub returns-clause-sequence : goal.returns-clause-sequence
returns-clause-sequence c =
    let P : Walking → Type 0 = λ w. Walks w (set_program c.args.key c.args.at) in
    subst P (sym c.begin.ensures) (set_run c.args.key c.args.at)
