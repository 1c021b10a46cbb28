use Rattle.std.proofs.Common.{◌==◌, ◌∙◌, ap, bit_or}
use Rattle.dn_pending.specs.Filter.{lack_of}
use Rattle.dn_pending.proofs.FilterLemmas.{may_hold-lacks}
use Rattle.dn_pending.proofs.filters.Filter.may_hold.Goals as goal

pub returns : goal.returns
returns c =
    let words = c.args.self.now.words in
    let bits = c.args.bits.now in
    ap (λ n. bit_or (bit_or n c.lacks-2.result) (bit_or c.lacks-3.result c.lacks-4.result) == 0) c.lacks.ensures
    ∙ ap (λ n. bit_or (bit_or (lack_of words bits.first) n) (bit_or c.lacks-3.result c.lacks-4.result) == 0) c.lacks-2.ensures
    ∙ ap (λ n. bit_or (bit_or (lack_of words bits.first) (lack_of words bits.second)) (bit_or n c.lacks-4.result) == 0) c.lacks-3.ensures
    ∙ ap (λ n. bit_or (bit_or (lack_of words bits.first) (lack_of words bits.second)) (bit_or (lack_of words bits.third) n) == 0) c.lacks-4.ensures
    ∙ may_hold-lacks words bits
