use Rattle.std.proofs.Common.{ℕ, List, get_or, sym, ◌∙◌, arith}
use Rattle.std.proofs.lemmas.List.{get_or_default}
use Rattle.dn_model.specs.Index.{index}
use Rattle.dn_model.proofs.ChainLaws.{met_at}
use Rattle.dn_model.proofs.indexes.place_of.Goals as goal

pub returns-in-Some-place_in : goal.returns-in-Some-place_in
returns-in-Some-place_in c =
    let bs : List ℕ = c.args.overflow.now in
    let i : ℕ = c.loop-bucket.bucket-index in
    let b : ℕ = get_or bs i 0 in
    sym (met_at c.args.words.now bs i b c.args.key c.in-Some-place_in.place (index c.args.words.now bs c.args.key) c.loop-bucket.invariant (omega arith) (get_or_default bs i 0 b (omega arith)) (sym c.place_in-in-loop-bucket.ensures ∙ c.in-Some-place_in.is))
