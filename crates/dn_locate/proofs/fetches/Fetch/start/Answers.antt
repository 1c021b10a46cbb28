use Rattle.std.proofs.Common.{List, ℕ, sym, subst}
use Rattle.dn_locate.specs.Sequence.{Fetches, sequence}
use Rattle.dn_locate.specs.declared.fetches.FetchPlace.TheVariants.{Directory}
use Rattle.dn_locate.proofs.SequenceLaws.{sequence_run}
use Rattle.dn_locate.proofs.fetches.Fetch.start.Goals as goal

pub returns-clause-sequence : goal.returns-clause-sequence
returns-clause-sequence c =
    let segments : ℕ = c.self.inside.segments in
    let P : List ℕ → Type 0 = λ words. Fetches (record { key = c.args.key; wish = c.args.wish; at = c.args.at; place = Directory; words = words; follows = 4096; segments = segments }) (sequence segments 4096 c.args.key c.args.wish c.args.at) in
    subst P (sym c.clear.ensures.items) (sequence_run segments 4096 c.args.key c.args.wish c.args.at)
