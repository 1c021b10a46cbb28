use Rattle.std.proofs.Common.{◌<◌, slice_index, slice_set, length, ap, ◌∙◌, arith}
use Rattle.std.proofs.lemmas.List.{get_or-set_same}
use Rattle.dn_known.proofs.CountingLaws.{none_counts}
use Rattle.dn_known.proofs.knowledge.Known.meet.Goals as goal

pub returns-then-self-slot-clause-anew : goal.returns-then-self-slot-clause-anew
returns-then-self-slot-clause-anew c = λ key s d.
    let within : c.args.slot < length c.self.inside.counts = omega (arith, c.requires, c.self.told.1) in
    none_counts (record {
      log = c.self.inside.log;
      pending = c.self.inside.pending;
      epochs = slice_set c.self.inside.epochs c.args.slot c.args.epoch;
      counts = slice_set c.self.inside.counts c.args.slot c.len.result;
      barred = c.self.inside.barred;
    }) key c.self.invariant.pending
    (ap (slice_index (slice_set c.self.inside.counts c.args.slot c.len.result)) s
    ∙ get_or-set_same c.self.inside.counts c.args.slot c.len.result 0 within
    ∙ c.len.ensures.value)
