use Rattle.std.proofs.Common.{◌≡◌, ◌<◌, All, min, subst, sym, ap, ◌∙◌}
use Rattle.dn_pending.specs.Table.{Table}
use Rattle.dn_pending.specs.Entries.{kept_from}
use Rattle.dn_pending.specs.declared.entries.Entry.{Entry}
use Rattle.dn_known.specs.State.{KnownState}
use Rattle.dn_known.specs.Learnt.{kept_past}
use Rattle.dn_known.proofs.CountingLaws.{kept_from-end, kept_within}
use Rattle.dn_known.proofs.knowledge.Known.drop_below.Goals as goal

pub invariant_of-self : goal.invariant_of-self
invariant_of-self c = record {
  pending = subst (λ (t : Table). All (λ (e : Entry). e.at < c.self.inside.log.len) t.entries) (sym c.drop_below.ensures) (kept_within _ c.self.inside.log.len c.self.inside.pending.entries c.self.invariant.pending);
  counts = c.self.invariant.counts;
}

pub returns : goal.returns
returns c =
    let known : Table → KnownState = λ t. record {
      log = c.self.inside.log;
      pending = t;
      epochs = c.self.inside.epochs;
      counts = c.self.inside.counts;
      barred = c.self.inside.barred;
    } in
    let least : c.min.result ≡ min c.args.mark c.self.inside.log.len = c.min.ensures ∙ ap (min c.args.mark) (c.from.ensures ∙ c.len-end.ensures.value) in
    ap known (c.drop_below.ensures
    ∙ ap (λ es. let t : Table = record { entries = es; spare = c.self.inside.pending.spare } in t)
    (ap (λ m. kept_from m c.self.inside.pending.entries) least
    ∙ kept_from-end c.args.mark c.self.inside.log.len c.self.inside.pending.entries c.self.invariant.pending))
    ∙ ap (λ (k : KnownState). (let now : KnownState = record k { pending = kept_past c.args.mark k.pending } in now)) c.self.view_is
