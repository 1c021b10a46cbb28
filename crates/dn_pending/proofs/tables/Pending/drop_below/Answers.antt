use Rattle.std.proofs.Common.{◌≡◌, ℕ, arith, nat_lt, drop, subst, sym, ap, ◌∙◌}
use Rattle.std.proofs.lemmas.List.Sums.{prefix_len-le-length}
use Rattle.std.specs.List.{prefix_len}
use Rattle.dn_pending.specs.declared.entries.Entry.{Entry}
use Rattle.dn_pending.specs.Entries.{kept_from}
use Rattle.dn_pending.specs.Segments.{IsFit}
use Rattle.dn_pending.specs.Table.{Table}
use Rattle.dn_pending.proofs.EntryLaws.{kept_from-front}
use Rattle.dn_pending.proofs.tables.Pending.drop_below.Goals as goal

abbrev kept_table : ℕ → Table → Table
kept_table mark table = record { entries = kept_from mark table.entries; spare = table.spare }

pub drop_front-requires : goal.drop_front-requires
drop_front-requires c =
    let merged : c.below-merged.result ≡ prefix_len (λ (e : Entry). nat_lt e.at c.args.mark) c.self.inside.entries.items =
    c.below-merged.ensures ∙ ap (prefix_len (λ (e : Entry). nat_lt e.at c.args.mark)) c.as_slice.ensures in
    omega (arith, merged, prefix_len-le-length (λ (e : Entry). nat_lt e.at c.args.mark) c.self.inside.entries.items)

pub invariant_of-self : goal.invariant_of-self
invariant_of-self c =
    let entries = c.self.inside.entries.items in
    let merged : c.below-merged.result ≡ prefix_len (λ (e : Entry). nat_lt e.at c.args.mark) entries =
    c.below-merged.ensures ∙ ap (prefix_len (λ (e : Entry). nat_lt e.at c.args.mark)) c.as_slice.ensures in
    let left : c.drop_front.new.self.items ≡ kept_from c.args.mark entries =
    c.drop_front.ensures.items ∙ ap (λ k. drop k entries) merged ∙ sym (kept_from-front c.args.mark entries c.self.invariant.0.rising) in
    let fit : IsFit (drop c.emptied-passed.result c.as_slice-2.result.now) c.as_slice-3.result.now =
    c.emptied-passed.ensures.fit entries (subst (λ ss. IsFit ss entries) (sym c.as_slice-2.ensures) c.self.invariant.0) (c.as_slice-3.ensures ∙ left) in (
      subst (λ ss. IsFit ss c.drop_front.new.self.items) (ap (drop c.emptied-passed.result) c.as_slice-2.ensures ∙ sym c.drop_front-2.ensures.items)
          (subst (IsFit (drop c.emptied-passed.result c.as_slice-2.result.now)) c.as_slice-3.ensures fit),
      c.self.invariant.1,
      omega (arith, c.self.invariant.2, c.drop_front.ensures.room),
      omega (arith, c.self.invariant.3, c.drop_front-2.ensures.room),
    )

pub returns : goal.returns
returns c =
    let entries = c.self.inside.entries.items in
    let merged : c.below-merged.result ≡ prefix_len (λ (e : Entry). nat_lt e.at c.args.mark) entries =
    c.below-merged.ensures ∙ ap (prefix_len (λ (e : Entry). nat_lt e.at c.args.mark)) c.as_slice.ensures in
    let left : c.drop_front.new.self.items ≡ kept_from c.args.mark entries =
    c.drop_front.ensures.items ∙ ap (λ k. drop k entries) merged ∙ sym (kept_from-front c.args.mark entries c.self.invariant.0.rising) in
    let same : ℕ = c.self.inside.spare in
    ap (λ es. let t : Table = record { entries = es; spare = c.self.inside.spare } in t) left ∙ ap (kept_table c.args.mark) c.self.view_is
