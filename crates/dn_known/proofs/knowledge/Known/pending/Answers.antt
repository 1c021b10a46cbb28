use Rattle.std.proofs.Common.{◌<◌, ◌≤◌, Contains, slice_index, subst, sym, arith}
use Rattle.dn_word.specs.Hash.{slot_of}
use Rattle.dn_pending.specs.declared.entries.Entry.{Entry}
use Rattle.dn_known.specs.State.{KnownState}
use Rattle.dn_known.specs.Counting.{count_of}
use Rattle.dn_known.proofs.knowledge.Known.pending.Goals as goal

pub returns-in_err-offset-clause-greatest : goal.returns-in_err-offset-clause-greatest
returns-in_err-offset-clause-greatest c = λ at h.
    absurd (c.in_err-offset.ensures.greatest at
    (subst (λ (k : KnownState). Contains k.pending.entries (let e : Entry = record { key = c.args.key; at = at } in e)) (sym c.self.view_is) h.held))

pub returns-then-offset-self-clause-greatest : goal.returns-then-offset-self-clause-greatest
returns-then-offset-self-clause-greatest c = λ at h.
    let held : at ≤ c.in_ok-offset.offset = c.in_ok-offset.ensures.greatest at (subst (λ (k : KnownState). Contains k.pending.entries (let e : Entry = record { key = c.args.key; at = at } in e)) (sym c.self.view_is) h.held) in
    let counts : slice_index c.self.inside.counts (slot_of c.args.key) ≤ at = subst (λ (k : KnownState). count_of k c.args.key ≤ at) (sym c.self.view_is) h.counts in
    let late : c.in_ok-offset.offset < slice_index c.self.inside.counts (slot_of c.args.key) = subst (λ s. c.in_ok-offset.offset < slice_index c.self.inside.counts s) c.slot_of.ensures.value c.if-offset-self.true in
    omega (arith, held, counts, late)

pub returns-clause-greatest : goal.returns-clause-greatest
returns-clause-greatest c = λ at h.
    c.in_ok-offset.ensures.greatest at (subst (λ (k : KnownState). Contains k.pending.entries (let e : Entry = record { key = c.args.key; at = at } in e)) (sym c.self.view_is) h.held)
