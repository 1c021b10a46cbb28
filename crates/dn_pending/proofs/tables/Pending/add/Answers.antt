use Rattle.std.proofs.Common.{◌≡◌, ◌<◌, All, arith, subst, sym, ap}
use Rattle.dn_pending.specs.declared.entries.Entry.{Entry}
use Rattle.dn_pending.specs.Segments.{IsFit}
use Rattle.dn_pending.specs.Table.{Table}
use Rattle.dn_pending.proofs.tables.Pending.add.Goals as goal

pub invariant_of-self : goal.invariant_of-self
invariant_of-self c =
    let seen : c.self.inside.entries.items ≡ c.args.self.now.entries = ap (λ (t : Table). t.entries) c.self.view_is in
    let past : All (λ (e : Entry). e.at < c.args.at) c.self.inside.entries.items = subst (All (λ (e : Entry). e.at < c.args.at)) (sym seen) c.requires.past in (
      subst (IsFit c.note.new.segments.items) (sym c.push.ensures.items) (c.note.ensures.fit c.self.inside.entries.items c.self.invariant.0 past),
      omega (arith, c.self.invariant.1),
      omega (arith, c.self.invariant.2, c.push.ensures.room),
      omega (arith, c.self.invariant.3, c.note.ensures.room),
    )
