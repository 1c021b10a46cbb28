use Rattle.std.proofs.Common.{◌≡◌, subst, ap, ◌∙◌}
use Rattle.dn_pending.specs.Entries.{last_of, IsRising}
use Rattle.dn_pending.specs.Table.{Table}
use Rattle.dn_pending.proofs.EntryLaws.{held_by, greatest_by}
use Rattle.dn_pending.proofs.tables.Pending.last.Goals as goal

pub returns-clause-held : goal.returns-clause-held
returns-clause-held c =
    let seen : c.self.inside.entries.items ≡ c.args.self.now.entries = ap (λ (t : Table). t.entries) c.self.view_is in
    held_by c.args.key c.args.self.now.entries c.last_in.result (c.last_in.ensures ∙ ap (last_of c.args.key) (c.as_slice-2.ensures ∙ seen))

pub returns-clause-greatest : goal.returns-clause-greatest
returns-clause-greatest c = λ at held.
    let seen : c.self.inside.entries.items ≡ c.args.self.now.entries = ap (λ (t : Table). t.entries) c.self.view_is in
    greatest_by c.args.key c.args.self.now.entries c.last_in.result at (c.last_in.ensures ∙ ap (last_of c.args.key) (c.as_slice-2.ensures ∙ seen))
    (subst IsRising seen c.self.invariant.0.rising) held
