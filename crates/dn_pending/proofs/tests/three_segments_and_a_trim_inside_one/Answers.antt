use Rattle.std.proofs.Common.{◌≡◌, ◌<◌, ℕ, Bool, List, All, filter, subst, sym, ap}
use Rattle.std.proofs.lemmas.List.Elements.{All-filter}
use Rattle.dn_pending.specs.declared.entries.Entry.{Entry}
use Rattle.dn_pending.specs.Table.{Table}
use Rattle.dn_pending.proofs.tests.three_segments_and_a_trim_inside_one.Goals as goal

-- a trim adds no entry
below_still : (kept : Entry → Bool) (spare : ℕ) (entries : List Entry) (left : Table) → left ≡ record { entries = filter kept entries; spare = spare } → All (λ (e : Entry). e.at < 200000) entries → All (λ (e : Entry). e.at < 200000) left.entries
below_still kept spare entries left e h =
    subst (All (λ (x : Entry). x.at < 200000)) (sym (ap (λ (t : Table). t.entries) e)) (All-filter kept (λ (x : Entry). x.at < 200000) entries h)

pub loop-index-init : goal.loop-index-init
loop-index-init g c = below_still _ _ _ _ c.drop_below.ensures c.loop-mark.invariant
