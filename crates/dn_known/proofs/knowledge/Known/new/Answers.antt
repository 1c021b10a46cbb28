use Rattle.std.proofs.Common.{◌≤◌, ◌<◌, All, subst, sym, arith}
use Rattle.std.proofs.lemmas.List.Elements.{All-replicate, All-nil}
use Rattle.dn_pending.specs.Table.{Table}
use Rattle.dn_pending.specs.declared.entries.Entry.{Entry}
use Rattle.dn_known.proofs.knowledge.Known.new.Goals as goal

pub invariant_of-result : goal.invariant_of-result
invariant_of-result c = record {
  pending = subst (λ (t : Table). All (λ (e : Entry). e.at < c.in_ok-log.log.len) t.entries) (sym c.in_ok-pending.ensures) (All-nil (λ (e : Entry). e.at < c.in_ok-log.log.len));
  counts = All-replicate (λ n. n ≤ c.in_ok-log.log.len) 64 0 (omega arith);
}
