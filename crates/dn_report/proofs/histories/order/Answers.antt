use Rattle.std.proofs.Common.{rules, map}
use Rattle.std.proofs.lemmas.List.Sorted.{IsPermutation-map, answers_always}
use Rattle.dn_callers.specs.Callers.{Standing as Stands}
use Rattle.dn_hist.specs.Receipt.{position_cmp}
use Rattle.dn_hist.specs.declared.receipts.Receipt.{Receipt}
use Rattle.dn_world.specs.Inside.{stands_as}
use Rattle.dn_world.specs.declared.worlds.Standing.{Standing}
use Rattle.dn_report.proofs.OrderLemmas.{sorted_map}
use Rattle.dn_report.proofs.histories.order.Goals as goal

pub returns-clause-permutation : goal.returns-clause-permutation
returns-clause-permutation c = IsPermutation-map stands_as c.args.history.now.items c.sort_unstable_by_key.new.self.items c.sort_unstable_by_key.ensures.permutation

pub returns-clause-order : goal.returns-clause-order
returns-clause-order c =
    let items = c.sort_unstable_by_key.new.self.items in
    sorted_map (λ (x : Stands). x.receipt) (λ (r : Receipt). r.position) position_cmp (map stands_as items)
    (sorted_map stands_as (λ (x : Stands). x.receipt.position) position_cmp items
    (c.sort_unstable_by_key.ensures.sorted (λ (x : Standing). x.receipt.position) (answers_always _ _ _ (λ f a r g k. search rules))))
