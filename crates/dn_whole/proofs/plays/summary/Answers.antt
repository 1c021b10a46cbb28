use Rattle.std.proofs.Common.{ℕ, List, ◌++◌, length, map, subst, ap, ◌∙◌}
use Rattle.std.specs.List.Sorted.{IsPermutation}
use Rattle.dn_callers.specs.Callers.{Standing}
use Rattle.dn_run.specs.Output.{history_text, lanes_text}
use Rattle.dn_world.specs.Inside.{stands_as}
use Rattle.dn_world.specs.State.{WorldState, world_of}
use Rattle.dn_world.specs.declared.worlds.Standing.{Standing as Held}
use Rattle.dn_whole.specs.Close.{Reports}
use Rattle.dn_play.proofs.Printed.{on_ok}
use Rattle.dn_whole.proofs.Closing.{keys, reports_of}
use Rattle.dn_whole.proofs.plays.summary.Goals as goal

pub returns : goal.returns
returns c words told ended =
    let w : WorldState = c.args.world in
    let hs : List Standing = map stands_as c.order.new.history.items in
    let all : List ℕ = lanes_text (world_of words w.crew told w.history) words (length w.crew.cluster.nodes) in
    on_ok {Q = Reports words told w c.args.counts c.args.waiting c.args.out.now.items c.counted.new.out.items} c.counted.result (λ last.
    reports_of words told w c.args.counts c.args.waiting c.in_ok-keys.keys c.args.out.now.items c.history_lines.new.out.items c.extend_from_slice.new.self.items c.counted.new.out.items c.lanes.new.out.items hs
    (subst (λ (xs : List Standing). IsPermutation xs hs) c.into_history-history.ensures c.order.ensures.permutation) c.order.ensures.order
    (c.in_ok-lanes.ensures words told ended ∙ ap (λ (xs : List ℕ). xs ++ all) c.new-tail.ensures.items)
    (c.in_ok-history_lines.ensures ∙ ap (λ (xs : List Held). c.args.out.now.items ++ history_text (map stands_as xs)) c.deref.ensures.value)
    (c.in_ok-extend_from_slice.ensures.items ∙ ap (λ (xs : List ℕ). c.history_lines.new.out.items ++ xs) c.deref-2.ensures.value)
    (c.in_ok-keys.ensures ∙ ap (λ (xs : List Held). keys (map stands_as xs)) c.deref-3.ensures.value) last) c.counted.ensures
