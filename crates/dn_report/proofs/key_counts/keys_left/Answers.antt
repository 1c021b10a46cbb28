use Rattle.std.proofs.Common.{◌+◌, List, arith, refl, ap, sym, subst, drop, map, ◌∙◌}
use Rattle.std.proofs.lemmas.List.{at_drop_more}
use Rattle.std.specs.FinMap.{empty}
use Rattle.dn_callers.specs.Callers.{receipts_of}
use Rattle.dn_hist.specs.Calls.{Bytes, map_after}
use Rattle.dn_hist.specs.Replay.{map_from}
use Rattle.dn_world.specs.Inside.{stands_as}
use Rattle.dn_report.specs.Keys.{HasSameKeys}
use Rattle.dn_world.specs.declared.worlds.Standing.{Standing}
use Rattle.dn_report.proofs.KeyLemmas.{same_empty}
use Rattle.dn_report.proofs.key_counts.keys_left.Goals as goal

pub loop-standing-init : goal.loop-standing-init
loop-standing-init c = record {
  of = empty;
  left = refl;
  same = subst (λ (m : Bytes). HasSameKeys m empty) (sym c.new-map.ensures) same_empty;
}

pub loop-standing-preserved : goal.loop-standing-preserved
loop-standing-preserved c =
    let history = c.args.history.now in
    let i = c.loop-standing.standing-index in
    let x = c.standing-item.result in
    let of = c.loop-standing.invariant.of in
    record {
      of = map_after x.receipt.call of;
      left = ap (λ (y : Standing). map_from (map_after y.receipt.call of) (receipts_of (map stands_as (drop (i + 1) history)))) c.standing-item.is
          ∙ sym (at_drop_more (λ (xs : List Standing). map_from of (receipts_of (map stands_as xs))) history i x (omega (arith, c.loop-standing-test.true))) ∙ c.loop-standing.invariant.left;
      same = c.in_ok-apply_to_keys.ensures of c.loop-standing.invariant.same;
    }
