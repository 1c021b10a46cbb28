use Rattle.std.proofs.Common.{rules, ◌≡◌, ℕ, false, length, sym, subst, arith}
use Rattle.dn_drain.proofs.Playing.{AreNotBelow, none_below, one_more_not, all_below}
use Rattle.dn_drain.proofs.tests.plays.has_call.Goals as goal

pub loop-at-init : goal.loop-at-init
loop-at-init c = none_below c.args.cluster.now c.args.session

pub loop-at-preserved : goal.loop-at-preserved
loop-at-preserved c =
    let not-it : c.is_calling.result ≡ false = search rules in
    one_more_not c.args.cluster.now c.args.session c.loop-at.at c.loop-at.invariant (c.is_calling.ensures not-it)

pub returns : goal.returns
returns c = λ _.
    let all : length c.args.cluster.now.nodes ≡ c.loop-at.at = omega (arith, c.lanes-at-end.ensures, c.loop-at-test.false, c.loop-at.auto.at-end) in
    all_below c.args.cluster.now c.args.session (subst (λ (k : ℕ). AreNotBelow c.args.cluster.now c.args.session k) (sym all) c.loop-at.invariant)
