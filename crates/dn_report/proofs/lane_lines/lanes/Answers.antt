use Rattle.std.proofs.Common.{◌≡◌, ◌+◌, ap, length, ◌∙◌, arith}
use Rattle.dn_cluster.specs.State.{ClusterState}
use Rattle.dn_world.specs.State.{world_of}
use Rattle.dn_report.proofs.LaneLemmas.{one_more}
use Rattle.dn_report.proofs.lane_lines.lanes.Goals as goal

pub loop-number-preserved : goal.loop-number-preserved
loop-number-preserved c words told ended =
    let world = c.args.world.now in
    let n = c.loop-number.number in
    let made : c.lanes-number-end.result ≡ length world.crew.cluster.nodes = c.lanes-number-end.ensures ∙ ap (λ (x : ClusterState). length x.nodes) c.cluster.ensures in
    one_more c.args.out.now.items c.loop-number.out.items c.lane.new.out.items (world_of words world.crew told world.history) words n
    (c.loop-number.invariant words told ended)
    (c.in_ok-lane.ensures words told (ended.each (n + 1) (omega arith) (omega (arith, c.loop-number-test.true, made))))
