use Rattle.dn_world.proofs.Adding.{one_more_added}
use Rattle.dn_world.proofs.crews.Crew.add_lanes.Goals as goal

pub loop-added-preserved : goal.loop-added-preserved
loop-added-preserved c words =
    one_more_added words c.args.self.now c.loop-added.self c.add.new.self c.in_ok-add.field-0 c.loop-added.added (c.loop-added.invariant words) (c.in_ok-add.ensures.came words)
