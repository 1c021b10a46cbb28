use Rattle.std.proofs.Common.{rules}
use Rattle.dn_tend.specs.declared.tasks.Task.TheVariants.{Release}
use Rattle.dn_cluster.proofs.Playing.{tended_by}
use Rattle.dn_cluster.proofs.tests.plays.Play.release.Goals as goal

pub invariant_of-self : goal.invariant_of-self
invariant_of-self g c = tended_by c.self.inside.pool.0 c.self.inside.cluster c.give_task.new.self c.args.lane (Release c.args.slot) c.give_task.result c.give_task.ensures.does c.give_task.ensures.free c.give_task.ensures.same c.give_task.ensures.segments (c.runs.ensures (search rules)).1 (search rules) c.self.invariant
