use Rattle.dn_drain.proofs.Playing.{added_by}
use Rattle.dn_drain.proofs.tests.plays.Play.add_lane.Goals as goal

pub invariant_of-self : goal.invariant_of-self
invariant_of-self g c = added_by c.self.inside.pool.words c.self.inside.cluster c.add_lane.new.self c.add_lane.result c.add_lane.ensures.value c.add_lane.ensures.room c.add_lane.ensures.does c.add_lane.ensures.same c.add_lane.ensures.segments c.self.invariant
