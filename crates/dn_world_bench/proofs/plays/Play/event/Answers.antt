use Rattle.dn_world.proofs.Playing.{played}
use Rattle.dn_world_bench.proofs.plays.Play.event.Goals as goal

-- an event keeps a world that can be sound, and want of memory leaves it
pub invariant_of-self : goal.invariant_of-self
invariant_of-self c = played _ _ _ _ _ _ c.event.ensures.happens c.event.ensures.count c.event.ensures.same c.event.ensures.words c.self.invariant
