use Rattle.std.proofs.Common.{rules, ℕ, ◌≡◌, List, map, length, refl, sym, subst, arith}
use Rattle.std.specs.Vec.{with_items}
use Rattle.dn_drain.specs.All.{AreMerged}
use Rattle.dn_drain.specs.declared.drains.Merged.{Merged}
use Rattle.dn_world.specs.Finishes.{Finishes, IsFinishFault}
use Rattle.dn_world.specs.Happens.{CanBeSound}
use Rattle.dn_world.specs.Inside.{stands_as, world_in}
use Rattle.dn_world.specs.State.{WorldState}
use Rattle.dn_world.specs.declared.finishes.FinishFault.{FinishFault}
use Rattle.dn_world.proofs.Finishing.{finished, faulted, drained_acted, filled, have_ended}
use Rattle.dn_world.proofs.worlds.World.finish.Goals as goal

pub returns-in-Ok-drain-clause-finishes : goal.returns-in-Ok-drain-clause-finishes
returns-in-Ok-drain-clause-finishes g c =
    let words : List ℕ = g.M.Memory.words c.args.mem.now in
    let now : List ℕ = g.M.Memory.words c.drain.new.mem in
    let w : WorldState = world_in c.self.inside in
    let v : WorldState = record { crew = c.drain.new.self; history = map stands_as c.self.inside.standing.items; ended = (with_items c.in-Ok.ended c.drain.new.ended).items } in
    subst (λ (x : WorldState). Finishes words x now v (length x.crew.cluster.nodes)) c.self.view_is
    (finished words w now v (length w.crew.cluster.nodes) (subst (λ (x : WorldState). CanBeSound words x) (sym c.self.view_is) c.requires.can)
    (record { segments = c.drain.ensures.segments; lanes = c.drain.ensures.lanes; waiting = c.drain.ensures.waiting; live = c.drain.ensures.live; history = refl })
    (omega arith) (drained_acted words w.crew.cluster (length w.crew.cluster.nodes) now v.crew.cluster c.in-Ok-drain.ensures.drained))

pub returns-in-Err-clause-fault : goal.returns-in-Err-clause-fault
returns-in-Err-clause-fault g c =
    let words : List ℕ = g.M.Memory.words c.args.mem.now in
    let now : List ℕ = g.M.Memory.words c.drain.new.mem in
    let w : WorldState = world_in c.self.inside in
    let v : WorldState = record { crew = c.drain.new.self; history = map stands_as c.self.inside.standing.items; ended = c.self.inside.ended.items } in
    subst (λ (x : WorldState). IsFinishFault words x now v c.fault_by.result) c.self.view_is
    (subst (λ (f : FinishFault). IsFinishFault words w now v f) (sym c.fault_by.ensures)
    (faulted words w now v c.in-Err.at (subst (λ (x : WorldState). CanBeSound words x) (sym c.self.view_is) c.requires.can)
    (record { segments = c.drain.ensures.segments; lanes = c.drain.ensures.lanes; waiting = c.drain.ensures.waiting; live = c.drain.ensures.live; history = refl })
    c.in-Err.ensures.fault c.in-Err.ensures.full))

pub returns-in-Ok-drain-clause-ended : goal.returns-in-Ok-drain-clause-ended
returns-in-Ok-drain-clause-ended g c =
    let now : List ℕ = g.M.Memory.words c.drain.new.mem in
    let n : ℕ = length c.args.self.now.crew.cluster.nodes in
    let ended : List Merged = (with_items c.in-Ok.ended c.drain.new.ended).items in
    let many : length c.drain.new.ended ≡ c.in-Ok.ended.len = omega (arith, c.drain.auto.ended, c.deref_mut.ensures.len) in
    let same : ended ≡ c.drain.new.ended = filled c.in-Ok.ended.len c.drain.new.ended c.in-Ok.ended.items many in
    have_ended now n ended
    (subst (λ (xs : List Merged). AreMerged now n xs) (sym same) (subst (λ (x : WorldState). AreMerged now (length x.crew.cluster.nodes) c.drain.new.ended) c.self.view_is c.in-Ok-drain.ensures.merged))
    (search rules)
