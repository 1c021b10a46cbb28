use Rattle.std.proofs.Common.{refl, subst}
use Rattle.dn_machine.specs.Events.{Drops}
use Rattle.dn_outcomes.specs.State.{with_event}
use Rattle.dn_world.specs.Comes.{Turns}
use Rattle.dn_world.specs.Inside.{state_of}
use Rattle.dn_world.specs.State.{CrewState}
use Rattle.dn_world.proofs.Changes.{clustered}
use Rattle.dn_world.proofs.crews.Crew.drop_order.Goals as goal

pub returns : goal.returns
returns c =
    let x : CrewState = state_of c.self.inside in
    let y : CrewState = record x { cluster = c.drop_order.new.self } in
    subst (λ (z : CrewState). Turns z y (λ w. with_event w Drops)) c.self.view_is
    (clustered x y Drops (record { does = c.drop_order.ensures.does; segments = c.drop_order.ensures.segments; lanes = c.drop_order.ensures.lanes; waiting = refl; live = refl }))
