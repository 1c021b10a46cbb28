use Rattle.std.proofs.Common.{refl, subst}
use Rattle.dn_outcomes.specs.Going.{goes_on}
use Rattle.dn_world.specs.State.{CrewState}
use Rattle.dn_world.specs.Inside.{state_of}
use Rattle.dn_world.specs.Comes.{Turns}
use Rattle.dn_world.proofs.Going.{goes}
use Rattle.dn_world.proofs.crews.Crew.go_on.Goals as goal

pub returns-in-Load : goal.returns-in-Load
returns-in-Load c =
    let x : CrewState = state_of c.self.inside in
    let y : CrewState = record x { cluster = c.give_load.new.self } in
    subst (λ (z : CrewState). Turns z y (λ w. goes_on w c.args.session c.args.course)) c.self.view_is
    (goes x y c.args.session c.slot_at-slot.result c.args.course c.in-Load.is c.slot_at-slot.ensures.value (record {
      does = c.give_load.ensures.does;
      segments = c.give_load.ensures.segments;
      lanes = c.give_load.ensures.lanes;
      waiting = refl;
      live = refl;
    }))
