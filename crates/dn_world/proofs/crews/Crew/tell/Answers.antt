use Rattle.std.proofs.Common.{◌≡◌, true, refl, ap, subst, sym, ◌∙◌}
use Rattle.dn_route.specs.SessionState.{SessionState}
use Rattle.dn_cluster.specs.Machine.{closed_in}
use Rattle.dn_cluster.specs.State.{numbered}
use Rattle.dn_outcomes.specs.Does.{tells}
use Rattle.dn_outcomes.specs.declared.outcomes.Outcome.TheVariants.{Acted}
use Rattle.dn_world.specs.Comes.{Moves, bare}
use Rattle.dn_world.specs.Inside.{state_of}
use Rattle.dn_world.specs.State.{CrewState, world_of}
use Rattle.dn_world.proofs.Giving.{told_so, told_none}
use Rattle.dn_world.proofs.Changes.{stays_so}
use Rattle.dn_world.proofs.crews.Crew.tell.Goals as goal

pub returns-then-is_closed : goal.returns-then-is_closed
returns-then-is_closed c = record {
  came = λ words. stays_so words c.args.self.now Acted (λ w. tells w c.args.from c.args.to)
      (λ told receipts. told_none (world_of words c.args.self.now told receipts) c.args.from c.args.to
      (subst (λ (z : CrewState). closed_in (numbered z.cluster.clients c.args.to) ≡ true) c.self.view_is (sym c.is_closed.ensures ∙ c.if-is_closed.true)));
  done = refl;
}

pub returns : goal.returns
returns c =
    let x : CrewState = state_of c.self.inside in
    let y : CrewState = record x { cluster = c.tell.new.self } in
    record {
      came = λ words. subst (λ (z : CrewState). Moves words z words y (bare Acted) (λ w. tells w c.args.from c.args.to)) c.self.view_is
          (told_so words x c.tell.new.self c.args.from c.args.to c.last-position.result c.tell.ensures.told c.tell.ensures.segments c.tell.ensures.lanes
          (c.last-position.ensures ∙ ap (λ (z : SessionState). z.last) c.session.ensures.value) (sym c.is_closed.ensures ∙ c.if-is_closed.false));
      done = refl;
    }
