use Rattle.std.proofs.Common.{ℕ, ◌<◌, ◌≤◌, List, All, slice_index, sym, ◌∙◌, ap, subst}
use Rattle.std.specs.List.Sorted.{IsStrictlyIncreasing}
use Rattle.dn_ring.specs.Ring.{IsOwner}
use Rattle.dn_world.specs.State.{CrewState}
use Rattle.dn_world.proofs.Giving.{live_lanes}
use Rattle.dn_world.proofs.crews.Crew.grant_slots.Goals as goal

pub assign-lanes-requires-clause-rising : goal.assign-lanes-requires-clause-rising
assign-lanes-requires-clause-rising g c =
    subst IsStrictlyIncreasing (sym (c.deref.ensures.value ∙ ap (λ (z : CrewState). z.live) c.self.view_is)) c.requires.sound.live.rising

pub assign-lanes-requires-clause-lanes : goal.assign-lanes-requires-clause-lanes
assign-lanes-requires-clause-lanes g c =
    subst (All (λ (n : ℕ). (1 ≤ n) × (n < 64))) (sym (c.deref.ensures.value ∙ ap (λ (z : CrewState). z.live) c.self.view_is)) (live_lanes _ c.args.self.now.live c.requires.sound.made.most c.requires.sound.live)

pub grant_each-requires : goal.grant_each-requires
grant_each-requires g c = record {
  can = c.requires;
  owners = λ slot lt.
      let e = c.deref.ensures.value ∙ ap (λ (z : CrewState). z.live) c.self.view_is in
      subst (λ (live : List ℕ). IsOwner live slot (slice_index c.assign-lanes.result slot)) e (c.assign-lanes.ensures.owners (λ none. c.requires.some (sym e ∙ none)) slot lt);
}
