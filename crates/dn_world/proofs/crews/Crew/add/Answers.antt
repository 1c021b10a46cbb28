use Rattle.std.proofs.Common.{ℕ, ◌≡◌, ◌++◌, ◌∷◌, List, [], length, refl, ap, subst, sym, ◌∙◌}
use Rattle.dn_cluster.specs.Asks.{IsAddFault}
use Rattle.dn_cluster.specs.State.{ClusterState}
use Rattle.dn_outcomes.specs.Does.{adds}
use Rattle.dn_outcomes.specs.declared.outcomes.Outcome.TheVariants.{Added, LanesFull}
use Rattle.dn_world.specs.Comes.{Moves, bare}
use Rattle.dn_world.specs.Inside.{state_of}
use Rattle.dn_world.specs.State.{CrewState, world_of}
use Rattle.dn_world.proofs.Giving.{added, added_none}
use Rattle.dn_world.proofs.Changes.{stays_so}
use Rattle.dn_world.proofs.crews.Crew.add.Goals as goal

pub returns-in-Ok-clause-came : goal.returns-in-Ok-clause-came
returns-in-Ok-clause-came c words =
    let x : CrewState = state_of c.self.inside in
    let y : CrewState = record { cluster = c.add_lane.new.self; waiting = x.waiting; live = c.push_reserved.new.self.items } in
    subst (λ (z : CrewState). Moves words z words y (bare (Added c.in-Ok.lane)) adds) c.self.view_is (added words x y c.in-Ok.lane (record {
      number = c.in-Ok.ensures.value;
      does = c.in-Ok.ensures.does;
      segments = c.in-Ok.ensures.segments;
      lanes = c.in-Ok.ensures.lanes;
      room = c.in-Ok.ensures.room;
      waiting = refl;
      live = c.push_reserved.ensures.items ∙ ap (λ (ns : List ℕ). ns ++ c.in-Ok.lane ∷ []) c.in_ok-reserve.ensures.items;
    }))

pub returns-in-Err-Lanes-clause-came : goal.returns-in-Err-Lanes-clause-came
returns-in-Err-Lanes-clause-came c words =
    let x : CrewState = state_of c.self.inside in
    let same : record { cluster = c.add_lane.new.self; waiting = x.waiting; live = c.reserve.new.self.items } ≡ x =
    ap (λ (k : ClusterState). record { cluster = k; waiting = x.waiting; live = c.reserve.new.self.items }) c.in-Err-Lanes.ensures.same
    ∙ ap (λ (ns : List ℕ). record { cluster = x.cluster; waiting = x.waiting; live = ns }) c.in_ok-reserve.ensures.items in
    let full = subst (IsAddFault (length x.cluster.nodes)) c.in-Err-Lanes.field-0-is c.in-Err-Lanes.ensures.full in
    subst (λ (z : CrewState). Moves words z words (record { cluster = c.add_lane.new.self; waiting = x.waiting; live = c.reserve.new.self.items }) (bare LanesFull) adds) c.self.view_is
    (subst (λ (z : CrewState). Moves words x words z (bare LanesFull) adds) (sym same) (stays_so words x LanesFull adds (λ told receipts. added_none (world_of words x told receipts) full.1)))
