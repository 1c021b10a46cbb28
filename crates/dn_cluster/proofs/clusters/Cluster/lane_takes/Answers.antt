use Rattle.std.proofs.Common.{Some, None, slice_get, refl, sym, ◌∙◌, ap, subst}
use Rattle.dn_lane.specs.CallCauses.{CallCause}
use Rattle.dn_cluster.specs.State.{ClusterState}
use Rattle.dn_cluster.specs.Asks.{TakesAt}
use Rattle.dn_cluster.specs.Changed.{with_node, made_at, answered_in}
use Rattle.dn_cluster.specs.Inside.{state_of}
use Rattle.dn_cluster.specs.declared.nodes.Node.{Node}
use Rattle.dn_cluster.proofs.Events.{left_node}
use Rattle.dn_cluster.proofs.Kept.{node_kept, node_takes}
use Rattle.dn_cluster.proofs.Takes.{HasTaken, its_node, has_taken, taken_turn, taken_session, taken_stamp, taken_after}
use Rattle.dn_cluster.proofs.clusters.Cluster.lane_takes.Goals as goal

pub invariant_of-self : goal.invariant_of-self
invariant_of-self c =
    let at : ClusterState = state_of c.self.inside in
    let h : HasTaken at c.args.at c.args.word c.index_mut.result.now c.take-turn.new.self c.take-turn.result =
    has_taken at c.args.at c.args.word c.index_mut.result.now c.take-turn.new.self c.take-turn.result
    (subst (λ (x : ClusterState). TakesAt x c.args.at c.args.word) (sym c.self.view_is) c.requires) c.index_mut.ensures.value c.take-turn.ensures.turn c.take-turn.ensures.lane in
    node_kept at c.args.at (record c.index_mut.result.now { lane = c.take-turn.new.self }) c.self.invariant
    (node_takes at.segments c.args.at c.index_mut.result.now c.take-turn.new.self c.args.word (c.self.invariant.nodes c.args.at c.index_mut.result.now h.is) c.take-turn.ensures.lane c.take-turn.ensures.same)

pub invariant_of-self-in_default : goal.invariant_of-self-in_default
invariant_of-self-in_default c =
    let at : ClusterState = state_of c.self.inside in
    let h : HasTaken at c.args.at c.args.word c.index_mut.result.now c.take-turn.new.self c.take-turn.result =
    has_taken at c.args.at c.args.word c.index_mut.result.now c.take-turn.new.self c.take-turn.result
    (subst (λ (x : ClusterState). TakesAt x c.args.at c.args.word) (sym c.self.view_is) c.requires) c.index_mut.ensures.value c.take-turn.ensures.turn c.take-turn.ensures.lane in
    node_kept at c.args.at (record c.index_mut.result.now { lane = c.take-turn.new.self }) c.self.invariant
    (node_takes at.segments c.args.at c.index_mut.result.now c.take-turn.new.self c.args.word (c.self.invariant.nodes c.args.at c.index_mut.result.now h.is) c.take-turn.ensures.lane c.take-turn.ensures.same)

pub hear-requires-clause-session : goal.hear-requires-clause-session
hear-requires-clause-session c =
    let at : ClusterState = state_of c.self.inside in
    let h : HasTaken at c.args.at c.args.word c.index_mut.result.now c.take-turn.new.self c.take-turn.result =
    has_taken at c.args.at c.args.word c.index_mut.result.now c.take-turn.new.self c.take-turn.result
    (subst (λ (x : ClusterState). TakesAt x c.args.at c.args.word) (sym c.self.view_is) c.requires) c.index_mut.ensures.value c.take-turn.ensures.turn c.take-turn.ensures.lane in
    taken_session at c.args.at c.args.word c.index_mut.result.now c.take-turn.new.self c.take-turn.result h c.in-Some.position (sym c.made_at.ensures ∙ c.in-Some.is)

pub hear-requires-clause-stamp : goal.hear-requires-clause-stamp
hear-requires-clause-stamp c =
    let at : ClusterState = state_of c.self.inside in
    let h : HasTaken at c.args.at c.args.word c.index_mut.result.now c.take-turn.new.self c.take-turn.result =
    has_taken at c.args.at c.args.word c.index_mut.result.now c.take-turn.new.self c.take-turn.result
    (subst (λ (x : ClusterState). TakesAt x c.args.at c.args.word) (sym c.self.view_is) c.requires) c.index_mut.ensures.value c.take-turn.ensures.turn c.take-turn.ensures.lane in
    taken_stamp at c.args.at c.args.word c.index_mut.result.now c.take-turn.new.self c.take-turn.result h c.in-Some.position (sym c.made_at.ensures ∙ c.in-Some.is)

pub returns-in-Some-clause-turn : goal.returns-in-Some-clause-turn
returns-in-Some-clause-turn c = λ x e.
    let at : ClusterState = state_of c.self.inside in
    let h : HasTaken at c.args.at c.args.word c.index_mut.result.now c.take-turn.new.self c.take-turn.result =
    has_taken at c.args.at c.args.word c.index_mut.result.now c.take-turn.new.self c.take-turn.result
    (subst (λ (x : ClusterState). TakesAt x c.args.at c.args.word) (sym c.self.view_is) c.requires) c.index_mut.ensures.value c.take-turn.ensures.turn c.take-turn.ensures.lane in
    taken_turn at c.args.at c.args.word c.index_mut.result.now c.take-turn.new.self c.take-turn.result h x (ap (λ (y : ClusterState). slice_get y.nodes c.args.at) c.self.view_is ∙ e)

pub returns-in-Some-clause-after : goal.returns-in-Some-clause-after
returns-in-Some-clause-after c = λ x e.
    let at : ClusterState = state_of c.self.inside in
    let h : HasTaken at c.args.at c.args.word c.index_mut.result.now c.take-turn.new.self c.take-turn.result =
    has_taken at c.args.at c.args.word c.index_mut.result.now c.take-turn.new.self c.take-turn.result
    (subst (λ (x : ClusterState). TakesAt x c.args.at c.args.word) (sym c.self.view_is) c.requires) c.index_mut.ensures.value c.take-turn.ensures.turn c.take-turn.ensures.lane in
    taken_after at c.hear.new.self c.args.at c.args.word c.index_mut.result.now c.take-turn.new.self c.take-turn.result (Some c.in-Some.position) h (sym c.made_at.ensures ∙ c.in-Some.is) c.hear.ensures.after x (ap (λ (y : ClusterState). slice_get y.nodes c.args.at) c.self.view_is ∙ e)
    ∙ ap (λ (y : ClusterState). answered_in (with_node y c.args.at (left_node x c.args.word)) (made_at c.take-turn.result)) c.self.view_is

pub returns-in_default-clause-turn : goal.returns-in_default-clause-turn
returns-in_default-clause-turn c = λ x e.
    let at : ClusterState = state_of c.self.inside in
    let h : HasTaken at c.args.at c.args.word c.index_mut.result.now c.take-turn.new.self c.take-turn.result =
    has_taken at c.args.at c.args.word c.index_mut.result.now c.take-turn.new.self c.take-turn.result
    (subst (λ (x : ClusterState). TakesAt x c.args.at c.args.word) (sym c.self.view_is) c.requires) c.index_mut.ensures.value c.take-turn.ensures.turn c.take-turn.ensures.lane in
    taken_turn at c.args.at c.args.word c.index_mut.result.now c.take-turn.new.self c.take-turn.result h x (ap (λ (y : ClusterState). slice_get y.nodes c.args.at) c.self.view_is ∙ e)

pub returns-in_default-clause-after : goal.returns-in_default-clause-after
returns-in_default-clause-after c = λ x e.
    let at : ClusterState = state_of c.self.inside in
    let h : HasTaken at c.args.at c.args.word c.index_mut.result.now c.take-turn.new.self c.take-turn.result =
    has_taken at c.args.at c.args.word c.index_mut.result.now c.take-turn.new.self c.take-turn.result
    (subst (λ (x : ClusterState). TakesAt x c.args.at c.args.word) (sym c.self.view_is) c.requires) c.index_mut.ensures.value c.take-turn.ensures.turn c.take-turn.ensures.lane in
    taken_after at (with_node at c.args.at (record c.index_mut.result.now { lane = c.take-turn.new.self })) c.args.at c.args.word c.index_mut.result.now c.take-turn.new.self c.take-turn.result None h (sym c.made_at.ensures ∙ c.in_default.is) refl x (ap (λ (y : ClusterState). slice_get y.nodes c.args.at) c.self.view_is ∙ e)
    ∙ ap (λ (y : ClusterState). answered_in (with_node y c.args.at (left_node x c.args.word)) (made_at c.take-turn.result)) c.self.view_is

pub returns-in-Some-clause-cause : goal.returns-in-Some-clause-cause
returns-in-Some-clause-cause c = λ x answer e t.
    let at : ClusterState = state_of c.self.inside in
    let h : HasTaken at c.args.at c.args.word c.index_mut.result.now c.take-turn.new.self c.take-turn.result =
    has_taken at c.args.at c.args.word c.index_mut.result.now c.take-turn.new.self c.take-turn.result
    (subst (λ (x : ClusterState). TakesAt x c.args.at c.args.word) (sym c.self.view_is) c.requires) c.index_mut.ensures.value c.take-turn.ensures.turn c.take-turn.ensures.lane in
    subst (λ (y : Node). CallCause y.lane c.args.word answer)
    (its_node at c.args.at c.args.word c.index_mut.result.now c.take-turn.new.self c.take-turn.result h x (ap (λ (y : ClusterState). slice_get y.nodes c.args.at) c.self.view_is ∙ e))
    (c.take-turn.ensures.cause answer t)

pub returns-in_default-clause-cause : goal.returns-in_default-clause-cause
returns-in_default-clause-cause c = λ x answer e t.
    let at : ClusterState = state_of c.self.inside in
    let h : HasTaken at c.args.at c.args.word c.index_mut.result.now c.take-turn.new.self c.take-turn.result =
    has_taken at c.args.at c.args.word c.index_mut.result.now c.take-turn.new.self c.take-turn.result
    (subst (λ (x : ClusterState). TakesAt x c.args.at c.args.word) (sym c.self.view_is) c.requires) c.index_mut.ensures.value c.take-turn.ensures.turn c.take-turn.ensures.lane in
    subst (λ (y : Node). CallCause y.lane c.args.word answer)
    (its_node at c.args.at c.args.word c.index_mut.result.now c.take-turn.new.self c.take-turn.result h x (ap (λ (y : ClusterState). slice_get y.nodes c.args.at) c.self.view_is ∙ e))
    (c.take-turn.ensures.cause answer t)
