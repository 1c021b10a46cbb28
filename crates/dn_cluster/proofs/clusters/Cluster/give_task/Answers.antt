use Rattle.std.proofs.Common.{ℕ, ◌-◌, Option, IfErr, sym, ◌∙◌, ap, subst, arith}
use Rattle.std.proofs.lemmas.Result.{on_ok_weaker}
use Rattle.dn_lane.specs.State.{LaneState}
use Rattle.dn_lane.specs.declared.answers.Refuse.{Refuse}
use Rattle.dn_cluster.specs.State.{ClusterState}
use Rattle.dn_cluster.specs.Machine.{IsMade, Runs}
use Rattle.dn_cluster.specs.Inside.{state_of, IsNode}
use Rattle.dn_cluster.specs.Asks.{RunsAt, refused_in, refused_by}
use Rattle.dn_cluster.specs.Changed.{with_node}
use Rattle.dn_cluster.proofs.Kept.{node_kept, node_tends}
use Rattle.dn_cluster.proofs.Places.{HasNode, read_node, read_running, runs_is, made_by}
use Rattle.dn_lane.specs.Refused.{Refuses}
use Rattle.dn_machine.specs.Events.{Tends}
use Rattle.dn_cluster.proofs.Giving.{from, tends_so}
use Rattle.dn_cluster.proofs.clusters.Cluster.give_task.Goals as goal

pub invariant_of-self : goal.invariant_of-self
invariant_of-self c =
    let at : ClusterState = state_of c.self.inside in
    let n : ℕ = c.args.lane in
    let j : ℕ = c.from.result - 1 in
    let runs : Runs at n = subst (λ (x : ClusterState). Runs x n) (sym c.self.view_is) c.requires.runs in
    let made : IsMade at n = made_by at n runs in
    let h : HasNode at n j = read_node at n j c.index_mut.result.now (omega (arith, made.0, c.from.ensures)) made.1 c.index_mut.ensures.value in
    let was : IsNode at.segments j h.node = c.self.invariant.nodes j h.node h.is in
    node_kept at j (record h.node { lane = c.begin_task.new.self }) c.self.invariant (node_tends c.begin_task.result at.segments j h.node c.begin_task.new.self c.args.task was c.begin_task.ensures.ok c.begin_task.ensures.same)

pub returns-clause-does : goal.returns-clause-does
returns-clause-does c =
    let at : ClusterState = state_of c.self.inside in
    let n : ℕ = c.args.lane in
    let j : ℕ = c.from.result - 1 in
    let runs : Runs at n = subst (λ (x : ClusterState). Runs x n) (sym c.self.view_is) c.requires.runs in
    let made : IsMade at n = made_by at n runs in
    let h : HasNode at n j = read_node at n j c.index_mut.result.now (omega (arith, made.0, c.from.ensures)) made.1 c.index_mut.ensures.value in
    let r : RunsAt at n j = read_running at n j h runs in
    on_ok_weaker c.begin_task.result (λ e. from at _ _ (Tends c.args.lane c.args.task) c.self.view_is (tends_so at _ n j r c.args.task
    (ap (λ (x : LaneState). with_node at j (record h.node { lane = x })) e))) c.begin_task.ensures.ok

pub returns-clause-free : goal.returns-clause-free
returns-clause-free c =
    let at : ClusterState = state_of c.self.inside in
    let n : ℕ = c.args.lane in
    let j : ℕ = c.from.result - 1 in
    let runs : Runs at n = subst (λ (x : ClusterState). Runs x n) (sym c.self.view_is) c.requires.runs in
    let made : IsMade at n = made_by at n runs in
    let h : HasNode at n j = read_node at n j c.index_mut.result.now (omega (arith, made.0, c.from.ensures)) made.1 c.index_mut.ensures.value in
    let r : RunsAt at n j = read_running at n j h runs in
    on_ok_weaker c.begin_task.result (λ e. ap (λ (x : ClusterState). refused_in x n) (sym c.self.view_is) ∙ ap refused_by (runs_is at n j r) ∙ e) c.begin_task.ensures.free

pub returns-clause-cause : goal.returns-clause-cause
returns-clause-cause c =
    let at : ClusterState = state_of c.self.inside in
    let n : ℕ = c.args.lane in
    let j : ℕ = c.from.result - 1 in
    let runs : Runs at n = subst (λ (x : ClusterState). Runs x n) (sym c.self.view_is) c.requires.runs in
    let made : IsMade at n = made_by at n runs in
    let h : HasNode at n j = read_node at n j c.index_mut.result.now (omega (arith, made.0, c.from.ensures)) made.1 c.index_mut.ensures.value in
    let r : RunsAt at n j = read_running at n j h runs in
    subst (λ (o : Option Refuse). IfErr c.begin_task.result (Refuses o)) (sym (ap (λ (x : ClusterState). refused_in x n) (sym c.self.view_is) ∙ ap refused_by (runs_is at n j r))) c.begin_task.ensures.cause
