use Rattle.std.proofs.Common.{length, ◌≡◌, Option, Some, None, refl, sym, ◌∙◌, ap}
use Rattle.std.proofs.lemmas.List.{length-set}
use Rattle.std.proofs.lemmas.Option.{slice_get_within}
use Rattle.dn_log.specs.Staged.{flow_of}
use Rattle.dn_lane.specs.State.{LaneState}
use Rattle.dn_cluster.specs.State.{ClusterState}
use Rattle.dn_cluster.specs.Acting.{is_nothing, flow_answer, flow_found}
use Rattle.dn_cluster.specs.Asks.{RunsAt}
use Rattle.dn_cluster.specs.Inside.{state_of}
use Rattle.dn_cluster.proofs.Found.{lane_within}
use Rattle.dn_cluster.proofs.OtherEvents.{flowed_node, lane_flows_so, flow_rests, flow_idles, flow_fails_so}
use Rattle.dn_cluster.proofs.Places.{runs_is, now_running}
use Rattle.dn_cluster.proofs.clusters.Cluster.flow.Goals as goal

pub returns-in_default-clause-event : goal.returns-in_default-clause-event
returns-in_default-clause-event g c = λ _. flow_rests (g.M.Memory.words c.args.mem.now) c.args.self.now c.args.lane c.args.index (c.in_default.ensures.none refl)

pub returns-in_default-clause-answer : goal.returns-in_default-clause-answer
returns-in_default-clause-answer g c = λ _. ap (λ (o : Option LaneState). flow_answer o c.args.index) (sym (c.in_default.ensures.none refl))

pub returns-in_default-flow-clause-answer : goal.returns-in_default-flow-clause-answer
returns-in_default-flow-clause-answer g c = λ _.
    let b : ClusterState = state_of c.self.inside in
    let r : RunsAt c.args.self.now c.args.lane c.in-Some.at = now_running b c.args.self.now c.args.lane c.in-Some.at c.in-Some.ensures.some c.index.result.now c.self.view_is c.index.ensures in
    let none : flow_of c.index.result.now.lane.base.staging c.args.index ≡ None = sym c.flow.ensures.value ∙ c.in_default-flow.is in
    sym (ap (λ (o : Option LaneState). flow_answer o c.args.index) (runs_is c.args.self.now c.args.lane c.in-Some.at r) ∙ ap flow_found none)

pub returns-in_default-flow-clause-event : goal.returns-in_default-flow-clause-event
returns-in_default-flow-clause-event g c = λ _.
    let b : ClusterState = state_of c.self.inside in
    let r : RunsAt c.args.self.now c.args.lane c.in-Some.at = now_running b c.args.self.now c.args.lane c.in-Some.at c.in-Some.ensures.some c.index.result.now c.self.view_is c.index.ensures in
    let none : flow_of c.index.result.now.lane.base.staging c.args.index ≡ None = sym c.flow.ensures.value ∙ c.in_default-flow.is in
    flow_idles (g.M.Memory.words c.args.mem.now) c.args.self.now c.args.lane c.in-Some.at c.args.index r none

pub exec-requires : goal.exec-requires
exec-requires g c =
    let b : ClusterState = state_of c.self.inside in
    let r : RunsAt c.args.self.now c.args.lane c.in-Some.at = now_running b c.args.self.now c.args.lane c.in-Some.at c.in-Some.ensures.some c.index.result.now c.self.view_is c.index.ensures in
    lane_within (g.M.Memory.words c.args.mem.now) b c.args.self.now c.in-Some.at c.index.result.now c.in-Some-flow.action c.requires c.self.view_is c.self.invariant r.is c.in-Some-flow.ensures.within

pub lane_flows-requires : goal.lane_flows-requires
lane_flows-requires g c =
    let b : ClusterState = state_of c.self.inside in
    let r : RunsAt c.args.self.now c.args.lane c.in-Some.at = now_running b c.args.self.now c.args.lane c.in-Some.at c.in-Some.ensures.some c.index.result.now c.self.view_is c.index.ensures in
    slice_get_within c.args.self.now.nodes c.in-Some.at r.node r.is

pub returns-in-Ok-clause-answer : goal.returns-in-Ok-clause-answer
returns-in-Ok-clause-answer g c = λ _.
    let b : ClusterState = state_of c.self.inside in
    let r : RunsAt c.args.self.now c.args.lane c.in-Some.at = now_running b c.args.self.now c.args.lane c.in-Some.at c.in-Some.ensures.some c.index.result.now c.self.view_is c.index.ensures in
    let flow : flow_of c.index.result.now.lane.base.staging c.args.index ≡ Some c.in-Some-flow.action = sym c.flow.ensures.value ∙ c.in-Some-flow.is in
    sym (ap (λ (o : Option LaneState). flow_answer o c.args.index) (runs_is c.args.self.now c.args.lane c.in-Some.at r) ∙ ap flow_found flow)

pub returns-in-Ok-clause-event : goal.returns-in-Ok-clause-event
returns-in-Ok-clause-event g c = λ _.
    let b : ClusterState = state_of c.self.inside in
    let r : RunsAt c.args.self.now c.args.lane c.in-Some.at = now_running b c.args.self.now c.args.lane c.in-Some.at c.in-Some.ensures.some c.index.result.now c.self.view_is c.index.ensures in
    let flow : flow_of c.index.result.now.lane.base.staging c.args.index ≡ Some c.in-Some-flow.action = sym c.flow.ensures.value ∙ c.in-Some-flow.is in
    let after = c.lane_flows.ensures c.index.result.now r.is in
    lane_flows_so (g.M.Memory.words c.args.mem.now) (g.M.Memory.words c.exec.new.mem) c.args.self.now c.lane_flows.new.self c.args.lane c.in-Some.at c.args.index c.in-Ok.field-0 c.in-Some-flow.action r flow c.in-Ok.ensures.ok after (ap (λ (x : ClusterState). x.segments) after)

pub returns-in-Ok-clause-segments : goal.returns-in-Ok-clause-segments
returns-in-Ok-clause-segments g c =
    let b : ClusterState = state_of c.self.inside in
    let r : RunsAt c.args.self.now c.args.lane c.in-Some.at = now_running b c.args.self.now c.args.lane c.in-Some.at c.in-Some.ensures.some c.index.result.now c.self.view_is c.index.ensures in
    ap (λ (x : ClusterState). x.segments) (c.lane_flows.ensures c.index.result.now r.is)

pub returns-in-Err-clause-fails : goal.returns-in-Err-clause-fails
returns-in-Err-clause-fails g c = λ _.
    let b : ClusterState = state_of c.self.inside in
    let r : RunsAt c.args.self.now c.args.lane c.in-Some.at = now_running b c.args.self.now c.args.lane c.in-Some.at c.in-Some.ensures.some c.index.result.now c.self.view_is c.index.ensures in
    let flow : flow_of c.index.result.now.lane.base.staging c.args.index ≡ Some c.in-Some-flow.action = sym c.flow.ensures.value ∙ c.in-Some-flow.is in
    flow_fails_so (g.M.Memory.words c.args.mem.now) (g.M.Memory.words c.exec.new.mem) c.args.self.now c.args.lane c.in-Some.at c.args.index c.in-Some-flow.action r flow c.in-Err.ensures.failed

pub returns-in-Err-clause-next : goal.returns-in-Err-clause-next
returns-in-Err-clause-next g c = λ _.
    let b : ClusterState = state_of c.self.inside in
    let r : RunsAt c.args.self.now c.args.lane c.in-Some.at = now_running b c.args.self.now c.args.lane c.in-Some.at c.in-Some.ensures.some c.index.result.now c.self.view_is c.index.ensures in
    let flow : flow_of c.index.result.now.lane.base.staging c.args.index ≡ Some c.in-Some-flow.action = sym c.flow.ensures.value ∙ c.in-Some-flow.is in
    ap is_nothing (ap (λ (o : Option LaneState). flow_answer o c.args.index) (runs_is c.args.self.now c.args.lane c.in-Some.at r) ∙ ap flow_found flow)

pub returns-in-Ok-clause-lanes : goal.returns-in-Ok-clause-lanes
returns-in-Ok-clause-lanes g c =
    let b : ClusterState = state_of c.self.inside in
    let r : RunsAt c.args.self.now c.args.lane c.in-Some.at = now_running b c.args.self.now c.args.lane c.in-Some.at c.in-Some.ensures.some c.index.result.now c.self.view_is c.index.ensures in
    ap (λ (x : ClusterState). length x.nodes) (c.lane_flows.ensures c.index.result.now r.is) ∙ length-set c.args.self.now.nodes c.in-Some.at (flowed_node c.index.result.now c.args.index)
