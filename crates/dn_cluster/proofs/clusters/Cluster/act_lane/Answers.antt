use Rattle.std.proofs.Common.{ℕ, ◌≡◌, length, slice_get, Option, Some, None, sym, ◌∙◌, ap, subst}
use Rattle.std.proofs.lemmas.Option.{none-some, same_Some}
use Rattle.dn_act.specs.declared.actions.Action.{Action}
use Rattle.dn_cluster.specs.State.{ClusterState}
use Rattle.dn_cluster.specs.Inside.{state_of, IsNode}
use Rattle.dn_lane.specs.Next.{next_of}
use Rattle.dn_lane.specs.State.{LaneState}
use Rattle.dn_lane.specs.Turns.{turn_of}
use Rattle.dn_lane.specs.declared.answers.Answer.TheVariants.{NotOwner}
use Rattle.dn_lane.specs.declared.answers.Turn.{Turn}
use Rattle.dn_lane.specs.declared.answers.Turn.TheVariants.{Done}
use Rattle.dn_cluster.specs.Acting.{is_nothing, lane_answer, lane_found, IsNoOwner}
use Rattle.dn_cluster.specs.Asks.{RunsAt, TakesAt}
use Rattle.dn_cluster.specs.Changed.{made_at}
use Rattle.dn_cluster.specs.declared.actors.Acted.{Acted}
use Rattle.dn_cluster.specs.declared.actors.Acted.TheVariants as acted
use Rattle.dn_cluster.proofs.Events.{left_node, lane_acts, lane_idles}
use Rattle.dn_cluster.proofs.Found.{takes, made_of, lane_within, no_owner, turn_in}
use Rattle.dn_cluster.proofs.OtherEvents.{lane_fails_so}
use Rattle.dn_cluster.proofs.Places.{runs_is, now_running}
use Rattle.dn_cluster.proofs.Takes.{taken_segments, taken_lanes}
use Rattle.dn_cluster.proofs.clusters.Cluster.act_lane.Goals as goal

pub returns-in_default-next-clause-answer : goal.returns-in_default-next-clause-answer
returns-in_default-next-clause-answer g c = λ _.
    let b : ClusterState = state_of c.self.inside in
    let r : RunsAt c.args.self.now c.args.lane c.in-Some.at = now_running b c.args.self.now c.args.lane c.in-Some.at c.in-Some.ensures.some c.index.result.now c.self.view_is c.index.ensures in
    let none : next_of c.index.result.now.lane ≡ None = sym c.next.ensures.value ∙ c.in_default-next.is in
    sym (ap (λ (o : Option LaneState). lane_answer (g.M.Memory.words c.args.mem.now) o) (runs_is c.args.self.now c.args.lane c.in-Some.at r)
    ∙ ap (λ (o : Option Action). lane_found (g.M.Memory.words c.args.mem.now) c.index.result.now.lane o) none)

pub returns-in_default-next-clause-event : goal.returns-in_default-next-clause-event
returns-in_default-next-clause-event g c = λ _.
    let b : ClusterState = state_of c.self.inside in
    let r : RunsAt c.args.self.now c.args.lane c.in-Some.at = now_running b c.args.self.now c.args.lane c.in-Some.at c.in-Some.ensures.some c.index.result.now c.self.view_is c.index.ensures in
    let none : next_of c.index.result.now.lane ≡ None = sym c.next.ensures.value ∙ c.in_default-next.is in
    lane_idles (g.M.Memory.words c.args.mem.now) c.args.self.now c.args.lane c.in-Some.at r none

pub exec-requires : goal.exec-requires
exec-requires g c =
    let b : ClusterState = state_of c.self.inside in
    let r : RunsAt c.args.self.now c.args.lane c.in-Some.at = now_running b c.args.self.now c.args.lane c.in-Some.at c.in-Some.ensures.some c.index.result.now c.self.view_is c.index.ensures in
    lane_within (g.M.Memory.words c.args.mem.now) b c.args.self.now c.in-Some.at c.index.result.now c.in-Some-next.action c.requires c.self.view_is c.self.invariant r.is c.in-Some-next.ensures.within

pub lane_takes-requires : goal.lane_takes-requires
lane_takes-requires g c =
    let b : ClusterState = state_of c.self.inside in
    let r : RunsAt c.args.self.now c.args.lane c.in-Some.at = now_running b c.args.self.now c.args.lane c.in-Some.at c.in-Some.ensures.some c.index.result.now c.self.view_is c.index.ensures in
    let next : next_of c.index.result.now.lane ≡ Some c.in-Some-next.action = sym c.next.ensures.value ∙ c.in-Some-next.is in
    subst (λ (w : ℕ). TakesAt c.args.self.now c.in-Some.at w) (sym c.in-Ok.ensures.ok.answer)
    (takes (g.M.Memory.words c.args.mem.now) c.args.self.now c.args.lane c.in-Some.at c.in-Some-next.action c.requires r next)

pub returns-in-Ok-clause-answer : goal.returns-in-Ok-clause-answer
returns-in-Ok-clause-answer g c = λ _.
    let b : ClusterState = state_of c.self.inside in
    let r : RunsAt c.args.self.now c.args.lane c.in-Some.at = now_running b c.args.self.now c.args.lane c.in-Some.at c.in-Some.ensures.some c.index.result.now c.self.view_is c.index.ensures in
    let next : next_of c.index.result.now.lane ≡ Some c.in-Some-next.action = sym c.next.ensures.value ∙ c.in-Some-next.is in
    ap (λ (t : Turn). let x : Acted = acted.Lane t in x) (c.lane_takes.ensures.turn c.index.result.now r.is ∙ ap (turn_of c.index.result.now.lane) c.in-Ok.ensures.ok.answer)
    ∙ sym (ap (λ (o : Option LaneState). lane_answer (g.M.Memory.words c.args.mem.now) o) (runs_is c.args.self.now c.args.lane c.in-Some.at r)
    ∙ ap (λ (o : Option Action). lane_found (g.M.Memory.words c.args.mem.now) c.index.result.now.lane o) next)

pub returns-in-Ok-clause-event : goal.returns-in-Ok-clause-event
returns-in-Ok-clause-event g c = λ _.
    let b : ClusterState = state_of c.self.inside in
    let r : RunsAt c.args.self.now c.args.lane c.in-Some.at = now_running b c.args.self.now c.args.lane c.in-Some.at c.in-Some.ensures.some c.index.result.now c.self.view_is c.index.ensures in
    let next : next_of c.index.result.now.lane ≡ Some c.in-Some-next.action = sym c.next.ensures.value ∙ c.in-Some-next.is in
    let turn : c.lane_takes.result ≡ turn_of c.index.result.now.lane c.in-Ok.word = c.lane_takes.ensures.turn c.index.result.now r.is in
    let after = c.lane_takes.ensures.after c.index.result.now r.is in
    lane_acts (g.M.Memory.words c.args.mem.now) (g.M.Memory.words c.exec.new.mem) c.args.self.now c.lane_takes.new.self c.args.lane c.in-Some.at c.in-Ok.word c.in-Some-next.action c.lane_takes.result
    (record { runs = r; next = next; all = ap (λ (x : ClusterState). length x.clients) (sym c.self.view_is) ∙ c.self.invariant.sessions })
    (record { does = c.in-Ok.ensures.ok; turn_is = turn; after = after })
    (made_of (g.M.Memory.words c.args.mem.now) c.args.self.now c.args.lane c.in-Some.at c.in-Ok.word c.in-Some-next.action c.lane_takes.result c.requires r next turn c.in-Ok.ensures.ok.answer)
    (taken_segments c.args.self.now c.lane_takes.new.self c.in-Some.at (left_node c.index.result.now c.in-Ok.word) (made_at c.lane_takes.result) after)

pub returns-in-Ok-clause-segments : goal.returns-in-Ok-clause-segments
returns-in-Ok-clause-segments g c =
    let b : ClusterState = state_of c.self.inside in
    let r : RunsAt c.args.self.now c.args.lane c.in-Some.at = now_running b c.args.self.now c.args.lane c.in-Some.at c.in-Some.ensures.some c.index.result.now c.self.view_is c.index.ensures in
    taken_segments c.args.self.now c.lane_takes.new.self c.in-Some.at (left_node c.index.result.now c.in-Ok.word) (made_at c.lane_takes.result) (c.lane_takes.ensures.after c.index.result.now r.is)

pub returns-in-Err-clause-fails : goal.returns-in-Err-clause-fails
returns-in-Err-clause-fails g c = λ _.
    let b : ClusterState = state_of c.self.inside in
    let r : RunsAt c.args.self.now c.args.lane c.in-Some.at = now_running b c.args.self.now c.args.lane c.in-Some.at c.in-Some.ensures.some c.index.result.now c.self.view_is c.index.ensures in
    let next : next_of c.index.result.now.lane ≡ Some c.in-Some-next.action = sym c.next.ensures.value ∙ c.in-Some-next.is in
    lane_fails_so (g.M.Memory.words c.args.mem.now) (g.M.Memory.words c.exec.new.mem) c.args.self.now c.args.lane c.in-Some.at c.in-Some-next.action r next c.in-Err.ensures.failed

pub returns-in_default-clause-look : goal.returns-in_default-clause-look
returns-in_default-clause-look g c = λ look cell l there e. absurd (none-some _ (ap turn_in e))

pub returns-in_default-next-clause-look : goal.returns-in_default-next-clause-look
returns-in_default-next-clause-look g c = λ look cell l there e. absurd (none-some _ (ap turn_in e))

pub returns-in-Err-clause-look : goal.returns-in-Err-clause-look
returns-in-Err-clause-look g c = λ look cell l there e. absurd (none-some _ (ap turn_in e))

pub returns-in-Ok-clause-look : goal.returns-in-Ok-clause-look
returns-in-Ok-clause-look g c = λ look cell l there e.
    let b : ClusterState = state_of c.self.inside in
    let r : RunsAt c.args.self.now c.args.lane c.in-Some.at = now_running b c.args.self.now c.args.lane c.in-Some.at c.in-Some.ensures.some c.index.result.now c.self.view_is c.index.ensures in
    let next : next_of c.index.result.now.lane ≡ Some c.in-Some-next.action = sym c.next.ensures.value ∙ c.in-Some-next.is in
    let own : IsNode b.segments c.in-Some.at c.index.result.now = c.self.invariant.nodes c.in-Some.at c.index.result.now (ap (λ (y : ClusterState). slice_get y.nodes c.in-Some.at) c.self.view_is ∙ r.is) in
    let turn : c.lane_takes.result ≡ Done (NotOwner look cell) = same_Some c.lane_takes.result (Done (NotOwner look cell)) (ap turn_in e) in
    subst (λ (k : LaneState). IsNoOwner (g.M.Memory.words c.args.mem.now) c.args.lane k look)
    (same_Some c.index.result.now.lane l (sym (runs_is c.args.self.now c.args.lane c.in-Some.at r) ∙ there))
    (no_owner (g.M.Memory.words c.args.mem.now) c.args.lane c.in-Ok.word c.in-Some-next.action c.index.result.now.lane look cell next c.in-Ok.ensures.ok.answer (own.number ∙ r.number)
    (c.lane_takes.ensures.cause c.index.result.now (NotOwner look cell) r.is turn))

pub returns-in-Err-clause-next : goal.returns-in-Err-clause-next
returns-in-Err-clause-next g c = λ _.
    let b : ClusterState = state_of c.self.inside in
    let r : RunsAt c.args.self.now c.args.lane c.in-Some.at = now_running b c.args.self.now c.args.lane c.in-Some.at c.in-Some.ensures.some c.index.result.now c.self.view_is c.index.ensures in
    let next : next_of c.index.result.now.lane ≡ Some c.in-Some-next.action = sym c.next.ensures.value ∙ c.in-Some-next.is in
    ap is_nothing (ap (λ (o : Option LaneState). lane_answer (g.M.Memory.words c.args.mem.now) o) (runs_is c.args.self.now c.args.lane c.in-Some.at r)
    ∙ ap (λ (o : Option Action). lane_found (g.M.Memory.words c.args.mem.now) c.index.result.now.lane o) next)

pub returns-in-Ok-clause-lanes : goal.returns-in-Ok-clause-lanes
returns-in-Ok-clause-lanes g c =
    let b : ClusterState = state_of c.self.inside in
    let r : RunsAt c.args.self.now c.args.lane c.in-Some.at = now_running b c.args.self.now c.args.lane c.in-Some.at c.in-Some.ensures.some c.index.result.now c.self.view_is c.index.ensures in
    taken_lanes c.args.self.now c.lane_takes.new.self c.in-Some.at (left_node c.index.result.now c.in-Ok.word) (made_at c.lane_takes.result) (c.lane_takes.ensures.after c.index.result.now r.is)
