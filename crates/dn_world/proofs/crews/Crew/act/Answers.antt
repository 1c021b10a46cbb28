use Rattle.std.proofs.Common.{ℕ, ◌≡◌, false, List, [], refl, ap, subst}
use Rattle.dn_machine.specs.State.{Machine}
use Rattle.dn_machine.specs.Events.{Lane, Acts}
use Rattle.dn_cluster.specs.Acting.{failed, joined}
use Rattle.dn_cluster.specs.Does.{Happens}
use Rattle.dn_cluster.specs.Machine.{lane_in}
use Rattle.dn_cluster.specs.State.{numbered}
use Rattle.dn_cluster.specs.declared.actors.Acted.{Acted}
use Rattle.dn_route.specs.CallersOrder.{Told}
use Rattle.dn_callers.specs.Callers.{Standing}
use Rattle.dn_lanes.specs.Stepped.{receipt_by}
use Rattle.dn_cluster.specs.declared.actors.Actor.TheVariants as actor
use Rattle.dn_outcomes.specs.Steps.{acts}
use Rattle.dn_outcomes.specs.declared.outcomes.Outcome.TheVariants.{Nothing, Fault}
use Rattle.dn_world.specs.Comes.{Came, Carries, bare}
use Rattle.dn_world.specs.Inside.{state_of}
use Rattle.dn_world.specs.State.{CrewState, world_of}
use Rattle.dn_world.proofs.LaneActs.{lane_turned, LaneRests, lane_rests}
use Rattle.dn_world.proofs.Refreshing.{not_failed, acts_rest}
use Rattle.dn_world.proofs.Changes.{counts_done, counts_fault}
use Rattle.dn_world.proofs.History.{keeps_none}
use Rattle.dn_world.proofs.crews.Crew.act.Goals as goal

pub returns-in-Lane-clause-came : goal.returns-in-Lane-clause-came
returns-in-Lane-clause-came g c = λ _.
    let words : List ℕ = g.M.Memory.words c.args.mem.now in
    let now : List ℕ = g.M.Memory.words c.act.new.mem in
    let x : CrewState = state_of c.self.inside in
    let came : Came = record { outcome = c.turned.result; receipt = receipt_by c.in-Lane.turn } in
    record {
      receipt = receipt_by c.in-Lane.turn;
      kept = c.turned.ensures.kept;
      is = subst (λ (z : CrewState). Carries words z now c.turned.new.self came (λ w. acts w c.args.lane)) c.self.view_is
          (lane_turned words x now c.act.new.self c.turned.new.self c.args.lane c.in-Lane.turn came (record {
            happens_so = c.in-Lane.ensures.event refl;
            segments = c.in-Lane.ensures.segments;
            lanes = c.in-Lane.ensures.lanes;
            waiting = refl;
            live = refl;
          }) (c.in-Lane.ensures.answer refl) refl (c.turned.ensures.came now));
    }

pub returns-in-Lane-clause-count : goal.returns-in-Lane-clause-count
returns-in-Lane-clause-count g c = counts_done c.turned.result _ _ c.turned.ensures.done (c.in-Lane.ensures.count.done refl)

pub returns-in-Fault-clause-count : goal.returns-in-Fault-clause-count
returns-in-Fault-clause-count g c = counts_fault (Fault (actor.Lane c.args.lane)) _ _ refl (c.in-Fault.ensures.count.fault refl)

pub returns-in_default : goal.returns-in_default
returns-in_default g c =
    let words : List ℕ = g.M.Memory.words c.args.mem.now in
    let now : List ℕ = g.M.Memory.words c.act.new.mem in
    let x : CrewState = state_of c.self.inside in
    let n : ℕ = c.args.lane in
    let fine : failed c.act.result ≡ false = not_failed c.act.result c.in_default.not-Fault in
    let rests : (told : List Told) (receipts : List Standing) → LaneRests (world_of words x told receipts) n (lane_in (numbered x.cluster.nodes n)) c.act.result =
    λ told receipts. lane_rests (world_of words x told receipts) n (lane_in (numbered x.cluster.nodes n)) c.act.result c.in_default.not-Lane (c.act.ensures.answer fine) in
    record {
      came = λ _. keeps_none _ _ Nothing (λ came. Carries words c.args.self.now now (record x { cluster = c.act.new.self }) came (λ w. acts w n)) refl
          (subst (λ (z : CrewState). Carries words z now (record x { cluster = c.act.new.self }) (bare Nothing) (λ w. acts w n)) c.self.view_is
          (acts_rest words x now c.act.new.self (Acts (Lane n)) (λ w. acts w n) (record {
            happens_so = subst (λ (a : Acted). Happens words x.cluster now c.act.new.self (joined a) (Acts (Lane n))) (rests [] []).is (c.act.ensures.event fine);
            segments = c.act.ensures.segments;
            lanes = c.act.ensures.lanes;
            waiting = refl;
            live = refl;
          }) (λ told receipts. (rests told receipts).nothing) (λ told receipts. ap (λ (m : Machine). record (world_of words x told receipts) { machine = m }) (rests told receipts).same)));
      count = counts_done Nothing _ _ refl (c.act.ensures.count.done fine);
    }
