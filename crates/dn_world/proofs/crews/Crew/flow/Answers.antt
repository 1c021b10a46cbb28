use Rattle.std.proofs.Common.{ℕ, ◌≡◌, true, false, List, [], refl, ap, subst, sym, ◌∙◌}
use Rattle.dn_route.specs.CallersOrder.{Told}
use Rattle.dn_callers.specs.Callers.{Standing}
use Rattle.dn_machine.specs.State.{Machine}
use Rattle.dn_machine.specs.Events.{Flows}
use Rattle.dn_cluster.specs.Acting.{failed, joined}
use Rattle.dn_cluster.specs.Does.{Happens}
use Rattle.dn_cluster.specs.Machine.{lane_in}
use Rattle.dn_cluster.specs.State.{numbered}
use Rattle.dn_cluster.specs.declared.actors.Actor.TheVariants as actor
use Rattle.dn_cluster.specs.declared.actors.Acted.{Acted}
use Rattle.dn_cluster.specs.declared.actors.Acted.TheVariants as acted
use Rattle.dn_lane.specs.declared.answers.Turn.{Turn}
use Rattle.dn_outcomes.specs.State.{World, is_made, on_lane}
use Rattle.dn_outcomes.specs.Steps.{flow}
use Rattle.dn_outcomes.specs.declared.outcomes.Outcome.{Outcome}
use Rattle.dn_outcomes.specs.declared.outcomes.Outcome.TheVariants as outcome
use Rattle.dn_world.specs.Comes.{Carries, bare, has_failed}
use Rattle.dn_world.specs.Inside.{state_of}
use Rattle.dn_world.specs.State.{CrewState, world_of}
use Rattle.dn_world.proofs.Stepping.{unmade, on_made}
use Rattle.dn_world.proofs.Others.{Flowed, flowed_as, FlowRests, flow_rests}
use Rattle.dn_world.proofs.Refreshing.{not_failed, acts_done, acts_rest, no_fault}
use Rattle.dn_world.proofs.Changes.{stays, counts_done, counts_fault}
use Rattle.dn_world.proofs.crews.Crew.flow.Goals as goal
use Rattle.dn_world.proofs.crews.Crew.flow.Goals.{in-Lane, in-Fault, in_default}

pub returns-then-not-is_made-clause-came : goal.returns-then-not-is_made-clause-came
returns-then-not-is_made-clause-came g c = λ _.
    let words : List ℕ = g.M.Memory.words c.args.mem.now in
    let x : CrewState = c.args.self.now in
    let n : ℕ = c.args.lane in
    stays words x outcome.NoLane (λ w. on_lane w n (flow w n c.args.index))
    (λ told receipts. unmade (world_of words x told receipts) n ((λ (w : World). flow w n c.args.index) (world_of words x told receipts)) (sym (c.is_made.ensures words told receipts) ∙ c.if-not-is_made.true))

pub returns : goal.returns
returns g c =
    let words : List ℕ = g.M.Memory.words c.args.mem.now in
    let now : List ℕ = g.M.Memory.words c.flow.new.mem in
    let x : CrewState = state_of c.self.inside in
    let n : ℕ = c.args.lane in
    let y : CrewState = record x { cluster = c.flow.new.self } in
    let made : (told : List Told) (receipts : List Standing) → is_made (world_of words x told receipts) n ≡ true =
    λ told receipts. subst (λ (z : CrewState). is_made (world_of words z told receipts) n ≡ true) (sym c.self.view_is) (sym (c.is_made.ensures words told receipts) ∙ c.if-not-is_made.false) in
    elim c.match-flow.branch [
      | in-Lane w ↦
          let turn : Turn = w.in-Lane.field-0 in
          let does : (told : List Told) (receipts : List Standing) → Flowed (world_of words x told receipts) n c.args.index (lane_in (numbered x.cluster.nodes n)) turn =
          λ told receipts. flowed_as (world_of words x told receipts) n c.args.index (lane_in (numbered x.cluster.nodes n)) turn (w.in-Lane.ensures.answer refl) in
          record {
            came = λ _. subst (λ (z : CrewState). Carries words z now y (bare c.match-flow.result) (λ w. on_lane w n (flow w n c.args.index))) c.self.view_is
                (subst (λ (o : Outcome). Carries words x now y (bare o) (λ w. on_lane w n (flow w n c.args.index))) (sym w.result-is)
                (acts_done words x now c.flow.new.self (Flows n c.args.index) outcome.Acted (λ w. on_lane w n (flow w n c.args.index)) (record {
                  happens_so = subst (λ (t : Turn). Happens words x.cluster now c.flow.new.self (joined (acted.Lane t)) (Flows n c.args.index)) (does [] []).is (w.in-Lane.ensures.event refl);
                  segments = c.flow.ensures.segments;
                  lanes = c.flow.ensures.lanes;
                  waiting = refl;
                  live = refl;
                })
                (λ told receipts. on_made (world_of words x told receipts) n (flow (world_of words x told receipts) n c.args.index) (made told receipts) ∙ (does told receipts).does)));
            count = counts_done c.match-flow.result _ _ (ap has_failed w.result-is) (w.in-Lane.ensures.count.done refl);
          }
      | in-Fault w ↦ record {
        came = λ done. absurd (no_fault c.match-flow.result (outcome.Fault (actor.Lane n)) w.result-is refl done);
        count = counts_fault c.match-flow.result _ _ (ap has_failed w.result-is) (w.in-Fault.ensures.count.fault refl);
      }
      | in_default w ↦
          let fine : failed c.flow.result ≡ false = not_failed c.flow.result w.in_default.not-Fault in
          let rests : (told : List Told) (receipts : List Standing) → FlowRests (world_of words x told receipts) n c.args.index (lane_in (numbered x.cluster.nodes n)) c.flow.result =
          λ told receipts. flow_rests (world_of words x told receipts) n c.args.index (lane_in (numbered x.cluster.nodes n)) c.flow.result w.in_default.not-Lane (c.flow.ensures.answer fine) in
          record {
            came = λ _. subst (λ (z : CrewState). Carries words z now y (bare c.match-flow.result) (λ w. on_lane w n (flow w n c.args.index))) c.self.view_is
                (subst (λ (o : Outcome). Carries words x now y (bare o) (λ w. on_lane w n (flow w n c.args.index))) (sym w.result-is)
                (acts_rest words x now c.flow.new.self (Flows n c.args.index) (λ w. on_lane w n (flow w n c.args.index)) (record {
                  happens_so = subst (λ (a : Acted). Happens words x.cluster now c.flow.new.self (joined a) (Flows n c.args.index)) (rests [] []).is (c.flow.ensures.event fine);
                  segments = c.flow.ensures.segments;
                  lanes = c.flow.ensures.lanes;
                  waiting = refl;
                  live = refl;
                })
                (λ told receipts. on_made (world_of words x told receipts) n ((λ (w : World). flow w n c.args.index) (world_of words x told receipts)) (made told receipts) ∙ (rests told receipts).nothing)
                (λ told receipts. ap (λ (m : Machine). record (world_of words x told receipts) { machine = m }) (rests told receipts).same)));
            count = counts_done c.match-flow.result _ _ (ap has_failed w.result-is) (c.flow.ensures.count.done fine);
          }
    ]
