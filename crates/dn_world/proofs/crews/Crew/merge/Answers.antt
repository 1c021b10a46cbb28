use Rattle.std.proofs.Common.{ℕ, ◌≡◌, true, false, List, [], refl, ap, subst, sym, ◌∙◌}
use Rattle.dn_route.specs.CallersOrder.{Told}
use Rattle.dn_callers.specs.Callers.{Standing}
use Rattle.dn_machine.specs.State.{Machine}
use Rattle.dn_machine.specs.Events.{Merger, Acts}
use Rattle.dn_cluster.specs.Acting.{failed, joined}
use Rattle.dn_cluster.specs.Does.{Happens}
use Rattle.dn_cluster.specs.Machine.{merger_in}
use Rattle.dn_cluster.specs.State.{numbered}
use Rattle.dn_cluster.specs.declared.actors.Actor.TheVariants as actor
use Rattle.dn_cluster.specs.declared.actors.Acted.{Acted}
use Rattle.dn_outcomes.specs.State.{World, is_made, on_lane}
use Rattle.dn_outcomes.specs.Steps.{merge, told_by}
use Rattle.dn_outcomes.specs.declared.outcomes.Outcome.{Outcome}
use Rattle.dn_outcomes.specs.declared.outcomes.Outcome.TheVariants as outcome
use Rattle.dn_world.specs.Comes.{Carries, bare, has_failed}
use Rattle.dn_world.specs.Inside.{state_of}
use Rattle.dn_world.specs.State.{CrewState, world_of}
use Rattle.dn_world.proofs.Stepping.{unmade, on_made}
use Rattle.dn_world.proofs.Others.{merged_as, MergeRests, merge_rests, merged_fine}
use Rattle.dn_world.proofs.Refreshing.{not_failed, acts_done, acts_rest, no_fault}
use Rattle.dn_world.proofs.Changes.{stays, counts_done, counts_fault}
use Rattle.dn_world.proofs.crews.Crew.merge.Goals as goal
use Rattle.dn_world.proofs.crews.Crew.merge.Goals.{in-Merger, in-Fault, in_default}

pub returns-then-not-is_made-clause-came : goal.returns-then-not-is_made-clause-came
returns-then-not-is_made-clause-came g c = λ _.
    let words : List ℕ = g.M.Memory.words c.args.mem.now in
    let x : CrewState = c.args.self.now in
    let n : ℕ = c.args.lane in
    stays words x outcome.NoLane (λ w. on_lane w n (merge w n))
    (λ told receipts. unmade (world_of words x told receipts) n ((λ (w : World). merge w n) (world_of words x told receipts)) (sym (c.is_made.ensures words told receipts) ∙ c.if-not-is_made.true))

pub returns : goal.returns
returns g c =
    let words : List ℕ = g.M.Memory.words c.args.mem.now in
    let now : List ℕ = g.M.Memory.words c.act.new.mem in
    let x : CrewState = state_of c.self.inside in
    let n : ℕ = c.args.lane in
    let y : CrewState = record x { cluster = c.act.new.self } in
    let made : (told : List Told) (receipts : List Standing) → is_made (world_of words x told receipts) n ≡ true =
    λ told receipts. subst (λ (z : CrewState). is_made (world_of words z told receipts) n ≡ true) (sym c.self.view_is) (sym (c.is_made.ensures words told receipts) ∙ c.if-not-is_made.false) in
    elim c.match-act.branch [
      | in-Merger w ↦
          record {
            came = λ _. subst (λ (z : CrewState). Carries words z now y (bare c.match-act.result) (λ w. on_lane w n (merge w n))) c.self.view_is
                (subst (λ (o : Outcome). Carries words x now y (bare o) (λ w. on_lane w n (merge w n))) (sym (w.result-is ∙ w.merged.ensures))
                (acts_done words x now c.act.new.self (Acts (Merger n)) (told_by w.in-Merger.turn) (λ w. on_lane w n (merge w n)) (record {
                  happens_so = w.in-Merger.ensures.event refl;
                  segments = c.act.ensures.segments;
                  lanes = c.act.ensures.lanes;
                  waiting = refl;
                  live = refl;
                })
                (λ told receipts. on_made (world_of words x told receipts) n (merge (world_of words x told receipts) n) (made told receipts)
                ∙ merged_as (world_of words x told receipts) n (merger_in (numbered x.cluster.nodes n)) w.in-Merger.turn (w.in-Merger.ensures.answer refl))));
            count = counts_done c.match-act.result _ _ (ap has_failed (w.result-is ∙ w.merged.ensures) ∙ merged_fine w.in-Merger.turn) (w.in-Merger.ensures.count.done refl);
          }
      | in-Fault w ↦ record {
        came = λ done. absurd (no_fault c.match-act.result (outcome.Fault (actor.Merger n)) w.result-is refl done);
        count = counts_fault c.match-act.result _ _ (ap has_failed w.result-is) (w.in-Fault.ensures.count.fault refl);
      }
      | in_default w ↦
          let fine : failed c.act.result ≡ false = not_failed c.act.result w.in_default.not-Fault in
          let rests : (told : List Told) (receipts : List Standing) → MergeRests (world_of words x told receipts) n (merger_in (numbered x.cluster.nodes n)) c.act.result =
          λ told receipts. merge_rests (world_of words x told receipts) n (merger_in (numbered x.cluster.nodes n)) c.act.result w.in_default.not-Merger (c.act.ensures.answer fine) in
          record {
            came = λ _. subst (λ (z : CrewState). Carries words z now y (bare c.match-act.result) (λ w. on_lane w n (merge w n))) c.self.view_is
                (subst (λ (o : Outcome). Carries words x now y (bare o) (λ w. on_lane w n (merge w n))) (sym w.result-is)
                (acts_rest words x now c.act.new.self (Acts (Merger n)) (λ w. on_lane w n (merge w n)) (record {
                  happens_so = subst (λ (a : Acted). Happens words x.cluster now c.act.new.self (joined a) (Acts (Merger n))) (rests [] []).is (c.act.ensures.event fine);
                  segments = c.act.ensures.segments;
                  lanes = c.act.ensures.lanes;
                  waiting = refl;
                  live = refl;
                })
                (λ told receipts. on_made (world_of words x told receipts) n ((λ (w : World). merge w n) (world_of words x told receipts)) (made told receipts) ∙ (rests told receipts).nothing)
                (λ told receipts. ap (λ (m : Machine). record (world_of words x told receipts) { machine = m }) (rests told receipts).same)));
            count = counts_done c.match-act.result _ _ (ap has_failed w.result-is) (c.act.ensures.count.done fine);
          }
    ]
