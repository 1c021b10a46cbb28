use Rattle.std.proofs.Common.{ℕ, ◌≡◌, ◌≤◌, false, List, [], Option, refl, ap, subst, sym, ◌∙◌, length, arith}
use Rattle.dn_route.specs.CallersOrder.{Told}
use Rattle.dn_callers.specs.Callers.{Standing}
use Rattle.dn_act.specs.declared.actions.Action.{Action}
use Rattle.dn_machine.specs.State.{Machine}
use Rattle.dn_machine.specs.Events.{Monitor, Acts}
use Rattle.dn_cluster.specs.Acting.{failed, joined}
use Rattle.dn_cluster.specs.Does.{Happens}
use Rattle.dn_cluster.specs.declared.actors.Actor.TheVariants as actor
use Rattle.dn_cluster.specs.declared.actors.Acted.{Acted}
use Rattle.dn_outcomes.specs.Orders.{leaves_by, fenced_by, monitor, told_by}
use Rattle.dn_outcomes.specs.declared.outcomes.Outcome.TheVariants as outcome
use Rattle.dn_world.specs.Comes.{has_failed}
use Rattle.dn_outcomes.specs.Awaited.{next_by}
use Rattle.dn_cluster.specs.State.{ClusterState}
use Rattle.dn_world.specs.Inside.{state_of}
use Rattle.dn_world.specs.Opening.{MonitorFails}
use Rattle.dn_world.proofs.Stepping.{not_both}
use Rattle.dn_world.specs.State.{CrewState, world_of}
use Rattle.dn_world.proofs.Others.{monitor_done, MonitorRests, monitor_rests, ordered_fine}
use Rattle.dn_world.proofs.Refreshing.{not_failed, acts_rest, no_fault, carries_as}
use Rattle.dn_world.proofs.Changes.{counts_done, counts_fault}
use Rattle.dn_world.proofs.crews.Crew.monitor.Goals as goal
use Rattle.dn_world.proofs.crews.Crew.monitor.Goals.{in-Monitor, in-Fault, in_default}

pub release-requires : goal.release-requires
release-requires g c =
    let most : length (state_of c.self.inside).cluster.nodes ≤ 63 = subst (λ (z : CrewState). length z.cluster.nodes ≤ 63) (sym c.self.view_is) c.requires.can.sound.made.most in
    record { can = omega (arith, c.act.ensures.lanes, most) }

pub returns : goal.returns
returns g c =
    let words : List ℕ = g.M.Memory.words c.args.mem.now in
    let now : List ℕ = g.M.Memory.words c.act.new.mem in
    let x : CrewState = state_of c.self.inside in
    elim c.match-act.branch [
      | in-Monitor w ↦ record {
        came = λ _. carries_as words c.args.self.now x now c.match-act.self w.unlive.new.self c.match-act.result (told_by w.in-Monitor.turn) monitor c.self.view_is w.self-is (w.result-is ∙ w.told_by.ensures)
            (monitor_done words x now c.act.new.self w.release.new.self w.unlive.new.self w.in-Monitor.turn w.leaves_by-leaving.result w.fenced_by.result (record {
              acts = record {
                happens_so = w.in-Monitor.ensures.event refl;
                segments = w.in-Monitor.ensures.segments;
                lanes = w.in-Monitor.ensures.lanes;
                waiting = refl;
                live = refl;
              };
              answer = w.in-Monitor.ensures.answer refl;
              leaves = w.leaves_by-leaving.ensures
                  ∙ ap (λ (a : Option Action). leaves_by a w.in-Monitor.turn w.monitor_next.result) (c.monitor_next-action.ensures ∙ ap (λ (z : CrewState). next_by z.cluster.monitor) (sym c.self.view_is))
                  ∙ ap (λ (a : Option Action). leaves_by (next_by x.cluster.monitor) w.in-Monitor.turn a) w.monitor_next.ensures;
              fences = w.fenced_by.ensures ∙ ap fenced_by (c.monitor_next-action.ensures ∙ ap (λ (z : CrewState). next_by z.cluster.monitor) (sym c.self.view_is));
              releases = w.release.ensures;
              unlives = w.unlive.ensures;
            }));
        fails = λ t. absurd (not_both (has_failed c.match-act.result) t (ap has_failed (w.result-is ∙ w.told_by.ensures) ∙ ordered_fine w.in-Monitor.turn));
        same = λ t. absurd (not_both (has_failed c.match-act.result) t (ap has_failed (w.result-is ∙ w.told_by.ensures) ∙ ordered_fine w.in-Monitor.turn));
        count = counts_done c.match-act.result _ _ (ap has_failed (w.result-is ∙ w.told_by.ensures) ∙ ordered_fine w.in-Monitor.turn) (w.in-Monitor.ensures.count.done refl);
      }
      | in-Fault w ↦ record {
        came = λ done. absurd (no_fault c.match-act.result (outcome.Fault actor.Monitor) w.result-is refl done);
        fails = λ _. subst (λ (z : CrewState). MonitorFails words z now) c.self.view_is (w.in-Fault.ensures.fails refl);
        same = λ _. w.self-is ∙ ap (λ (k : ClusterState). record x { cluster = k }) (w.in-Fault.ensures.same refl) ∙ c.self.view_is;
        count = counts_fault c.match-act.result _ _ (ap has_failed w.result-is) (w.in-Fault.ensures.count.fault refl);
      }
      | in_default w ↦
          let fine : failed c.act.result ≡ false = not_failed c.act.result w.in_default.not-Fault in
          let rests : (told : List Told) (receipts : List Standing) → MonitorRests (world_of words x told receipts) x.cluster.monitor c.act.result =
          λ told receipts. monitor_rests (world_of words x told receipts) x.cluster.monitor c.act.result w.in_default.not-Monitor (c.act.ensures.answer fine) in
          record {
            came = λ _. carries_as words c.args.self.now x now c.match-act.self (record x { cluster = c.act.new.self }) c.match-act.result outcome.Nothing monitor c.self.view_is w.self-is w.result-is
                (acts_rest words x now c.act.new.self (Acts Monitor) monitor (record {
                  happens_so = subst (λ (a : Acted). Happens words x.cluster now c.act.new.self (joined a) (Acts Monitor)) (rests [] []).is (c.act.ensures.event fine);
                  segments = c.act.ensures.segments;
                  lanes = c.act.ensures.lanes;
                  waiting = refl;
                  live = refl;
                }) (λ told receipts. (rests told receipts).nothing) (λ told receipts. ap (λ (m : Machine). record (world_of words x told receipts) { machine = m }) (rests told receipts).same));
            fails = λ t. absurd (not_both (has_failed c.match-act.result) t (ap has_failed w.result-is));
            same = λ t. absurd (not_both (has_failed c.match-act.result) t (ap has_failed w.result-is));
            count = counts_done c.match-act.result _ _ (ap has_failed w.result-is) (c.act.ensures.count.done fine);
          }
    ]
