use Rattle.std.proofs.Common.{ℕ, ◌≡◌, List, false, refl, ap, subst, sym, ◌∙◌}
use Rattle.dn_machine.specs.State.{Machine}
use Rattle.dn_machine.specs.Events.{Session, Acts}
use Rattle.dn_cluster.specs.Acting.{joined, failed}
use Rattle.dn_cluster.specs.Does.{Happens}
use Rattle.dn_cluster.specs.Machine.{load_in}
use Rattle.dn_cluster.specs.State.{numbered}
use Rattle.dn_cluster.specs.declared.actors.Actor.TheVariants as actor
use Rattle.dn_cluster.specs.declared.actors.Acted.{Acted}
use Rattle.dn_outcomes.specs.Starts.{refresh}
use Rattle.dn_outcomes.specs.State.{World}
use Rattle.dn_outcomes.specs.declared.outcomes.Outcome.TheVariants.{Nothing, Fault}
use Rattle.dn_outcomes.proofs.Facts.{loading}
use Rattle.dn_world.specs.State.{CrewState, world_of}
use Rattle.dn_world.specs.Inside.{state_of}
use Rattle.dn_world.specs.Comes.{CanBeWorld, has_failed}
use Rattle.dn_world.proofs.Changes.{counts_done, counts_fault}
use Rattle.dn_world.proofs.Refreshing.{number_stays, shows_so, session_answered, not_failed, refresh_routed, acts_rest, carries_as, no_fault, refreshed_none, session_rests, loads_none}
use Rattle.dn_world.proofs.crews.Crew.refresh.Goals as goal
use Rattle.dn_world.proofs.crews.Crew.refresh.Goals.{in-Session, in-Fault, in_default}

pub routed-requires-clause-itself : goal.routed-requires-clause-itself
routed-requires-clause-itself g c =
    let x : CrewState = state_of c.self.inside in
    let can : CanBeWorld (g.M.Memory.words c.args.mem.now) x = subst (λ (z : CrewState). CanBeWorld (g.M.Memory.words c.args.mem.now) z) (sym c.self.view_is) c.requires.can in
    ((c.in-Session.ensures.event refl).is can.told can.receipts can.sound.machine).sound.at.callers.numbers c.args.session c.requires.session

pub routed-requires-clause-loading : goal.routed-requires-clause-loading
routed-requires-clause-loading g c =
    let x : CrewState = state_of c.self.inside in
    let can : CanBeWorld (g.M.Memory.words c.args.mem.now) x = subst (λ (z : CrewState). CanBeWorld (g.M.Memory.words c.args.mem.now) z) (sym c.self.view_is) c.requires.can in
    let slot = session_answered (g.M.Memory.words c.args.mem.now) (load_in (numbered x.cluster.clients c.args.session)) c.in-Session.word (c.in-Session.ensures.answer refl) in
    loading (world_of (g.M.Memory.words c.args.mem.now) x can.told can.receipts) c.args.session slot.0 can.sound c.requires.session slot.1

pub routed-requires-clause-number : goal.routed-requires-clause-number
routed-requires-clause-number g c view e =
    let x : CrewState = state_of c.self.inside in
    let can : CanBeWorld (g.M.Memory.words c.args.mem.now) x = subst (λ (z : CrewState). CanBeWorld (g.M.Memory.words c.args.mem.now) z) (sym c.self.view_is) c.requires.can in
    let w : World = world_of (g.M.Memory.words c.args.mem.now) x can.told can.receipts in
    let slot = session_answered (g.M.Memory.words c.args.mem.now) (load_in (numbered x.cluster.clients c.args.session)) c.in-Session.word (c.in-Session.ensures.answer refl) in
    let so = ((c.in-Session.ensures.event refl).is can.told can.receipts can.sound.machine).happens_so in
    shows_so w c.args.session slot.0 view can.sound c.requires.session slot.1
    (e ∙ ap (λ (m : Machine). (m.callers.sessions c.args.session).number) so ∙ number_stays w.machine c.args.session slot.0 slot.1)

pub returns : goal.returns
returns g c =
    let words : List ℕ = g.M.Memory.words c.args.mem.now in
    let now : List ℕ = g.M.Memory.words c.act.new.mem in
    let x : CrewState = state_of c.self.inside in
    let s : ℕ = c.args.session in
    elim c.match-act.branch [
      | in-Session w ↦
          let slot = session_answered words (load_in (numbered x.cluster.clients s)) w.in-Session.word (w.in-Session.ensures.answer refl) in
          record {
            came = λ _. carries_as words c.args.self.now x now c.match-act.self w.routed.new.self c.match-act.result w.routed.result (λ z. refresh z s) c.self.view_is w.self-is w.result-is
                (refresh_routed words x now c.act.new.self w.routed.new.self s slot.0 w.routed.result (record {
                  happens_so = w.in-Session.ensures.event refl;
                  segments = w.in-Session.ensures.segments;
                  lanes = w.in-Session.ensures.lanes;
                  waiting = refl;
                  live = refl;
                }) slot.1 (w.routed.ensures.came now));
            count = counts_done c.match-act.result _ _ (ap has_failed w.result-is ∙ w.routed.ensures.done) (w.in-Session.ensures.count.done refl);
          }
      | in-Fault w ↦ record { came = λ done. absurd (no_fault c.match-act.result (Fault (actor.Session s)) w.result-is refl done); count = counts_fault c.match-act.result _ _ (ap has_failed w.result-is) (w.in-Fault.ensures.count.fault refl) }
      | in_default w ↦
          let fine : failed c.act.result ≡ false = not_failed c.act.result w.in_default.not-Fault in
          let idle = session_rests words (load_in (numbered x.cluster.clients s)) c.act.result w.in_default.not-Session (c.act.ensures.answer fine) in
          record {
            came = λ _. carries_as words c.args.self.now x now c.match-act.self (record x { cluster = c.act.new.self }) c.match-act.result Nothing (λ z. refresh z s) c.self.view_is w.self-is w.result-is
                (acts_rest words x now c.act.new.self (Acts (Session s)) (λ z. refresh z s) (record {
                  happens_so = subst (λ (a : Acted). Happens words x.cluster now c.act.new.self (joined a) (Acts (Session s))) idle.is (c.act.ensures.event fine);
                  segments = c.act.ensures.segments;
                  lanes = c.act.ensures.lanes;
                  waiting = refl;
                  live = refl;
                }) (λ told receipts. refreshed_none (world_of words x told receipts) s idle.nothing) (λ told receipts. loads_none (world_of words x told receipts) s idle.nothing));
            count = counts_done c.match-act.result _ _ (ap has_failed w.result-is) (c.act.ensures.count.done fine);
          }
    ]
