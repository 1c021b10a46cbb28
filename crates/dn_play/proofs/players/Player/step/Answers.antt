use Rattle.std.proofs.Common.{ℕ, List, ◌++◌, refl, sym, ap, subst, ◌∙◌}
use Rattle.std.proofs.lemmas.List.{append-nil}
use Rattle.dn_monitor.specs.Heirs.{no_heirs}
use Rattle.dn_outcomes.specs.Does.{does}
use Rattle.dn_outcomes.specs.declared.events.Event.TheVariants.{Step}
use Rattle.dn_outcomes.specs.declared.outcomes.Outcome.{Outcome}
use Rattle.dn_run.specs.Happening.{happening}
use Rattle.dn_run.specs.Run.{Run, answered_to, goes_on}
use Rattle.dn_run.specs.Text.{step_text}
use Rattle.dn_play.specs.At.{Leads, left_by}
use Rattle.dn_play.proofs.Leading.{stops_after, to_session, stepped, leads_left, leads_quiet}
use Rattle.dn_play.proofs.Stopping.{step_next, stops_event, next_more}
use Rattle.dn_play.proofs.players.Player.step.Goals as goal

pub returns-in-Ok-Acted-clause-goes : goal.returns-in-Ok-Acted-clause-goes
returns-in-Ok-Acted-clause-goes g c =
    let e = Step c.args.lane in record {
      is = λ w lines r at may.
          let given = c.in-Ok-Acted.ensures.gives.is w lines c.args.out.now.items r at tt in
          subst (λ (o : Outcome). Leads w lines (g.M.Memory.words c.event.new.mem) c.event.new.self c.args.out.now.items r (left_by o r)) c.in-Ok-Acted.field-0-is
          (leads_quiet w lines (g.M.Memory.words c.args.mem.now) c.args.self.now c.args.out.now.items r e (g.M.Memory.words c.event.new.mem) c.event.new.self c.args.out.now.items _ at may given
          (ap answered_to (sym given.outcome ∙ c.in-Ok-Acted.field-0-is)) refl (sym (append-nil c.args.out.now.items)
          ∙ ap (λ (o : Outcome). c.args.out.now.items ++ step_text c.args.lane (happening e (does r.world e no_heirs)).receipt o) (sym c.in-Ok-Acted.field-0-is)));
    }

pub returns-in-Err-clause-halts : goal.returns-in-Err-clause-halts
returns-in-Err-clause-halts g c = record {
  is = λ w lines r at may.
      stops_event w lines (g.M.Memory.words c.args.mem.now) c.args.self.now c.args.out.now.items r (g.M.Memory.words c.event.new.mem) c.event.new.self c.in-Err.stop at (next_more r (Step c.args.lane) may) c.in-Err.ensures.stops;
}

pub end_step-requires-clause-can : goal.end_step-requires-clause-can
end_step-requires-clause-can g c =
    let h = c.requires.can in
    let now : List ℕ = g.M.Memory.words c.event.new.mem in
    let given = c.in-Ok.ensures.gives.is h.start h.lines c.args.out.now.items h.run h.at tt in record {
      start = h.start;
      lines = h.lines;
      run = goes_on h.run (Step c.args.lane) (does h.run.world (Step c.args.lane) no_heirs);
      at = stepped h.start h.lines (g.M.Memory.words c.args.mem.now) c.args.self.now c.args.out.now.items h.run c.args.lane now c.event.new.self _ c.in-Ok.outcome h.at h.may_go given refl;
      may_go = ap answered_to (sym given.outcome);
    }

pub end_step-requires-clause-session : goal.end_step-requires-clause-session
end_step-requires-clause-session g c =
    let h = c.requires.can in
    to_session h.start h.lines (g.M.Memory.words c.args.mem.now) c.args.self.now c.args.out.now.items h.run c.args.lane c.in-Ok.outcome h.at (c.in-Ok.ensures.gives.is h.start h.lines c.args.out.now.items h.run h.at tt).outcome

pub returns-in-Ok-end_step-clause-goes : goal.returns-in-Ok-end_step-clause-goes
returns-in-Ok-end_step-clause-goes g c =
    let mid : List ℕ = g.M.Memory.words c.event.new.mem in
    let now : List ℕ = g.M.Memory.words c.end_step.new.mem in
    let e = Step c.args.lane in record {
      is = λ w lines r at may.
          let given = c.in-Ok.ensures.gives.is w lines c.args.out.now.items r at tt in
          let x : Run = goes_on r e (does r.world e no_heirs) in
          leads_left w lines now c.end_step.new.self c.end_step.new.out.items r x c.in-Ok.outcome (does r.world e no_heirs).outcome (step_next r e may) refl refl given.outcome
          (c.in-Ok-end_step.ensures.goes.is w lines x
          (stepped w lines (g.M.Memory.words c.args.mem.now) c.args.self.now c.args.out.now.items r c.args.lane mid c.event.new.self _ c.in-Ok.outcome at may given refl)
          (ap answered_to (sym given.outcome)));
    }

pub returns-in-Err-end_step-clause-halts : goal.returns-in-Err-end_step-clause-halts
returns-in-Err-end_step-clause-halts g c =
    let mid : List ℕ = g.M.Memory.words c.event.new.mem in
    let now : List ℕ = g.M.Memory.words c.end_step.new.mem in
    let e = Step c.args.lane in record {
      is = λ w lines r at may.
          let given = c.in-Ok.ensures.gives.is w lines c.args.out.now.items r at tt in
          let x : Run = goes_on r e (does r.world e no_heirs) in
          stops_after w lines now c.end_step.new.self c.end_step.new.out.items r x c.in-Err-end_step.stop (step_next r e may)
          (c.in-Err-end_step.ensures.halts.is w lines x
          (stepped w lines (g.M.Memory.words c.args.mem.now) c.args.self.now c.args.out.now.items r c.args.lane mid c.event.new.self _ c.in-Ok.outcome at may given refl)
          (ap answered_to (sym given.outcome)));
    }
