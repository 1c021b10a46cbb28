use Rattle.std.proofs.Common.{refl, ◌∙◌, ap, arith}
use Rattle.dn_run.specs.Run.{answered_to}
use Rattle.dn_play.proofs.Leading.{leads_now, no_answer, no_loader}
use Rattle.dn_play.proofs.players.Player.load_answered.Goals as goal
use Rattle.dn_play.proofs.Printed.{on_ok, if_err}

pub load-requires-clause-can : goal.load-requires-clause-can
load-requires-clause-can g c =
    let h = c.requires.can in record { start = h.start; lines = h.lines; run = h.run; at = h.at; may_go = h.may_go ∙ ap answered_to c.in-Answered.is }

pub load-requires-clause-session : goal.load-requires-clause-session
load-requires-clause-session g c = c.requires.session c.in-Answered.session (ap answered_to c.in-Answered.is)

pub returns-in-Answered-clause-goes : goal.returns-in-Answered-clause-goes
returns-in-Answered-clause-goes g c =
    on_ok c.load.result (λ h. record { is = λ w lines r at may. h.is w lines r at (may ∙ ap answered_to c.in-Answered.is) }) c.load.ensures.goes

pub returns-in-Answered-clause-halts : goal.returns-in-Answered-clause-halts
returns-in-Answered-clause-halts g c =
    if_err c.load.result _ (λ stop h. record { is = λ w lines r at may. h.is w lines r at (may ∙ ap answered_to c.in-Answered.is) }) c.load.ensures.halts

pub returns-in_default : goal.returns-in_default
returns-in_default g c = record {
  goes = record {
    is = λ w lines r at may.
        leads_now w lines (g.M.Memory.words c.args.mem.now) c.args.self.now c.args.out.now.items r at (no_loader r (may ∙ no_answer c.args.outcome c.in_default.not-Answered));
  };
  halts = tt;
  more = omega arith;
  count = refl;
  faults = tt;
}
