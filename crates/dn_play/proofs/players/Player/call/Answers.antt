use Rattle.std.proofs.Common.{List, ℕ, sym, ◌∙◌}
use Rattle.dn_run.specs.Doing.{Start}
use Rattle.dn_play.specs.At.{Ends, Finishes, Halts, Undone}
use Rattle.dn_play.proofs.Lines.{start_next, can_start, can_finish, leads_call, ends_started, halts_started, ends_only}
use Rattle.dn_play.proofs.Printed.{on_ok, if_err}
use Rattle.dn_play.proofs.players.Player.call.Goals as goal

pub start-requires : goal.start-requires
start-requires g c = record { can = can_start (g.M.Memory.words c.args.mem.now) c.args.self.now c.args.out.now.items c.args.session c.args.named c.args.only c.args.call c.requires.can; session = c.requires.session }

pub returns-in-Err-clause-halts : goal.returns-in-Err-clause-halts
returns-in-Err-clause-halts g c = record { is = λ w lines r at may. c.in-Err.ensures.halts.is w lines r at (start_next r c.args.session c.args.named c.args.only c.args.call may) }

pub finish-requires : goal.finish-requires
finish-requires g c = record {
  can = can_finish (g.M.Memory.words c.args.mem.now) (g.M.Memory.words c.start.new.mem) c.args.self.now c.start.new.self c.args.out.now.items c.start.new.out.items c.args.session c.args.named c.args.only c.args.call c.in-Ok.outcome
      (sym c.runs_on.ensures ∙ c.if-runs_on.true) c.requires.can c.in-Ok.ensures.goes;
  session = c.requires.session;
}

pub returns-then-runs_on-clause-ends : goal.returns-then-runs_on-clause-ends
returns-then-runs_on-clause-ends g c =
    let words : List ℕ = g.M.Memory.words c.args.mem.now in
    let mid : List ℕ = g.M.Memory.words c.start.new.mem in
    let now : List ℕ = g.M.Memory.words c.finish.new.mem in
    on_ok {Q = Ends words c.args.self.now c.args.out.now.items now c.finish.new.self c.finish.new.out.items (Undone (Start c.args.session c.args.named c.args.only c.args.call))}
    c.finish.result (λ ends. record {
      is = λ w lines r at may.
          ends_started w lines words mid now c.args.self.now c.start.new.self c.finish.new.self c.args.out.now.items c.start.new.out.items c.finish.new.out.items r c.args.session
          (leads_call w lines words mid c.args.self.now c.start.new.self c.args.out.now.items c.start.new.out.items r c.args.session c.args.named c.args.only c.args.call c.in-Ok.outcome (sym c.runs_on.ensures ∙ c.if-runs_on.true) at may c.in-Ok.ensures.goes) ends;
    }) c.finish.ensures.ends

pub returns-then-runs_on-clause-halts : goal.returns-then-runs_on-clause-halts
returns-then-runs_on-clause-halts g c =
    let words : List ℕ = g.M.Memory.words c.args.mem.now in
    let mid : List ℕ = g.M.Memory.words c.start.new.mem in
    let now : List ℕ = g.M.Memory.words c.finish.new.mem in
    if_err {P = Halts mid c.start.new.self c.start.new.out.items now c.finish.new.self c.finish.new.out.items (Finishes c.args.session)} c.finish.result
    (Halts words c.args.self.now c.args.out.now.items now c.finish.new.self c.finish.new.out.items (Undone (Start c.args.session c.args.named c.args.only c.args.call)))
    (λ stop halts. record {
      is = λ w lines r at may.
          halts_started w lines mid now c.start.new.self c.finish.new.self c.start.new.out.items c.finish.new.out.items r c.args.session stop
          (leads_call w lines words mid c.args.self.now c.start.new.self c.args.out.now.items c.start.new.out.items r c.args.session c.args.named c.args.only c.args.call c.in-Ok.outcome (sym c.runs_on.ensures ∙ c.if-runs_on.true) at may c.in-Ok.ensures.goes) halts;
    }) c.finish.ensures.halts

pub returns-else-runs_on-clause-ends : goal.returns-else-runs_on-clause-ends
returns-else-runs_on-clause-ends g c = record {
  is = λ w lines r at may.
      ends_only w lines (g.M.Memory.words c.args.mem.now) (g.M.Memory.words c.start.new.mem) c.args.self.now c.start.new.self c.args.out.now.items c.start.new.out.items r c.args.session c.args.named c.args.only c.args.call c.in-Ok.outcome
      (sym c.runs_on.ensures ∙ c.if-runs_on.false) at may c.in-Ok.ensures.goes;
}
