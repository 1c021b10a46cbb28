use Rattle.std.proofs.Common.{ℕ, List, sym, subst, ap}
use Rattle.std.specs.Prelude.{OnOk, IfErr}
use Rattle.dn_outcomes.specs.State.{World}
use Rattle.dn_play.specs.At.{CanGo, Goes, Halts, IsMovedBy, doing_in}
use Rattle.dn_play.proofs.Stopping.{stops_print}
use Rattle.dn_play.proofs.players.Player.end_step.Goals as goal

pub returns-in-Err-clause-halts : goal.returns-in-Err-clause-halts
returns-in-Err-clause-halts g c = record {
  is = λ w lines r at may.
      stops_print w lines (g.M.Memory.words c.args.mem.now) c.args.self.now c.print_step.new.out.items r c.in-Err.stop c.in-Err.ensures.want
      (record { count = 0; words = ap (λ (v : World). v.machine.words) (sym at.world) });
}

pub load_answered-requires-clause-can : goal.load_answered-requires-clause-can
load_answered-requires-clause-can g c =
    subst (λ (text : List ℕ). CanGo (g.M.Memory.words c.args.mem.now) c.args.self.now text (IsMovedBy c.args.outcome)) (sym c.in-Ok.ensures.ok) c.requires.can

pub returns-clause-goes : goal.returns-clause-goes
returns-clause-goes g c =
    subst (λ (text : List ℕ). OnOk c.load_answered.result (Goes (g.M.Memory.words c.args.mem.now) c.args.self.now text (g.M.Memory.words c.load_answered.new.mem) c.load_answered.new.self c.load_answered.new.out.items (IsMovedBy c.args.outcome) doing_in)) c.in-Ok.ensures.ok c.load_answered.ensures.goes

pub returns-clause-halts : goal.returns-clause-halts
returns-clause-halts g c =
    subst (λ (text : List ℕ). IfErr c.load_answered.result (Halts (g.M.Memory.words c.args.mem.now) c.args.self.now text (g.M.Memory.words c.load_answered.new.mem) c.load_answered.new.self c.load_answered.new.out.items (IsMovedBy c.args.outcome))) c.in-Ok.ensures.ok c.load_answered.ensures.halts
