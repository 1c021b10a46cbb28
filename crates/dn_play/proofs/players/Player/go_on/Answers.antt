use Rattle.std.proofs.Common.{IfOk, IfErr, sym, subst}
use Rattle.dn_waiting.specs.declared.calls.Place.{Place}
use Rattle.dn_run.specs.Doing.{moves_at}
use Rattle.dn_play.specs.At.{CanGo, Goes, Halts, Awaits, left_by}
use Rattle.dn_play.proofs.players.Player.go_on.Goals as goal

pub returns-in-Loading-clause-goes : goal.returns-in-Loading-clause-goes
returns-in-Loading-clause-goes g c =
    subst (λ (x : Place). IfOk c.reload.result (λ o. Goes (g.M.Memory.words c.args.mem.now) c.args.self.now c.args.out.now.items (g.M.Memory.words c.reload.new.mem) c.reload.new.self c.reload.new.out.items (Awaits (moves_at c.args.session x)) (left_by o))) (sym c.in-Loading.is) c.reload.ensures.goes

pub returns-in-Loading-clause-halts : goal.returns-in-Loading-clause-halts
returns-in-Loading-clause-halts g c =
    subst (λ (x : Place). IfErr c.reload.result (Halts (g.M.Memory.words c.args.mem.now) c.args.self.now c.args.out.now.items (g.M.Memory.words c.reload.new.mem) c.reload.new.self c.reload.new.out.items (Awaits (moves_at c.args.session x)))) (sym c.in-Loading.is) c.reload.ensures.halts

pub returns-in-Queued-clause-goes : goal.returns-in-Queued-clause-goes
returns-in-Queued-clause-goes g c =
    subst (λ (x : Place). IfOk c.step.result (λ o. Goes (g.M.Memory.words c.args.mem.now) c.args.self.now c.args.out.now.items (g.M.Memory.words c.step.new.mem) c.step.new.self c.step.new.out.items (Awaits (moves_at c.args.session x)) (left_by o))) (sym c.in-Queued.is) c.step.ensures.goes

pub returns-in-Queued-clause-halts : goal.returns-in-Queued-clause-halts
returns-in-Queued-clause-halts g c =
    subst (λ (x : Place). IfErr c.step.result (Halts (g.M.Memory.words c.args.mem.now) c.args.self.now c.args.out.now.items (g.M.Memory.words c.step.new.mem) c.step.new.self c.step.new.out.items (Awaits (moves_at c.args.session x)))) (sym c.in-Queued.is) c.step.ensures.halts

pub returns-in-Begun-clause-goes : goal.returns-in-Begun-clause-goes
returns-in-Begun-clause-goes g c =
    subst (λ (x : Place). IfOk c.step-in-Begun.result (λ o. Goes (g.M.Memory.words c.args.mem.now) c.args.self.now c.args.out.now.items (g.M.Memory.words c.step-in-Begun.new.mem) c.step-in-Begun.new.self c.step-in-Begun.new.out.items (Awaits (moves_at c.args.session x)) (left_by o))) (sym c.in-Begun.is) c.step-in-Begun.ensures.goes

pub returns-in-Begun-clause-halts : goal.returns-in-Begun-clause-halts
returns-in-Begun-clause-halts g c =
    subst (λ (x : Place). IfErr c.step-in-Begun.result (Halts (g.M.Memory.words c.args.mem.now) c.args.self.now c.args.out.now.items (g.M.Memory.words c.step-in-Begun.new.mem) c.step-in-Begun.new.self c.step-in-Begun.new.out.items (Awaits (moves_at c.args.session x)))) (sym c.in-Begun.is) c.step-in-Begun.ensures.halts

pub reload-requires : goal.reload-requires
reload-requires g c = record { can = subst (λ (x : Place). CanGo (g.M.Memory.words c.args.mem.now) c.args.self.now c.args.out.now.items (Awaits (moves_at c.args.session x))) c.in-Loading.is c.requires.can; session = c.requires.session }

pub step-requires : goal.step-requires
step-requires g c = record { can = subst (λ (x : Place). CanGo (g.M.Memory.words c.args.mem.now) c.args.self.now c.args.out.now.items (Awaits (moves_at c.args.session x))) c.in-Queued.is c.requires.can }

pub step-requires-in-Begun : goal.step-requires-in-Begun
step-requires-in-Begun g c = record { can = subst (λ (x : Place). CanGo (g.M.Memory.words c.args.mem.now) c.args.self.now c.args.out.now.items (Awaits (moves_at c.args.session x))) c.in-Begun.is c.requires.can }
