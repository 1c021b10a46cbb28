use Rattle.std.proofs.Common.{IfOk, IfErr, sym, subst}
use Rattle.dn_play.specs.At.{CanGo, Goes, Halts, Awaits, event_by, left_by}
use Rattle.dn_play.specs.declared.players.Action.{Action}
use Rattle.dn_play.proofs.players.Player.act.Goals as goal

pub returns-in-Step-clause-goes : goal.returns-in-Step-clause-goes
returns-in-Step-clause-goes g c =
    subst (λ (x : Action). IfOk c.step.result (λ o. Goes (g.M.Memory.words c.args.mem.now) c.args.self.now c.args.out.now.items (g.M.Memory.words c.step.new.mem) c.step.new.self c.step.new.out.items (Awaits (event_by x)) (left_by o))) (sym c.in-Step.is) c.step.ensures.goes

pub returns-in-Step-clause-halts : goal.returns-in-Step-clause-halts
returns-in-Step-clause-halts g c =
    subst (λ (x : Action). IfErr c.step.result (Halts (g.M.Memory.words c.args.mem.now) c.args.self.now c.args.out.now.items (g.M.Memory.words c.step.new.mem) c.step.new.self c.step.new.out.items (Awaits (event_by x)))) (sym c.in-Step.is) c.step.ensures.halts

pub step-requires : goal.step-requires
step-requires g c = record { can = subst (λ (x : Action). CanGo (g.M.Memory.words c.args.mem.now) c.args.self.now c.args.out.now.items (Awaits (event_by x))) c.in-Step.is c.requires.can }

pub returns-in-Merge-clause-goes : goal.returns-in-Merge-clause-goes
returns-in-Merge-clause-goes g c =
    subst (λ (x : Action). IfOk c.merge.result (λ o. Goes (g.M.Memory.words c.args.mem.now) c.args.self.now c.args.out.now.items (g.M.Memory.words c.merge.new.mem) c.merge.new.self c.merge.new.out.items (Awaits (event_by x)) (left_by o))) (sym c.in-Merge.is) c.merge.ensures.goes

pub returns-in-Merge-clause-halts : goal.returns-in-Merge-clause-halts
returns-in-Merge-clause-halts g c =
    subst (λ (x : Action). IfErr c.merge.result (Halts (g.M.Memory.words c.args.mem.now) c.args.self.now c.args.out.now.items (g.M.Memory.words c.merge.new.mem) c.merge.new.self c.merge.new.out.items (Awaits (event_by x)))) (sym c.in-Merge.is) c.merge.ensures.halts

pub merge-requires : goal.merge-requires
merge-requires g c = record { can = subst (λ (x : Action). CanGo (g.M.Memory.words c.args.mem.now) c.args.self.now c.args.out.now.items (Awaits (event_by x))) c.in-Merge.is c.requires.can }

pub returns-in-Monitor-clause-goes : goal.returns-in-Monitor-clause-goes
returns-in-Monitor-clause-goes g c =
    subst (λ (x : Action). IfOk c.monitor.result (λ o. Goes (g.M.Memory.words c.args.mem.now) c.args.self.now c.args.out.now.items (g.M.Memory.words c.monitor.new.mem) c.monitor.new.self c.monitor.new.out.items (Awaits (event_by x)) (left_by o))) (sym c.in-Monitor.is) c.monitor.ensures.goes

pub returns-in-Monitor-clause-halts : goal.returns-in-Monitor-clause-halts
returns-in-Monitor-clause-halts g c =
    subst (λ (x : Action). IfErr c.monitor.result (Halts (g.M.Memory.words c.args.mem.now) c.args.self.now c.args.out.now.items (g.M.Memory.words c.monitor.new.mem) c.monitor.new.self c.monitor.new.out.items (Awaits (event_by x)))) (sym c.in-Monitor.is) c.monitor.ensures.halts

pub monitor-requires : goal.monitor-requires
monitor-requires g c = record { can = subst (λ (x : Action). CanGo (g.M.Memory.words c.args.mem.now) c.args.self.now c.args.out.now.items (Awaits (event_by x))) c.in-Monitor.is c.requires.can }

pub returns-in-Flow-clause-goes : goal.returns-in-Flow-clause-goes
returns-in-Flow-clause-goes g c =
    subst (λ (x : Action). IfOk c.flow.result (λ o. Goes (g.M.Memory.words c.args.mem.now) c.args.self.now c.args.out.now.items (g.M.Memory.words c.flow.new.mem) c.flow.new.self c.flow.new.out.items (Awaits (event_by x)) (left_by o))) (sym c.in-Flow.is) c.flow.ensures.goes

pub returns-in-Flow-clause-halts : goal.returns-in-Flow-clause-halts
returns-in-Flow-clause-halts g c =
    subst (λ (x : Action). IfErr c.flow.result (Halts (g.M.Memory.words c.args.mem.now) c.args.self.now c.args.out.now.items (g.M.Memory.words c.flow.new.mem) c.flow.new.self c.flow.new.out.items (Awaits (event_by x)))) (sym c.in-Flow.is) c.flow.ensures.halts

pub flow-requires : goal.flow-requires
flow-requires g c = record { can = subst (λ (x : Action). CanGo (g.M.Memory.words c.args.mem.now) c.args.self.now c.args.out.now.items (Awaits (event_by x))) c.in-Flow.is c.requires.can }

pub returns-in-Add-clause-goes : goal.returns-in-Add-clause-goes
returns-in-Add-clause-goes g c =
    subst (λ (x : Action). IfOk c.add.result (λ o. Goes (g.M.Memory.words c.args.mem.now) c.args.self.now c.args.out.now.items (g.M.Memory.words c.add.new.mem) c.add.new.self c.add.new.out.items (Awaits (event_by x)) (left_by o))) (sym c.in-Add.is) c.add.ensures.goes

pub returns-in-Add-clause-halts : goal.returns-in-Add-clause-halts
returns-in-Add-clause-halts g c =
    subst (λ (x : Action). IfErr c.add.result (Halts (g.M.Memory.words c.args.mem.now) c.args.self.now c.args.out.now.items (g.M.Memory.words c.add.new.mem) c.add.new.self c.add.new.out.items (Awaits (event_by x)))) (sym c.in-Add.is) c.add.ensures.halts

pub add-requires : goal.add-requires
add-requires g c = record { can = subst (λ (x : Action). CanGo (g.M.Memory.words c.args.mem.now) c.args.self.now c.args.out.now.items (Awaits (event_by x))) c.in-Add.is c.requires.can }

pub returns-in-Tell-clause-goes : goal.returns-in-Tell-clause-goes
returns-in-Tell-clause-goes g c =
    subst (λ (x : Action). IfOk c.tell.result (λ o. Goes (g.M.Memory.words c.args.mem.now) c.args.self.now c.args.out.now.items (g.M.Memory.words c.tell.new.mem) c.tell.new.self c.tell.new.out.items (Awaits (event_by x)) (left_by o))) (sym c.in-Tell.is) c.tell.ensures.goes

pub returns-in-Tell-clause-halts : goal.returns-in-Tell-clause-halts
returns-in-Tell-clause-halts g c =
    subst (λ (x : Action). IfErr c.tell.result (Halts (g.M.Memory.words c.args.mem.now) c.args.self.now c.args.out.now.items (g.M.Memory.words c.tell.new.mem) c.tell.new.self c.tell.new.out.items (Awaits (event_by x)))) (sym c.in-Tell.is) c.tell.ensures.halts

pub tell-requires : goal.tell-requires
tell-requires g c = record { can = subst (λ (x : Action). CanGo (g.M.Memory.words c.args.mem.now) c.args.self.now c.args.out.now.items (Awaits (event_by x))) c.in-Tell.is c.requires.can }

pub returns-in-Trim-clause-goes : goal.returns-in-Trim-clause-goes
returns-in-Trim-clause-goes g c =
    subst (λ (x : Action). IfOk c.trim.result (λ o. Goes (g.M.Memory.words c.args.mem.now) c.args.self.now c.args.out.now.items (g.M.Memory.words c.trim.new.mem) c.trim.new.self c.trim.new.out.items (Awaits (event_by x)) (left_by o))) (sym c.in-Trim.is) c.trim.ensures.goes

pub returns-in-Trim-clause-halts : goal.returns-in-Trim-clause-halts
returns-in-Trim-clause-halts g c =
    subst (λ (x : Action). IfErr c.trim.result (Halts (g.M.Memory.words c.args.mem.now) c.args.self.now c.args.out.now.items (g.M.Memory.words c.trim.new.mem) c.trim.new.self c.trim.new.out.items (Awaits (event_by x)))) (sym c.in-Trim.is) c.trim.ensures.halts

pub trim-requires : goal.trim-requires
trim-requires g c = record { can = subst (λ (x : Action). CanGo (g.M.Memory.words c.args.mem.now) c.args.self.now c.args.out.now.items (Awaits (event_by x))) c.in-Trim.is c.requires.can }
