use Rattle.std.proofs.Common.{OnOk, IfErr, sym, subst}
use Rattle.dn_script.specs.declared.scripts.Line.{Line}
use Rattle.dn_run.specs.Doing.{doing_of}
use Rattle.dn_play.specs.At.{CanGo, Ends, Halts, Undone}
use Rattle.dn_play.proofs.Lines.{call_session, ends_unplayed}
use Rattle.dn_play.proofs.players.Player.line.Goals as goal

pub call-requires : goal.call-requires
call-requires g c = record { can = subst (λ (x : Line). CanGo (g.M.Memory.words c.args.mem.now) c.args.self.now c.args.out.now.items (Undone (doing_of x))) c.in-Call.is c.requires.can; session = call_session (g.M.Memory.words c.args.mem.now) c.args.self.now c.args.out.now.items c.in-Call.session c.in-Call.lane c.in-Call.start c.in-Call.call (subst (λ (x : Line). CanGo (g.M.Memory.words c.args.mem.now) c.args.self.now c.args.out.now.items (Undone (doing_of x))) c.in-Call.is c.requires.can) }

pub returns-in-Call-clause-ends : goal.returns-in-Call-clause-ends
returns-in-Call-clause-ends g c =
    subst (λ (x : Line). OnOk c.call.result (Ends (g.M.Memory.words c.args.mem.now) c.args.self.now c.args.out.now.items (g.M.Memory.words c.call.new.mem) c.call.new.self c.call.new.out.items (Undone (doing_of x)))) (sym c.in-Call.is) c.call.ensures.ends

pub returns-in-Call-clause-halts : goal.returns-in-Call-clause-halts
returns-in-Call-clause-halts g c =
    subst (λ (x : Line). IfErr c.call.result (Halts (g.M.Memory.words c.args.mem.now) c.args.self.now c.args.out.now.items (g.M.Memory.words c.call.new.mem) c.call.new.self c.call.new.out.items (Undone (doing_of x)))) (sym c.in-Call.is) c.call.ensures.halts

pub repeat-requires : goal.repeat-requires
repeat-requires g c = record { can = subst (λ (x : Line). CanGo (g.M.Memory.words c.args.mem.now) c.args.self.now c.args.out.now.items (Undone (doing_of x))) c.in-Step.is c.requires.can }

pub returns-in-Step-clause-ends : goal.returns-in-Step-clause-ends
returns-in-Step-clause-ends g c =
    subst (λ (x : Line). OnOk c.repeat.result (Ends (g.M.Memory.words c.args.mem.now) c.args.self.now c.args.out.now.items (g.M.Memory.words c.repeat.new.mem) c.repeat.new.self c.repeat.new.out.items (Undone (doing_of x)))) (sym c.in-Step.is) c.repeat.ensures.ends

pub returns-in-Step-clause-halts : goal.returns-in-Step-clause-halts
returns-in-Step-clause-halts g c =
    subst (λ (x : Line). IfErr c.repeat.result (Halts (g.M.Memory.words c.args.mem.now) c.args.self.now c.args.out.now.items (g.M.Memory.words c.repeat.new.mem) c.repeat.new.self c.repeat.new.out.items (Undone (doing_of x)))) (sym c.in-Step.is) c.repeat.ensures.halts

pub repeat-requires-in-Merge : goal.repeat-requires-in-Merge
repeat-requires-in-Merge g c = record { can = subst (λ (x : Line). CanGo (g.M.Memory.words c.args.mem.now) c.args.self.now c.args.out.now.items (Undone (doing_of x))) c.in-Merge.is c.requires.can }

pub returns-in-Merge-clause-ends : goal.returns-in-Merge-clause-ends
returns-in-Merge-clause-ends g c =
    subst (λ (x : Line). OnOk c.repeat-in-Merge.result (Ends (g.M.Memory.words c.args.mem.now) c.args.self.now c.args.out.now.items (g.M.Memory.words c.repeat-in-Merge.new.mem) c.repeat-in-Merge.new.self c.repeat-in-Merge.new.out.items (Undone (doing_of x)))) (sym c.in-Merge.is) c.repeat-in-Merge.ensures.ends

pub returns-in-Merge-clause-halts : goal.returns-in-Merge-clause-halts
returns-in-Merge-clause-halts g c =
    subst (λ (x : Line). IfErr c.repeat-in-Merge.result (Halts (g.M.Memory.words c.args.mem.now) c.args.self.now c.args.out.now.items (g.M.Memory.words c.repeat-in-Merge.new.mem) c.repeat-in-Merge.new.self c.repeat-in-Merge.new.out.items (Undone (doing_of x)))) (sym c.in-Merge.is) c.repeat-in-Merge.ensures.halts

pub repeat-requires-in-Monitor : goal.repeat-requires-in-Monitor
repeat-requires-in-Monitor g c = record { can = subst (λ (x : Line). CanGo (g.M.Memory.words c.args.mem.now) c.args.self.now c.args.out.now.items (Undone (doing_of x))) c.in-Monitor.is c.requires.can }

pub returns-in-Monitor-clause-ends : goal.returns-in-Monitor-clause-ends
returns-in-Monitor-clause-ends g c =
    subst (λ (x : Line). OnOk c.repeat-in-Monitor.result (Ends (g.M.Memory.words c.args.mem.now) c.args.self.now c.args.out.now.items (g.M.Memory.words c.repeat-in-Monitor.new.mem) c.repeat-in-Monitor.new.self c.repeat-in-Monitor.new.out.items (Undone (doing_of x)))) (sym c.in-Monitor.is) c.repeat-in-Monitor.ensures.ends

pub returns-in-Monitor-clause-halts : goal.returns-in-Monitor-clause-halts
returns-in-Monitor-clause-halts g c =
    subst (λ (x : Line). IfErr c.repeat-in-Monitor.result (Halts (g.M.Memory.words c.args.mem.now) c.args.self.now c.args.out.now.items (g.M.Memory.words c.repeat-in-Monitor.new.mem) c.repeat-in-Monitor.new.self c.repeat-in-Monitor.new.out.items (Undone (doing_of x)))) (sym c.in-Monitor.is) c.repeat-in-Monitor.ensures.halts

pub move_slot-requires : goal.move_slot-requires
move_slot-requires g c = record { can = subst (λ (x : Line). CanGo (g.M.Memory.words c.args.mem.now) c.args.self.now c.args.out.now.items (Undone (doing_of x))) c.in-Move.is c.requires.can }

pub returns-in-Move-clause-ends : goal.returns-in-Move-clause-ends
returns-in-Move-clause-ends g c =
    subst (λ (x : Line). OnOk c.move_slot.result (Ends (g.M.Memory.words c.args.mem.now) c.args.self.now c.args.out.now.items (g.M.Memory.words c.move_slot.new.mem) c.move_slot.new.self c.move_slot.new.out.items (Undone (doing_of x)))) (sym c.in-Move.is) c.move_slot.ensures.ends

pub returns-in-Move-clause-halts : goal.returns-in-Move-clause-halts
returns-in-Move-clause-halts g c =
    subst (λ (x : Line). IfErr c.move_slot.result (Halts (g.M.Memory.words c.args.mem.now) c.args.self.now c.args.out.now.items (g.M.Memory.words c.move_slot.new.mem) c.move_slot.new.self c.move_slot.new.out.items (Undone (doing_of x)))) (sym c.in-Move.is) c.move_slot.ensures.halts

pub repeat-requires-in-Flow : goal.repeat-requires-in-Flow
repeat-requires-in-Flow g c = record { can = subst (λ (x : Line). CanGo (g.M.Memory.words c.args.mem.now) c.args.self.now c.args.out.now.items (Undone (doing_of x))) c.in-Flow.is c.requires.can }

pub returns-in-Flow-clause-ends : goal.returns-in-Flow-clause-ends
returns-in-Flow-clause-ends g c =
    subst (λ (x : Line). OnOk c.repeat-in-Flow.result (Ends (g.M.Memory.words c.args.mem.now) c.args.self.now c.args.out.now.items (g.M.Memory.words c.repeat-in-Flow.new.mem) c.repeat-in-Flow.new.self c.repeat-in-Flow.new.out.items (Undone (doing_of x)))) (sym c.in-Flow.is) c.repeat-in-Flow.ensures.ends

pub returns-in-Flow-clause-halts : goal.returns-in-Flow-clause-halts
returns-in-Flow-clause-halts g c =
    subst (λ (x : Line). IfErr c.repeat-in-Flow.result (Halts (g.M.Memory.words c.args.mem.now) c.args.self.now c.args.out.now.items (g.M.Memory.words c.repeat-in-Flow.new.mem) c.repeat-in-Flow.new.self c.repeat-in-Flow.new.out.items (Undone (doing_of x)))) (sym c.in-Flow.is) c.repeat-in-Flow.ensures.halts

pub repeat-requires-in-Add : goal.repeat-requires-in-Add
repeat-requires-in-Add g c = record { can = subst (λ (x : Line). CanGo (g.M.Memory.words c.args.mem.now) c.args.self.now c.args.out.now.items (Undone (doing_of x))) c.in-Add.is c.requires.can }

pub returns-in-Add-clause-ends : goal.returns-in-Add-clause-ends
returns-in-Add-clause-ends g c =
    subst (λ (x : Line). OnOk c.repeat-in-Add.result (Ends (g.M.Memory.words c.args.mem.now) c.args.self.now c.args.out.now.items (g.M.Memory.words c.repeat-in-Add.new.mem) c.repeat-in-Add.new.self c.repeat-in-Add.new.out.items (Undone (doing_of x)))) (sym c.in-Add.is) c.repeat-in-Add.ensures.ends

pub returns-in-Add-clause-halts : goal.returns-in-Add-clause-halts
returns-in-Add-clause-halts g c =
    subst (λ (x : Line). IfErr c.repeat-in-Add.result (Halts (g.M.Memory.words c.args.mem.now) c.args.self.now c.args.out.now.items (g.M.Memory.words c.repeat-in-Add.new.mem) c.repeat-in-Add.new.self c.repeat-in-Add.new.out.items (Undone (doing_of x)))) (sym c.in-Add.is) c.repeat-in-Add.ensures.halts

pub repeat-requires-in-Tell : goal.repeat-requires-in-Tell
repeat-requires-in-Tell g c = record { can = subst (λ (x : Line). CanGo (g.M.Memory.words c.args.mem.now) c.args.self.now c.args.out.now.items (Undone (doing_of x))) c.in-Tell.is c.requires.can }

pub returns-in-Tell-clause-ends : goal.returns-in-Tell-clause-ends
returns-in-Tell-clause-ends g c =
    subst (λ (x : Line). OnOk c.repeat-in-Tell.result (Ends (g.M.Memory.words c.args.mem.now) c.args.self.now c.args.out.now.items (g.M.Memory.words c.repeat-in-Tell.new.mem) c.repeat-in-Tell.new.self c.repeat-in-Tell.new.out.items (Undone (doing_of x)))) (sym c.in-Tell.is) c.repeat-in-Tell.ensures.ends

pub returns-in-Tell-clause-halts : goal.returns-in-Tell-clause-halts
returns-in-Tell-clause-halts g c =
    subst (λ (x : Line). IfErr c.repeat-in-Tell.result (Halts (g.M.Memory.words c.args.mem.now) c.args.self.now c.args.out.now.items (g.M.Memory.words c.repeat-in-Tell.new.mem) c.repeat-in-Tell.new.self c.repeat-in-Tell.new.out.items (Undone (doing_of x)))) (sym c.in-Tell.is) c.repeat-in-Tell.ensures.halts

pub repeat-requires-in-Trim : goal.repeat-requires-in-Trim
repeat-requires-in-Trim g c = record { can = subst (λ (x : Line). CanGo (g.M.Memory.words c.args.mem.now) c.args.self.now c.args.out.now.items (Undone (doing_of x))) c.in-Trim.is c.requires.can }

pub returns-in-Trim-clause-ends : goal.returns-in-Trim-clause-ends
returns-in-Trim-clause-ends g c =
    subst (λ (x : Line). OnOk c.repeat-in-Trim.result (Ends (g.M.Memory.words c.args.mem.now) c.args.self.now c.args.out.now.items (g.M.Memory.words c.repeat-in-Trim.new.mem) c.repeat-in-Trim.new.self c.repeat-in-Trim.new.out.items (Undone (doing_of x)))) (sym c.in-Trim.is) c.repeat-in-Trim.ensures.ends

pub returns-in-Trim-clause-halts : goal.returns-in-Trim-clause-halts
returns-in-Trim-clause-halts g c =
    subst (λ (x : Line). IfErr c.repeat-in-Trim.result (Halts (g.M.Memory.words c.args.mem.now) c.args.self.now c.args.out.now.items (g.M.Memory.words c.repeat-in-Trim.new.mem) c.repeat-in-Trim.new.self c.repeat-in-Trim.new.out.items (Undone (doing_of x)))) (sym c.in-Trim.is) c.repeat-in-Trim.ensures.halts

pub returns-in_default-clause-ends : goal.returns-in_default-clause-ends
returns-in_default-clause-ends g c = record {
  is = λ w lines r at may.
      ends_unplayed w lines (g.M.Memory.words c.args.mem.now) c.args.self.now c.args.out.now.items r c.args.line (record {
        call = c.in_default.not-Call;
        step = c.in_default.not-Step;
        merge = c.in_default.not-Merge;
        flow = c.in_default.not-Flow;
        add = c.in_default.not-Add;
        tell = c.in_default.not-Tell;
        trim = c.in_default.not-Trim;
        monitor = c.in_default.not-Monitor;
        move = c.in_default.not-Move;
      }) at may;
}
