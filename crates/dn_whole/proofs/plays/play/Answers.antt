use Rattle.std.proofs.Common.{subst}
use Rattle.dn_play.specs.At.{Halts, Follow}
use Rattle.dn_play.specs.declared.stops.Stop.{Stop}
use Rattle.dn_play.specs.declared.stops.Stop.TheVariants as stop
use Rattle.dn_whole.specs.Whole.{Plays, StopsPlay}
use Rattle.dn_play.proofs.Printed.{if_ok, if_err}
use Rattle.dn_whole.proofs.Opening.{IsOpen, can_start, reached_lines, can_close, plays_end, plays_long, stops_opening, stops_lines, stops_close}
use Rattle.dn_whole.proofs.plays.play.Goals as goal

pub lines-requires : goal.lines-requires
lines-requires g c = record {
  can = can_start c.args.script (g.M.Memory.words c.args.mem.now) (g.M.Memory.words c.open.new.mem) c.in-Ok.player c.args.out.now.items c.into_vec.result.items (record { started = c.in-Ok.ensures.started; fit = c.requires.fit; empty = c.requires.empty }) c.into_vec.ensures;
}

pub close-requires : goal.close-requires
close-requires g c = record {
  can = can_close c.args.script (g.M.Memory.words c.open.new.mem) (g.M.Memory.words c.lines-2.new.mem) c.in-Ok.player c.lines-2.new.self c.lines-2.new.out.items
      (reached_lines c.args.script (g.M.Memory.words c.args.mem.now) (g.M.Memory.words c.open.new.mem) (g.M.Memory.words c.lines-2.new.mem) c.in-Ok.player c.lines-2.new.self c.args.out.now.items c.lines-2.new.out.items c.into_vec.result.items (record { started = c.in-Ok.ensures.started; fit = c.requires.fit; empty = c.requires.empty }) c.into_vec.ensures c.in-Ok-lines.ensures.all);
}

pub returns-in-Ok-lines-clause-plays : goal.returns-in-Ok-lines-clause-plays
returns-in-Ok-lines-clause-plays g c =
    let begun : IsOpen c.args.script (g.M.Memory.words c.args.mem.now) (g.M.Memory.words c.open.new.mem) c.in-Ok.player c.args.out.now.items = record { started = c.in-Ok.ensures.started; fit = c.requires.fit; empty = c.requires.empty } in
    if_ok c.close.result (Plays c.args.script (g.M.Memory.words c.args.mem.now) (g.M.Memory.words c.close.new.mem) c.close.new.out.items) (λ end closes.
    plays_end c.args.script (g.M.Memory.words c.args.mem.now) (g.M.Memory.words c.open.new.mem) (g.M.Memory.words c.lines-2.new.mem) (g.M.Memory.words c.close.new.mem) c.in-Ok.player c.lines-2.new.self c.args.out.now.items c.lines-2.new.out.items c.close.new.out.items end begun
    (reached_lines c.args.script (g.M.Memory.words c.args.mem.now) (g.M.Memory.words c.open.new.mem) (g.M.Memory.words c.lines-2.new.mem) c.in-Ok.player c.lines-2.new.self c.args.out.now.items c.lines-2.new.out.items c.into_vec.result.items begun c.into_vec.ensures c.in-Ok-lines.ensures.all) closes) c.close.ensures.closes

pub returns-in-Ok-lines-clause-stops : goal.returns-in-Ok-lines-clause-stops
returns-in-Ok-lines-clause-stops g c =
    let begun : IsOpen c.args.script (g.M.Memory.words c.args.mem.now) (g.M.Memory.words c.open.new.mem) c.in-Ok.player c.args.out.now.items = record { started = c.in-Ok.ensures.started; fit = c.requires.fit; empty = c.requires.empty } in
    if_err c.close.result (StopsPlay c.args.script (g.M.Memory.words c.args.mem.now) (g.M.Memory.words c.close.new.mem)) (λ why stops.
    stops_close c.args.script (g.M.Memory.words c.args.mem.now) (g.M.Memory.words c.open.new.mem) (g.M.Memory.words c.lines-2.new.mem) (g.M.Memory.words c.close.new.mem) c.in-Ok.player c.lines-2.new.self c.args.out.now.items c.lines-2.new.out.items why begun
    (reached_lines c.args.script (g.M.Memory.words c.args.mem.now) (g.M.Memory.words c.open.new.mem) (g.M.Memory.words c.lines-2.new.mem) c.in-Ok.player c.lines-2.new.self c.args.out.now.items c.lines-2.new.out.items c.into_vec.result.items begun c.into_vec.ensures c.in-Ok-lines.ensures.all) stops) c.close.ensures.stops

pub returns-in-Err-Long-clause-plays : goal.returns-in-Err-Long-clause-plays
returns-in-Err-Long-clause-plays g c =
    plays_long c.args.script (g.M.Memory.words c.args.mem.now) (g.M.Memory.words c.open.new.mem) (g.M.Memory.words c.lines-2.new.mem) c.in-Ok.player c.lines-2.new.self c.args.out.now.items c.lines-2.new.out.items c.into_vec.result.items (record { started = c.in-Ok.ensures.started; fit = c.requires.fit; empty = c.requires.empty })
    c.into_vec.ensures (subst (λ (x : Stop). Halts (g.M.Memory.words c.open.new.mem) c.in-Ok.player c.args.out.now.items (g.M.Memory.words c.lines-2.new.mem) c.lines-2.new.self c.lines-2.new.out.items (Follow c.into_vec.result.items) x) c.in-Err-Long.field-0-is c.in-Err-Long.ensures.halts)

pub returns-clause-stops : goal.returns-clause-stops
returns-clause-stops g c =
    stops_lines c.args.script (g.M.Memory.words c.args.mem.now) (g.M.Memory.words c.open.new.mem) (g.M.Memory.words c.lines-2.new.mem) c.in-Ok.player c.lines-2.new.self c.args.out.now.items c.lines-2.new.out.items c.into_vec.result.items stop.OutOfMemory (record { started = c.in-Ok.ensures.started; fit = c.requires.fit; empty = c.requires.empty })
    c.into_vec.ensures (λ e. absurd (cc)) (subst (λ (x : Stop). Halts (g.M.Memory.words c.open.new.mem) c.in-Ok.player c.args.out.now.items (g.M.Memory.words c.lines-2.new.mem) c.lines-2.new.self c.lines-2.new.out.items (Follow c.into_vec.result.items) x) c.in-Err-OutOfMemory.field-0-is c.in-Err-OutOfMemory.ensures.halts)

pub returns-in-Err-clause-stops : goal.returns-in-Err-clause-stops
returns-in-Err-clause-stops g c = stops_opening c.args.script (g.M.Memory.words c.args.mem.now) (g.M.Memory.words c.open.new.mem) c.in-Err.stop c.in-Err.ensures.stops
