use Rattle.std.proofs.Common.{refl}
use Rattle.dn_outcomes.specs.declared.events.Event.TheVariants.{Tell}
use Rattle.dn_play.proofs.Leading.{leads_quiet, stops_quiet, next_may}
use Rattle.dn_play.proofs.Stopping.{stops_event, next_more}
use Rattle.dn_play.proofs.players.Player.tell.Goals as goal

pub returns-in-Err-clause-halts : goal.returns-in-Err-clause-halts
returns-in-Err-clause-halts g c = record {
  is = λ w lines r at may.
      stops_event w lines (g.M.Memory.words c.args.mem.now) c.args.self.now c.args.out.now.items r (g.M.Memory.words c.event.new.mem) c.event.new.self c.in-Err.stop at (next_more r (Tell c.args.from c.args.to) may) c.in-Err.ensures.stops;
}

pub returns-in-Ok-print_nothing-clause-goes : goal.returns-in-Ok-print_nothing-clause-goes
returns-in-Ok-print_nothing-clause-goes g c = record {
  is = λ w lines r at may.
      leads_quiet w lines (g.M.Memory.words c.args.mem.now) c.args.self.now c.args.out.now.items r (Tell c.args.from c.args.to) (g.M.Memory.words c.event.new.mem) c.event.new.self c.print_nothing.new.out.items c.in-Ok.outcome at may
      (c.in-Ok.ensures.gives.is w lines c.args.out.now.items r at (next_may w lines (g.M.Memory.words c.args.mem.now) c.args.self.now c.args.out.now.items r (Tell c.args.from c.args.to) at may)) refl refl c.in-Ok-print_nothing.ensures.ok;
}

pub returns-in-Err-print_nothing-clause-halts : goal.returns-in-Err-print_nothing-clause-halts
returns-in-Err-print_nothing-clause-halts g c = record {
  is = λ w lines r at may.
      stops_quiet w lines r (Tell c.args.from c.args.to) (g.M.Memory.words c.event.new.mem) c.args.self.now c.event.new.self c.print_nothing.new.out.items c.in-Ok.outcome c.in-Err-print_nothing.stop may
      (c.in-Ok.ensures.gives.is w lines c.args.out.now.items r at (next_may w lines (g.M.Memory.words c.args.mem.now) c.args.self.now c.args.out.now.items r (Tell c.args.from c.args.to) at may)) c.in-Err-print_nothing.ensures.want;
}

pub event-requires : goal.event-requires
event-requires g c = (let h = c.requires.can in record {
  can = record {
    out = c.args.out.now.items;
    start = h.start;
    lines = h.lines;
    run = h.run;
    at = h.at;
    may = next_may h.start h.lines (g.M.Memory.words c.args.mem.now) c.args.self.now c.args.out.now.items h.run (Tell c.args.from c.args.to) h.at h.may_go;
    plain = refl;
  };
})
