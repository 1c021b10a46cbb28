use Rattle.std.proofs.Common.{refl}
use Rattle.dn_outcomes.specs.declared.events.Event.TheVariants.{Add}
use Rattle.dn_play.proofs.Leading.{leads_quiet, stops_quiet}
use Rattle.dn_play.proofs.Stopping.{stops_event, next_more}
use Rattle.dn_play.proofs.players.Player.add.Goals as goal

pub returns-in-Err-clause-halts : goal.returns-in-Err-clause-halts
returns-in-Err-clause-halts g c = record {
  is = λ w lines r at may.
      stops_event w lines (g.M.Memory.words c.args.mem.now) c.args.self.now c.args.out.now.items r (g.M.Memory.words c.event.new.mem) c.event.new.self c.in-Err.stop at (next_more r Add may) c.in-Err.ensures.stops;
}

pub returns-in-Ok-print_add-clause-goes : goal.returns-in-Ok-print_add-clause-goes
returns-in-Ok-print_add-clause-goes g c = record {
  is = λ w lines r at may.
      leads_quiet w lines (g.M.Memory.words c.args.mem.now) c.args.self.now c.args.out.now.items r Add (g.M.Memory.words c.event.new.mem) c.event.new.self c.print_add.new.out.items c.in-Ok.outcome at may
      (c.in-Ok.ensures.gives.is w lines c.args.out.now.items r at tt) refl refl c.in-Ok-print_add.ensures.ok;
}

pub returns-in-Err-print_add-clause-halts : goal.returns-in-Err-print_add-clause-halts
returns-in-Err-print_add-clause-halts g c = record {
  is = λ w lines r at may.
      stops_quiet w lines r Add (g.M.Memory.words c.event.new.mem) c.args.self.now c.event.new.self c.print_add.new.out.items c.in-Ok.outcome c.in-Err-print_add.stop may
      (c.in-Ok.ensures.gives.is w lines c.args.out.now.items r at tt) c.in-Err-print_add.ensures.want;
}
