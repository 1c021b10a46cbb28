use Rattle.dn_outcomes.specs.declared.events.Event.TheVariants.{Monitor}
use Rattle.dn_play.proofs.Leading.{stops_quiet}
use Rattle.dn_play.proofs.Moving.{monitored}
use Rattle.dn_play.proofs.Stopping.{stops_event, next_more}
use Rattle.dn_play.proofs.players.Player.monitor.Goals as goal

pub returns-in-Err-clause-halts : goal.returns-in-Err-clause-halts
returns-in-Err-clause-halts g c = record {
  is = λ w lines r at may.
      stops_event w lines (g.M.Memory.words c.args.mem.now) c.args.self.now c.args.out.now.items r (g.M.Memory.words c.event.new.mem) c.event.new.self c.in-Err.stop at (next_more r Monitor may) c.in-Err.ensures.stops;
}

pub returns-in-Err-print_monitor-clause-halts : goal.returns-in-Err-print_monitor-clause-halts
returns-in-Err-print_monitor-clause-halts g c = record {
  is = λ w lines r at may.
      stops_quiet w lines r Monitor (g.M.Memory.words c.event.new.mem) c.args.self.now c.event.new.self c.print_monitor.new.out.items c.in-Ok.outcome c.in-Err-print_monitor.stop may
      (c.in-Ok.ensures.gives.is w lines c.args.out.now.items r at tt) c.in-Err-print_monitor.ensures.want;
}

pub returns-clause-goes : goal.returns-clause-goes
returns-clause-goes g c = record {
  is = λ w lines r at may.
      monitored w lines (g.M.Memory.words c.args.mem.now) c.args.self.now c.args.out.now.items r (g.M.Memory.words c.event.new.mem) c.event.new.self c.order_told-self.result c.print_monitor.new.out.items c.in-Ok.outcome at may
      (c.in-Ok.ensures.gives.is w lines c.args.out.now.items r at tt) c.order_told-self.ensures c.in-Ok-print_monitor.ensures.ok;
}
