use Rattle.std.proofs.Common.{refl}
use Rattle.dn_outcomes.specs.declared.events.Event.TheVariants.{Queue}
use Rattle.dn_tend.specs.declared.tasks.Task.TheVariants.{Trim}
use Rattle.dn_play.proofs.Leading.{leads_quiet, stops_quiet}
use Rattle.dn_play.proofs.Stopping.{stops_event, next_more}
use Rattle.dn_play.proofs.players.Player.trim.Goals as goal

pub returns-in-Err-clause-halts : goal.returns-in-Err-clause-halts
returns-in-Err-clause-halts g c = record {
  is = λ w lines r at may.
      stops_event w lines (g.M.Memory.words c.args.mem.now) c.args.self.now c.args.out.now.items r (g.M.Memory.words c.event.new.mem) c.event.new.self c.in-Err.stop at (next_more r (Queue c.args.lane Trim) may) c.in-Err.ensures.stops;
}

pub returns-in-Ok-print_lane-clause-goes : goal.returns-in-Ok-print_lane-clause-goes
returns-in-Ok-print_lane-clause-goes g c = record {
  is = λ w lines r at may.
      leads_quiet w lines (g.M.Memory.words c.args.mem.now) c.args.self.now c.args.out.now.items r (Queue c.args.lane Trim) (g.M.Memory.words c.event.new.mem) c.event.new.self c.print_lane.new.out.items c.in-Ok.outcome at may
      (c.in-Ok.ensures.gives.is w lines c.args.out.now.items r at tt) refl refl c.in-Ok-print_lane.ensures.ok;
}

pub returns-in-Err-print_lane-clause-halts : goal.returns-in-Err-print_lane-clause-halts
returns-in-Err-print_lane-clause-halts g c = record {
  is = λ w lines r at may.
      stops_quiet w lines r (Queue c.args.lane Trim) (g.M.Memory.words c.event.new.mem) c.args.self.now c.event.new.self c.print_lane.new.out.items c.in-Ok.outcome c.in-Err-print_lane.stop may
      (c.in-Ok.ensures.gives.is w lines c.args.out.now.items r at tt) c.in-Err-print_lane.ensures.want;
}
