use Rattle.dn_model.specs.Regions.{slot_of}
use Rattle.dn_monitor.specs.declared.orders.Order.TheVariants.{Move}
use Rattle.dn_outcomes.specs.declared.events.Event.TheVariants.{Give}
use Rattle.dn_play.proofs.Leading.{stops_quiet}
use Rattle.dn_play.proofs.Moving.{give_next, gave, can_give, given_move}
use Rattle.dn_play.proofs.Stopping.{stops_event, next_more}
use Rattle.dn_play.proofs.players.Player.give.Goals as goal

pub event-requires : goal.event-requires
event-requires g c = record { can = can_give (g.M.Memory.words c.args.mem.now) c.args.self.now c.args.out.now.items c.args.key c.args.lane c.slot_of.result c.args.whole c.slot_of.ensures.value c.requires.can }

pub returns-in-Err-clause-halts : goal.returns-in-Err-clause-halts
returns-in-Err-clause-halts g c = record {
  is = λ w lines r at may.
      stops_event w lines (g.M.Memory.words c.args.mem.now) c.args.self.now c.args.out.now.items r (g.M.Memory.words c.event.new.mem) c.event.new.self c.in-Err.stop at
      (next_more r (Give (Move (slot_of c.args.key) c.args.lane)) (give_next r c.args.key c.args.lane c.args.whole may)) c.in-Err.ensures.stops;
}

pub returns-in-Err-print_give-clause-halts : goal.returns-in-Err-print_give-clause-halts
returns-in-Err-print_give-clause-halts g c = record {
  is = λ w lines r at may.
      stops_quiet w lines r (Give (Move (slot_of c.args.key) c.args.lane)) (g.M.Memory.words c.event.new.mem) c.args.self.now c.event.new.self c.print_give.new.out.items c.in-Ok.outcome c.in-Err-print_give.stop
      (give_next r c.args.key c.args.lane c.args.whole may)
      (given_move w lines (g.M.Memory.words c.args.mem.now) c.args.self.now c.args.out.now.items r c.args.key c.args.lane c.slot_of.result c.args.whole (g.M.Memory.words c.event.new.mem) c.event.new.self c.in-Ok.outcome c.slot_of.ensures.value at may
      c.in-Ok.ensures.gives) c.in-Err-print_give.ensures.want;
}

pub returns-clause-goes : goal.returns-clause-goes
returns-clause-goes g c = record {
  is = λ w lines r at may.
      gave w lines (g.M.Memory.words c.args.mem.now) c.args.self.now c.args.out.now.items r c.args.key c.args.lane c.args.whole (g.M.Memory.words c.event.new.mem) c.event.new.self c.order_given-self.result c.print_give.new.out.items c.in-Ok.outcome at may
      (given_move w lines (g.M.Memory.words c.args.mem.now) c.args.self.now c.args.out.now.items r c.args.key c.args.lane c.slot_of.result c.args.whole (g.M.Memory.words c.event.new.mem) c.event.new.self c.in-Ok.outcome c.slot_of.ensures.value at may
      c.in-Ok.ensures.gives) c.order_given-self.ensures (c.in-Ok-print_give.ensures.ok (slot_of c.args.key));
}
