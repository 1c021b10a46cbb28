use Rattle.std.proofs.Common.{Some, IfOk, IfErr, refl, sym, subst}
use Rattle.dn_outcomes.specs.declared.events.Event.TheVariants as event
use Rattle.dn_run.specs.Doing.{Rest, Merge, Drop}
use Rattle.dn_play.specs.At.{CanGo, Goes, Halts, Undone, order_doing}
use Rattle.dn_play.specs.declared.players.orders.Moving.{Moving}
use Rattle.dn_play.proofs.Moving.{can_by, goes_by, halts_by, merge_goes, drop_goes, leaves}
use Rattle.dn_play.proofs.players.Player.order_on.Goals as goal

pub order_turn-requires : goal.order_turn-requires
order_turn-requires g c = record { can = subst (λ (x : Moving). CanGo (g.M.Memory.words c.args.mem.now) c.args.self.now c.args.out.now.items (Undone (order_doing c.args.slot (Some x)))) c.in-Order.is c.requires.can }

pub merge-requires : goal.merge-requires
merge-requires g c = record {
  can = can_by (g.M.Memory.words c.args.mem.now) c.args.self.now c.args.out.now.items (Merge c.args.slot) (event.Merge c.marked-lane.result)
      (merge_goes (g.M.Memory.words c.args.mem.now) c.args.self.now c.args.out.now.items c.args.slot c.marked-lane.result c.marked-lane.ensures)
      (subst (λ (x : Moving). CanGo (g.M.Memory.words c.args.mem.now) c.args.self.now c.args.out.now.items (Undone (order_doing c.args.slot (Some x)))) c.in-Merge.is c.requires.can);
}

pub drop_order-requires : goal.drop_order-requires
drop_order-requires g c = record {
  can = can_by (g.M.Memory.words c.args.mem.now) c.args.self.now c.args.out.now.items Drop event.DropOrder (drop_goes (g.M.Memory.words c.args.mem.now) c.args.self.now c.args.out.now.items)
      (subst (λ (x : Moving). CanGo (g.M.Memory.words c.args.mem.now) c.args.self.now c.args.out.now.items (Undone (order_doing c.args.slot (Some x)))) c.in-Drop.is c.requires.can);
}

pub returns-in-Order-clause-goes : goal.returns-in-Order-clause-goes
returns-in-Order-clause-goes g c =
    subst (λ (x : Moving). IfOk c.order_turn.result (λ next. Goes (g.M.Memory.words c.args.mem.now) c.args.self.now c.args.out.now.items (g.M.Memory.words c.order_turn.new.mem) c.order_turn.new.self c.order_turn.new.out.items
    (Undone (order_doing c.args.slot (Some x))) (λ r. order_doing c.args.slot next))) (sym c.in-Order.is) c.order_turn.ensures.goes

pub returns-in-Order-clause-halts : goal.returns-in-Order-clause-halts
returns-in-Order-clause-halts g c =
    subst (λ (x : Moving). IfErr c.order_turn.result (Halts (g.M.Memory.words c.args.mem.now) c.args.self.now c.args.out.now.items (g.M.Memory.words c.order_turn.new.mem) c.order_turn.new.self c.order_turn.new.out.items
    (Undone (order_doing c.args.slot (Some x))))) (sym c.in-Order.is) c.order_turn.ensures.halts

pub returns-in-Ok-clause-goes : goal.returns-in-Ok-clause-goes
returns-in-Ok-clause-goes g c =
    subst (λ (x : Moving). Goes (g.M.Memory.words c.args.mem.now) c.args.self.now c.args.out.now.items (g.M.Memory.words c.merge.new.mem) c.merge.new.self c.merge.new.out.items (Undone (order_doing c.args.slot (Some x)))
    (λ r. order_doing c.args.slot (Some c.merge_left.result))) (sym c.in-Merge.is)
    (goes_by (g.M.Memory.words c.args.mem.now) (g.M.Memory.words c.merge.new.mem) c.args.self.now c.merge.new.self c.args.out.now.items c.merge.new.out.items (Merge c.args.slot) (order_doing c.args.slot (Some c.merge_left.result))
    (event.Merge c.marked-lane.result) c.in-Ok.outcome (merge_goes (g.M.Memory.words c.args.mem.now) c.args.self.now c.args.out.now.items c.args.slot c.marked-lane.result c.marked-lane.ensures)
    (leaves (g.M.Memory.words c.args.mem.now) c.args.self.now c.args.out.now.items (Merge c.args.slot) c.in-Ok.outcome (order_doing c.args.slot (Some c.merge_left.result)) (λ v. sym (c.merge_left.ensures c.args.slot))) c.in-Ok.ensures.goes)

pub returns-in-Err-clause-halts : goal.returns-in-Err-clause-halts
returns-in-Err-clause-halts g c =
    subst (λ (x : Moving). Halts (g.M.Memory.words c.args.mem.now) c.args.self.now c.args.out.now.items (g.M.Memory.words c.merge.new.mem) c.merge.new.self c.merge.new.out.items (Undone (order_doing c.args.slot (Some x))) c.in-Err.stop)
    (sym c.in-Merge.is)
    (halts_by (g.M.Memory.words c.args.mem.now) (g.M.Memory.words c.merge.new.mem) c.args.self.now c.merge.new.self c.args.out.now.items c.merge.new.out.items (Merge c.args.slot) (event.Merge c.marked-lane.result) c.in-Err.stop
    (merge_goes (g.M.Memory.words c.args.mem.now) c.args.self.now c.args.out.now.items c.args.slot c.marked-lane.result c.marked-lane.ensures) c.in-Err.ensures.halts)

pub returns-in-Ok-drop_order-clause-goes : goal.returns-in-Ok-drop_order-clause-goes
returns-in-Ok-drop_order-clause-goes g c =
    subst (λ (x : Moving). Goes (g.M.Memory.words c.args.mem.now) c.args.self.now c.args.out.now.items (g.M.Memory.words c.drop_order.new.mem) c.drop_order.new.self c.drop_order.new.out.items (Undone (order_doing c.args.slot (Some x)))
    (λ r. Rest)) (sym c.in-Drop.is)
    (goes_by (g.M.Memory.words c.args.mem.now) (g.M.Memory.words c.drop_order.new.mem) c.args.self.now c.drop_order.new.self c.args.out.now.items c.drop_order.new.out.items Drop Rest event.DropOrder c.in-Ok-drop_order.field-0
    (drop_goes (g.M.Memory.words c.args.mem.now) c.args.self.now c.args.out.now.items)
    (leaves (g.M.Memory.words c.args.mem.now) c.args.self.now c.args.out.now.items Drop c.in-Ok-drop_order.field-0 Rest (λ v. refl)) c.in-Ok-drop_order.ensures.goes)

pub returns-in-Err-drop_order-clause-halts : goal.returns-in-Err-drop_order-clause-halts
returns-in-Err-drop_order-clause-halts g c =
    subst (λ (x : Moving). Halts (g.M.Memory.words c.args.mem.now) c.args.self.now c.args.out.now.items (g.M.Memory.words c.drop_order.new.mem) c.drop_order.new.self c.drop_order.new.out.items (Undone (order_doing c.args.slot (Some x)))
    c.in-Err-drop_order.stop) (sym c.in-Drop.is)
    (halts_by (g.M.Memory.words c.args.mem.now) (g.M.Memory.words c.drop_order.new.mem) c.args.self.now c.drop_order.new.self c.args.out.now.items c.drop_order.new.out.items Drop event.DropOrder c.in-Err-drop_order.stop
    (drop_goes (g.M.Memory.words c.args.mem.now) c.args.self.now c.args.out.now.items) c.in-Err-drop_order.ensures.halts)
