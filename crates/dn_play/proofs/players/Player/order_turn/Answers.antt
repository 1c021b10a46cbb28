use Rattle.std.proofs.Common.{ℕ, ◌≡◌, true, false, List, sym, subst, ◌∙◌}
use Rattle.dn_callers.specs.Callers.{Standing}
use Rattle.dn_outcomes.specs.Awaited.{is_releasing}
use Rattle.dn_outcomes.specs.declared.events.Event.TheVariants.{Step, Monitor}
use Rattle.dn_route.specs.CallersOrder.{Told}
use Rattle.dn_world.specs.State.{world_of}
use Rattle.dn_run.specs.Doing.{Doing, Order}
use Rattle.dn_play.specs.At.{order_doing}
use Rattle.dn_play.proofs.Moving.{LeftBy, can_by, goes_by, halts_by, order_goes, order_leaves}
use Rattle.dn_play.proofs.players.Player.order_turn.Goals as goal

pub step-requires : goal.step-requires
step-requires g c = record {
  can = can_by (g.M.Memory.words c.args.mem.now) c.args.self.now c.args.out.now.items (Order c.args.slot c.args.lane) (Step c.args.lane)
      (order_goes (g.M.Memory.words c.args.mem.now) c.args.self.now c.args.out.now.items c.args.slot c.args.lane true (λ ws told receipts. sym c.if-is_releasing.true ∙ c.is_releasing.ensures ws told receipts)) c.requires.can;
}

pub monitor-requires : goal.monitor-requires
monitor-requires g c = record {
  can = can_by (g.M.Memory.words c.args.mem.now) c.args.self.now c.args.out.now.items (Order c.args.slot c.args.lane) Monitor
      (order_goes (g.M.Memory.words c.args.mem.now) c.args.self.now c.args.out.now.items c.args.slot c.args.lane false (λ ws told receipts. sym c.if-is_releasing.false ∙ c.is_releasing.ensures ws told receipts)) c.requires.can;
}

pub returns-in-Ok-clause-goes : goal.returns-in-Ok-clause-goes
returns-in-Ok-clause-goes g c =
    let is : (ws : List ℕ) (told : List Told) (receipts : List Standing) → true ≡ is_releasing (world_of ws c.args.self.now.world.crew told receipts) c.args.lane c.args.slot =
    λ ws told receipts. sym c.if-is_releasing.true ∙ c.is_releasing.ensures ws told receipts in
    goes_by (g.M.Memory.words c.args.mem.now) (g.M.Memory.words c.step.new.mem) c.args.self.now c.step.new.self c.args.out.now.items c.step.new.out.items (Order c.args.slot c.args.lane) (Order c.args.slot c.args.lane) (Step c.args.lane) c.in-Ok.field-0
    (order_goes (g.M.Memory.words c.args.mem.now) c.args.self.now c.args.out.now.items c.args.slot c.args.lane true is)
    (order_leaves (g.M.Memory.words c.args.mem.now) c.args.self.now c.args.out.now.items c.args.slot c.args.lane true c.in-Ok.field-0 is) c.in-Ok.ensures.goes

pub returns-in-Err-clause-halts : goal.returns-in-Err-clause-halts
returns-in-Err-clause-halts g c =
    halts_by (g.M.Memory.words c.args.mem.now) (g.M.Memory.words c.step.new.mem) c.args.self.now c.step.new.self c.args.out.now.items c.step.new.out.items (Order c.args.slot c.args.lane) (Step c.args.lane) c.in-Err.stop
    (order_goes (g.M.Memory.words c.args.mem.now) c.args.self.now c.args.out.now.items c.args.slot c.args.lane true (λ ws told receipts. sym c.if-is_releasing.true ∙ c.is_releasing.ensures ws told receipts)) c.in-Err.ensures.halts

pub returns-in-Ok-monitor-clause-goes : goal.returns-in-Ok-monitor-clause-goes
returns-in-Ok-monitor-clause-goes g c =
    let is : (ws : List ℕ) (told : List Told) (receipts : List Standing) → false ≡ is_releasing (world_of ws c.args.self.now.world.crew told receipts) c.args.lane c.args.slot =
    λ ws told receipts. sym c.if-is_releasing.false ∙ c.is_releasing.ensures ws told receipts in
    goes_by (g.M.Memory.words c.args.mem.now) (g.M.Memory.words c.monitor.new.mem) c.args.self.now c.monitor.new.self c.args.out.now.items c.monitor.new.out.items (Order c.args.slot c.args.lane) (order_doing c.args.slot c.monitor_left.result) Monitor
    c.in-Ok-monitor.outcome (order_goes (g.M.Memory.words c.args.mem.now) c.args.self.now c.args.out.now.items c.args.slot c.args.lane false is)
    (subst (λ (d : Doing). LeftBy (g.M.Memory.words c.args.mem.now) c.args.self.now c.args.out.now.items (Order c.args.slot c.args.lane) c.in-Ok-monitor.outcome d) (sym (c.monitor_left.ensures c.args.slot))
    (order_leaves (g.M.Memory.words c.args.mem.now) c.args.self.now c.args.out.now.items c.args.slot c.args.lane false c.in-Ok-monitor.outcome is)) c.in-Ok-monitor.ensures.goes

pub returns-in-Err-monitor-clause-halts : goal.returns-in-Err-monitor-clause-halts
returns-in-Err-monitor-clause-halts g c =
    halts_by (g.M.Memory.words c.args.mem.now) (g.M.Memory.words c.monitor.new.mem) c.args.self.now c.monitor.new.self c.args.out.now.items c.monitor.new.out.items (Order c.args.slot c.args.lane) Monitor c.in-Err-monitor.stop
    (order_goes (g.M.Memory.words c.args.mem.now) c.args.self.now c.args.out.now.items c.args.slot c.args.lane false (λ ws told receipts. sym c.if-is_releasing.false ∙ c.is_releasing.ensures ws told receipts)) c.in-Err-monitor.ensures.halts
