use Rattle.std.proofs.Common.{ℕ, List, Some, refl, ap, ◌∙◌}
use Rattle.dn_play.specs.At.{order_doing}
use Rattle.dn_play.specs.declared.players.Player.{Player}
use Rattle.dn_play.proofs.Finishing.{fewer_left}
use Rattle.dn_play.proofs.Moving.{leads_by, stops_by, can_behind, ends_rest, leads_as, can_as}
use Rattle.dn_play.proofs.players.Player.order.Goals as goal

pub loop-left-init : goal.loop-left-init
loop-left-init g c = record {
  leads = λ w lines r at may. record { count = 0; at = at; loads = may.loads; doing = may.doing; left = refl };
  can = c.requires.can;
  faults = refl;
}

pub order_on-requires : goal.order_on-requires
order_on-requires g c = record { can = can_as (g.M.Memory.words c.loop-left.mem) c.loop-left.self c.loop-left.out.items (ap (order_doing c.args.slot) c.in-Some.is) c.loop-left.invariant.can }

pub loop-left-preserved : goal.loop-left-preserved
loop-left-preserved g c =
    let words : List ℕ = g.M.Memory.words c.loop-left.mem in
    let now : List ℕ = g.M.Memory.words c.order_on.new.mem in
    let p : Player = c.loop-left.self in
    let q : Player = c.order_on.new.self in
    let is = ap (order_doing c.args.slot) c.in-Some.is in record {
      leads = λ w lines r at may. leads_by w lines words now p q c.loop-left.out.items c.order_on.new.out.items r (order_doing c.args.slot (Some c.in-Some.moving)) (order_doing c.args.slot c.in-Ok.next)
          (leads_as w lines words p c.loop-left.out.items r is (c.loop-left.invariant.leads w lines r at may)) c.in-Ok.ensures.goes;
      can = can_behind words now p q c.loop-left.out.items c.order_on.new.out.items (order_doing c.args.slot (Some c.in-Some.moving)) (order_doing c.args.slot c.in-Ok.next)
          (can_as words p c.loop-left.out.items is c.loop-left.invariant.can) c.in-Ok.ensures.goes;
      faults = c.in-Ok.ensures.count ∙ c.loop-left.invariant.faults;
    }

pub loop-left-smaller : goal.loop-left-smaller
loop-left-smaller g c =
    let words : List ℕ = g.M.Memory.words c.loop-left.mem in
    let now : List ℕ = g.M.Memory.words c.order_on.new.mem in
    let next = can_behind words now c.loop-left.self c.order_on.new.self c.loop-left.out.items c.order_on.new.out.items (order_doing c.args.slot (Some c.in-Some.moving)) (order_doing c.args.slot c.in-Ok.next)
    (can_as words c.loop-left.self c.loop-left.out.items (ap (order_doing c.args.slot) c.in-Some.is) c.loop-left.invariant.can) c.in-Ok.ensures.goes in
    fewer_left c.loop-left.self.events c.order_on.new.self.events c.in-Ok.ensures.more next.at.few

pub returns-in-Err-clause-halts : goal.returns-in-Err-clause-halts
returns-in-Err-clause-halts g c = record {
  is = λ w lines r at may.
      stops_by w lines (g.M.Memory.words c.loop-left.mem) (g.M.Memory.words c.order_on.new.mem) c.loop-left.self c.order_on.new.self c.loop-left.out.items c.order_on.new.out.items r (order_doing c.args.slot (Some c.in-Some.moving)) c.in-Err.stop
      (leads_as w lines (g.M.Memory.words c.loop-left.mem) c.loop-left.self c.loop-left.out.items r (ap (order_doing c.args.slot) c.in-Some.is) (c.loop-left.invariant.leads w lines r at may)) c.in-Err.ensures.halts;
}

pub returns-clause-ends : goal.returns-clause-ends
returns-clause-ends g c = record {
  is = λ w lines r at may.
      ends_rest w lines (g.M.Memory.words c.loop-left.mem) c.loop-left.self c.loop-left.out.items r (order_doing c.args.slot c.loop-left.left) (ap (order_doing c.args.slot) c.in_default.is) (c.loop-left.invariant.leads w lines r at may);
}
