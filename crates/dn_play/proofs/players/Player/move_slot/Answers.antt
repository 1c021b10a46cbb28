use Rattle.std.proofs.Common.{ℕ, List, refl, sym, subst, ◌∙◌}
use Rattle.dn_run.specs.Doing.{Give, Order, Rest}
use Rattle.dn_play.specs.At.{Ends, Goes, Halts, Undone}
use Rattle.dn_play.proofs.Moving.{gives_order, gives_none, can_behind, ends_by, stops_by, ends_rest}
use Rattle.dn_play.proofs.Printed.{on_ok, if_err}
use Rattle.dn_play.proofs.players.Player.move_slot.Goals as goal

pub order-requires : goal.order-requires
order-requires g c =
    let words : List ℕ = g.M.Memory.words c.args.mem.now in
    let mid : List ℕ = g.M.Memory.words c.give.new.mem in record {
      can = can_behind words mid c.args.self.now c.give.new.self c.args.out.now.items c.give.new.out.items (Give c.args.key c.args.lane c.args.whole) (Order c.slot_of.result 0) c.requires.can
          (subst (λ (s : ℕ). Goes words c.args.self.now c.args.out.now.items mid c.give.new.self c.give.new.out.items (Undone (Give c.args.key c.args.lane c.args.whole)) (λ r. Order s 0)) (sym c.slot_of.ensures.value)
          (gives_order words mid c.args.self.now c.give.new.self c.args.out.now.items c.give.new.out.items c.args.key c.args.lane c.args.whole c.in-Ok.outcome (sym c.moves_on.ensures ∙ c.if-moves_on.true) c.in-Ok.ensures.goes));
    }

pub returns-then-moves_on-clause-ends : goal.returns-then-moves_on-clause-ends
returns-then-moves_on-clause-ends g c =
    let words : List ℕ = g.M.Memory.words c.args.mem.now in
    let mid : List ℕ = g.M.Memory.words c.give.new.mem in
    let now : List ℕ = g.M.Memory.words c.order.new.mem in
    let on : Goes words c.args.self.now c.args.out.now.items mid c.give.new.self c.give.new.out.items (Undone (Give c.args.key c.args.lane c.args.whole)) (λ r. Order c.slot_of.result 0) =
    subst (λ (s : ℕ). Goes words c.args.self.now c.args.out.now.items mid c.give.new.self c.give.new.out.items (Undone (Give c.args.key c.args.lane c.args.whole)) (λ r. Order s 0)) (sym c.slot_of.ensures.value)
    (gives_order words mid c.args.self.now c.give.new.self c.args.out.now.items c.give.new.out.items c.args.key c.args.lane c.args.whole c.in-Ok.outcome (sym c.moves_on.ensures ∙ c.if-moves_on.true) c.in-Ok.ensures.goes) in
    on_ok {Q = Ends words c.args.self.now c.args.out.now.items now c.order.new.self c.order.new.out.items (Undone (Give c.args.key c.args.lane c.args.whole))}
    c.order.result (λ ends. record {
      is = λ w lines r at may.
          ends_by w lines mid now c.give.new.self c.order.new.self c.give.new.out.items c.order.new.out.items r (Order c.slot_of.result 0) (on.is w lines r at may) ends;
    }) c.order.ensures.ends

pub returns-then-moves_on-clause-halts : goal.returns-then-moves_on-clause-halts
returns-then-moves_on-clause-halts g c =
    let words : List ℕ = g.M.Memory.words c.args.mem.now in
    let mid : List ℕ = g.M.Memory.words c.give.new.mem in
    let now : List ℕ = g.M.Memory.words c.order.new.mem in
    let on : Goes words c.args.self.now c.args.out.now.items mid c.give.new.self c.give.new.out.items (Undone (Give c.args.key c.args.lane c.args.whole)) (λ r. Order c.slot_of.result 0) =
    subst (λ (s : ℕ). Goes words c.args.self.now c.args.out.now.items mid c.give.new.self c.give.new.out.items (Undone (Give c.args.key c.args.lane c.args.whole)) (λ r. Order s 0)) (sym c.slot_of.ensures.value)
    (gives_order words mid c.args.self.now c.give.new.self c.args.out.now.items c.give.new.out.items c.args.key c.args.lane c.args.whole c.in-Ok.outcome (sym c.moves_on.ensures ∙ c.if-moves_on.true) c.in-Ok.ensures.goes) in
    if_err {P = Halts mid c.give.new.self c.give.new.out.items now c.order.new.self c.order.new.out.items (Undone (Order c.slot_of.result 0))} c.order.result
    (Halts words c.args.self.now c.args.out.now.items now c.order.new.self c.order.new.out.items (Undone (Give c.args.key c.args.lane c.args.whole)))
    (λ stop halts. record {
      is = λ w lines r at may.
          stops_by w lines mid now c.give.new.self c.order.new.self c.give.new.out.items c.order.new.out.items r (Order c.slot_of.result 0) stop (on.is w lines r at may) halts;
    }) c.order.ensures.halts

pub returns-else-moves_on-clause-ends : goal.returns-else-moves_on-clause-ends
returns-else-moves_on-clause-ends g c =
    let words : List ℕ = g.M.Memory.words c.args.mem.now in
    let mid : List ℕ = g.M.Memory.words c.give.new.mem in record {
      is = λ w lines r at may.
          ends_rest w lines mid c.give.new.self c.give.new.out.items r Rest refl
          ((gives_none words mid c.args.self.now c.give.new.self c.args.out.now.items c.give.new.out.items c.args.key c.args.lane c.args.whole c.in-Ok.outcome (sym c.moves_on.ensures ∙ c.if-moves_on.false) c.in-Ok.ensures.goes).is w lines r at may);
    }
