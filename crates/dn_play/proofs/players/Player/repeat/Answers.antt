use Rattle.std.proofs.Common.{ℕ, ◌≡◌, ◌-◌, List, refl, sym, ◌∙◌, ap, subst, arith}
use Rattle.dn_outcomes.specs.declared.events.Event.{Event}
use Rattle.dn_run.specs.Doing.{Repeat}
use Rattle.dn_play.specs.At.{CanGo, Repeats, event_by}
use Rattle.dn_play.specs.declared.players.Player.{Player}
use Rattle.dn_play.proofs.Repeating.{can_next, can_again, leads_again, ends_found, halts_again, ends_all}
use Rattle.dn_play.proofs.players.Player.repeat.Goals as goal

pub loop-done-init : goal.loop-done-init
loop-done-init g c =
    let all : c.args.count - 0 ≡ c.args.count = omega arith in record {
      leads = λ w lines r at may. record { count = 0; at = at; loads = may.loads; doing = may.doing ∙ ap (Repeat (event_by c.args.action)) (sym all); left = refl };
      can = subst (λ (n : ℕ). CanGo (g.M.Memory.words c.args.mem.now) c.args.self.now c.args.out.now.items (Repeats (event_by c.args.action) n)) (sym all) c.requires.can;
      faults = refl;
    }

pub act-requires : goal.act-requires
act-requires g c = record {
  can = can_next (g.M.Memory.words c.loop-done.mem) c.loop-done.self c.loop-done.out.items (event_by c.args.action) c.args.count c.loop-done.done c.loop-done-test.true c.loop-done.invariant.can;
}

pub loop-done-preserved : goal.loop-done-preserved
loop-done-preserved g c =
    let words : List ℕ = g.M.Memory.words c.loop-done.mem in
    let now : List ℕ = g.M.Memory.words c.act.new.mem in
    let p : Player = c.loop-done.self in
    let q : Player = c.act.new.self in
    let e : Event = event_by c.args.action in
    let found = sym c.finds_nothing.ensures ∙ c.if-finds_nothing.false in record {
      leads = λ w lines r at may. leads_again w lines words now p q c.loop-done.out.items c.act.new.out.items r e c.args.count c.loop-done.done c.in-Ok.outcome c.loop-done-test.true found
          (c.loop-done.invariant.leads w lines r at may) c.in-Ok.ensures.goes;
      can = can_again words now p q c.loop-done.out.items c.act.new.out.items e c.args.count c.loop-done.done c.in-Ok.outcome c.loop-done-test.true found c.loop-done.invariant.can c.in-Ok.ensures.goes;
      faults = c.in-Ok.ensures.count ∙ c.loop-done.invariant.faults;
    }

pub returns-then-finds_nothing-clause-ends : goal.returns-then-finds_nothing-clause-ends
returns-then-finds_nothing-clause-ends g c = record {
  is = λ w lines r at may.
      ends_found w lines (g.M.Memory.words c.loop-done.mem) (g.M.Memory.words c.act.new.mem) c.loop-done.self c.act.new.self c.loop-done.out.items c.act.new.out.items r (event_by c.args.action) c.args.count c.loop-done.done c.in-Ok.outcome
      c.loop-done-test.true (sym c.finds_nothing.ensures ∙ c.if-finds_nothing.true) (c.loop-done.invariant.leads w lines r at may) c.in-Ok.ensures.goes;
}

pub returns-in-Err-clause-halts : goal.returns-in-Err-clause-halts
returns-in-Err-clause-halts g c = record {
  is = λ w lines r at may.
      halts_again w lines (g.M.Memory.words c.loop-done.mem) (g.M.Memory.words c.act.new.mem) c.loop-done.self c.act.new.self c.loop-done.out.items c.act.new.out.items r (event_by c.args.action) c.args.count c.loop-done.done c.in-Err.stop
      c.loop-done-test.true (c.loop-done.invariant.leads w lines r at may) c.in-Err.ensures.halts;
}

pub returns-clause-ends : goal.returns-clause-ends
returns-clause-ends g c = record {
  is = λ w lines r at may.
      ends_all w lines (g.M.Memory.words c.loop-done.mem) c.loop-done.self c.loop-done.out.items r (event_by c.args.action) (c.args.count - c.loop-done.done) (omega (arith, c.loop-done-test.false))
      (c.loop-done.invariant.leads w lines r at may);
}
