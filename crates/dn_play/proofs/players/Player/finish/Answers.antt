use Rattle.std.proofs.Common.{ℕ, List, refl, sym, ◌∙◌}
use Rattle.dn_play.specs.declared.players.Player.{Player}
use Rattle.dn_play.proofs.Finishing.{can_move, can_on, leads_on, halts_on, ends_call, fewer_left}
use Rattle.dn_play.proofs.players.Player.finish.Goals as goal

pub loop-place-init : goal.loop-place-init
loop-place-init g c = record {
  leads = λ w lines r at may. record { count = 0; at = at; loads = may.loads; doing = may.doing; left = refl };
  can = c.requires.can;
  faults = refl;
}

pub go_on-requires : goal.go_on-requires
go_on-requires g c = record {
  can = can_move (g.M.Memory.words c.loop-place.mem) c.loop-place.self c.loop-place.out.items c.args.session c.in-Some.place c.loop-place.invariant.can (sym c.place.ensures ∙ c.in-Some.is);
  session = c.requires.session;
}

pub loop-place-preserved : goal.loop-place-preserved
loop-place-preserved g c =
    let words : List ℕ = g.M.Memory.words c.loop-place.mem in
    let now : List ℕ = g.M.Memory.words c.go_on.new.mem in
    let p : Player = c.loop-place.self in
    let q : Player = c.go_on.new.self in
    let there = sym c.place.ensures ∙ c.in-Some.is in record {
      leads = λ w lines r at may. leads_on w lines words now p q c.loop-place.out.items c.go_on.new.out.items r c.args.session c.in-Some.place c.in-Ok.field-0 there (c.loop-place.invariant.leads w lines r at may) c.in-Ok.ensures.goes;
      can = can_on words now p q c.loop-place.out.items c.go_on.new.out.items c.args.session c.in-Some.place c.in-Ok.field-0 there c.loop-place.invariant.can c.in-Ok.ensures.goes;
      faults = c.in-Ok.ensures.count ∙ c.loop-place.invariant.faults;
    }

pub loop-place-smaller : goal.loop-place-smaller
loop-place-smaller g c =
    let words : List ℕ = g.M.Memory.words c.loop-place.mem in
    let now : List ℕ = g.M.Memory.words c.go_on.new.mem in
    let next = can_on words now c.loop-place.self c.go_on.new.self c.loop-place.out.items c.go_on.new.out.items c.args.session c.in-Some.place c.in-Ok.field-0 (sym c.place.ensures ∙ c.in-Some.is) c.loop-place.invariant.can c.in-Ok.ensures.goes in
    fewer_left c.loop-place.self.events c.go_on.new.self.events c.in-Ok.ensures.more next.at.few

pub returns-in-Err-clause-halts : goal.returns-in-Err-clause-halts
returns-in-Err-clause-halts g c = record {
  is = λ w lines r at may.
      halts_on w lines (g.M.Memory.words c.loop-place.mem) (g.M.Memory.words c.go_on.new.mem) c.loop-place.self c.go_on.new.self c.loop-place.out.items c.go_on.new.out.items r c.args.session c.in-Some.place c.in-Err.stop
      (sym c.place.ensures ∙ c.in-Some.is) (c.loop-place.invariant.leads w lines r at may) c.in-Err.ensures.halts;
}

pub returns-clause-ends : goal.returns-clause-ends
returns-clause-ends g c = record {
  is = λ w lines r at may.
      ends_call w lines (g.M.Memory.words c.loop-place.mem) c.loop-place.self c.loop-place.out.items r c.args.session (sym c.place.ensures ∙ c.in_default.is) (c.loop-place.invariant.leads w lines r at may);
}
