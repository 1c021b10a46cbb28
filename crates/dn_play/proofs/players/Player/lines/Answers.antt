use Rattle.std.proofs.Common.{List, ℕ, length, ap, refl, sym, subst, ◌∙◌}
use Rattle.std.proofs.lemmas.List.{nil_from_length}
use Rattle.std.specs.Vec.Iter.{into_iter_items, into_iter_len}
use Rattle.dn_script.specs.declared.scripts.Line.{Line}
use Rattle.dn_play.specs.At.{CanGo, Follow, IsFollowed, Reached}
use Rattle.dn_play.specs.declared.players.Player.{Player}
use Rattle.dn_play.proofs.Playing.{whole_next, can_begin, reached_next, halts_next, can_next_line}
use Rattle.dn_play.proofs.players.Player.lines.Goals as goal

pub loop-line-init : goal.loop-line-init
loop-line-init g c =
    let all = sym c.into_iter-line-iterator.ensures.into_iter_gives.0 in record {
      reached = λ w lines r at may. record { count = 0; at = at; followed = subst (λ (ls : List Line). IsFollowed r ls) all may };
      can = subst (λ (ls : List Line). CanGo (g.M.Memory.words c.args.mem.now) c.args.self.now c.args.out.now.items (Follow ls)) all c.requires.can;
      whole = c.into_iter-line-iterator.ensures.into_iter_gives.1 ∙ c.args.lines.ok.0 ∙ ap (λ (ls : List Line). length ls) all;
      faults = refl;
    }

pub line-requires : goal.line-requires
line-requires g c = record {
  can = can_begin (g.M.Memory.words c.loop-line.mem) c.loop-line.self c.loop-line.out.items c.in-Some.line (into_iter_items c.next.new.self)
      (subst (λ (ls : List Line). CanGo (g.M.Memory.words c.loop-line.mem) c.loop-line.self c.loop-line.out.items (Follow ls)) c.in-Some.ensures.steps.0 c.loop-line.invariant.can);
}

pub loop-line-preserved : goal.loop-line-preserved
loop-line-preserved g c =
    let words : List ℕ = g.M.Memory.words c.loop-line.mem in
    let now : List ℕ = g.M.Memory.words c.line.new.mem in
    let p : Player = c.loop-line.self in
    let q : Player = c.line.new.self in
    let rest : List Line = into_iter_items c.next.new.self in record {
      reached = λ w lines r at may. reached_next w lines words now p q c.loop-line.out.items c.line.new.out.items r c.in-Some.line rest
          (subst (λ (ls : List Line). Reached w lines words p c.loop-line.out.items r ls) c.in-Some.ensures.steps.0 (c.loop-line.invariant.reached w lines r at may)) c.in-Ok.ensures.ends;
      can = can_next_line words now p q c.loop-line.out.items c.line.new.out.items c.in-Some.line rest
          (subst (λ (ls : List Line). CanGo words p c.loop-line.out.items (Follow ls)) c.in-Some.ensures.steps.0 c.loop-line.invariant.can) c.in-Ok.ensures.ends;
      whole = whole_next (into_iter_items c.loop-line.line-iterator) rest c.in-Some.line (into_iter_len c.loop-line.line-iterator) (into_iter_len c.next.new.self) c.loop-line.invariant.whole c.in-Some.ensures.steps.0 c.in-Some.ensures.steps.1;
      faults = c.in-Ok.ensures.count ∙ c.loop-line.invariant.faults;
    }

pub returns-in-Err-clause-halts : goal.returns-in-Err-clause-halts
returns-in-Err-clause-halts g c = record {
  is = λ w lines r at may.
      halts_next w lines (g.M.Memory.words c.loop-line.mem) (g.M.Memory.words c.line.new.mem) c.loop-line.self c.line.new.self c.loop-line.out.items c.line.new.out.items r c.in-Some.line (into_iter_items c.next.new.self) c.in-Err.stop
      (subst (λ (ls : List Line). Reached w lines (g.M.Memory.words c.loop-line.mem) c.loop-line.self c.loop-line.out.items r ls) c.in-Some.ensures.steps.0 (c.loop-line.invariant.reached w lines r at may)) c.in-Err.ensures.halts;
}

pub returns-clause-all : goal.returns-clause-all
returns-clause-all g c = record {
  is = λ w lines r at may.
      subst (λ (ls : List Line). Reached w lines (g.M.Memory.words c.loop-line.mem) c.loop-line.self c.loop-line.out.items r ls) (nil_from_length (into_iter_items c.loop-line.line-iterator) (sym c.loop-line.invariant.whole ∙ c.in-None.ensures.steps.0)) (c.loop-line.invariant.reached w lines r at may);
}
